use Rattle.std.proofs.Common.{subst, sym, ap, ◌∙◌, IsTrue, ◌↔◌}
use Rattle.ak_reach.specs.Reach.{reported, IsReported}
use Rattle.ak_reach.proofs.ReachLemmas.{reported_means}
use Rattle.ak_reach.proofs.rows.Rows.reported.Goals as goal

pub returns-clause-meaning : goal.returns-clause-meaning
returns-clause-meaning c =
    subst (λ b. IsTrue b ↔ IsReported c.args.self.now c.args.observers.now c.args.subject.now)
    (sym (c.is_reported.ensures ∙ ap (λ rows. reported rows c.args.observers.now c.args.subject.now) c.self.view_is))
    (reported_means c.args.self.now c.args.observers.now c.args.subject.now)
