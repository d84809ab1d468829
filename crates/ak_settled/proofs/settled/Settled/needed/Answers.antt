use Rattle.std.proofs.Common.{◌≡◌, ◌≢◌, IfOk, OnErr, ap, ◌∙◌, subst}
use Rattle.ak_address.specs.Uniques.{no_one}
use Rattle.ak_settled.specs.Settled.{needed}
use Rattle.ak_settled.proofs.SettledLemmas.{parts_needed}
use Rattle.ak_settled.proofs.settled.Settled.needed.Goals as goal

pub returns-clause-ok : goal.returns-clause-ok
returns-clause-ok c =
    subst (λ s. IfOk c.needed_in.result (λ them. them ≡ s))
    (parts_needed _ _ _ c.self.inside.exists c.self.invariant c.args.margin ∙ ap (λ s. needed c.args.margin s.view) c.self.view_is)
    c.needed_in.ensures.ok

pub returns-clause-memory : goal.returns-clause-memory
returns-clause-memory c =
    subst (λ s. OnErr c.needed_in.result (s ≢ no_one))
    (parts_needed _ _ _ c.self.inside.exists c.self.invariant c.args.margin ∙ ap (λ s. needed c.args.margin s.view) c.self.view_is)
    c.needed_in.ensures.memory
