use Rattle.std.proofs.Common.{sym, ap, ◌∙◌}
use Rattle.ak_membership.specs.Membership.{Outcome}
use Rattle.ak_membership.proofs.SilenceLemmas.{unchanged_unless_counting}
use Rattle.ak_membership.proofs.state.MembershipState.updates.Goals as goal

pub returns-then-not-may_count-clause-ok : goal.returns-then-not-may_count-clause-ok
returns-then-not-may_count-clause-ok c =
    let same = sym (unchanged_unless_counting c.args.self.now (sym c.if-not-may_count.ensures)) in
    record { state_after = ap (λ (o : Outcome). o.0) same; change_told = c.unchanged.ensures ∙ ap (λ (o : Outcome). o.1) same }
