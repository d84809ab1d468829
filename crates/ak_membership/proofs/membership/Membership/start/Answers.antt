use Rattle.std.proofs.Common.{ap, ◌∙◌}
use Rattle.ak_address.specs.Uniques.{no_one}
use Rattle.ak_sight.specs.Counted.{kept_tally_of}
use Rattle.ak_sight.proofs.CountLemmas.{empty_kept}
use Rattle.ak_membership.specs.declared.state.MembershipState.{MembershipState}
use Rattle.std.proofs.Common.{sym, subst, true≢false}
use Rattle.ak_membership.specs.MembershipContracts.{IsMembership}
use Rattle.ak_membership.proofs.MembershipLemmas.{starts_as_membership}
use Rattle.ak_membership.proofs.membership.Membership.start.Goals as goal

pub invariant_of-result : goal.invariant_of-result
invariant_of-result c = (subst IsMembership (sym c.nothing-state.ensures) (starts_as_membership _ _), λ is. absurd (true≢false (sym is)), c.empty.ensures ∙ empty_kept c.in_ok-settings.settings.role no_one ∙ ap (λ (m : MembershipState). kept_tally_of m.settings.role m.gossip) (sym c.nothing-state.ensures))
