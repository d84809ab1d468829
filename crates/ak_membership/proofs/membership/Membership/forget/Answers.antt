use Rattle.std.proofs.Common.{sym, subst, true≢false}
use Rattle.ak_membership.specs.MembershipContracts.{IsMembership}
use Rattle.ak_membership.proofs.MembershipLemmas.{starts_as_membership}
use Rattle.ak_membership.proofs.membership.Membership.forget.Goals as goal

pub invariant_of-self : goal.invariant_of-self
invariant_of-self c = (subst IsMembership (sym c.forget.ensures.forgot) (starts_as_membership _ _), λ is. absurd (true≢false (sym is)), c.forget.ensures.tally)
