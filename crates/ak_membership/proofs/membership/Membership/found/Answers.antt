use Rattle.std.proofs.Common.{subst, true, None, refl, sym, true≢false, OnErr}
use Rattle.ak_membership.specs.Membership.{found}
use Rattle.ak_membership.specs.declared.state.MembershipState.{MembershipState}
use Rattle.ak_membership.specs.MembershipContracts.{IsSameProcess, IsUnknown}
use Rattle.ak_membership.proofs.MembershipLemmas.{made_keeps, made_same}
use Rattle.ak_membership.proofs.Walk.{found_learns}
use Rattle.ak_membership.proofs.membership.Membership.found.Goals as goal

pub invariant_of-self : goal.invariant_of-self
invariant_of-self c = (
  made_keeps c.self.inside.state c.found.new.self c.self.invariant.0 (record { founds = true; asks = None; brings = None }) (found c.self.inside.state) c.found.result (found_learns _ c.self.inside.state refl) c.found.ensures.ok c.found.ensures.err,
  λ is. absurd (true≢false (sym is)),
  c.found.ensures.tally,
)

pub returns-clause-same : goal.returns-clause-same
returns-clause-same c = subst (λ (m : MembershipState). IsSameProcess m c.found.new.self) c.self.view_is (made_same c.self.inside.state c.found.new.self (record { founds = true; asks = None; brings = None }) (found c.self.inside.state) c.found.result (found_learns _ c.self.inside.state refl) c.found.ensures.ok c.found.ensures.err)

pub returns-clause-memory : goal.returns-clause-memory
returns-clause-memory c = subst (λ (m : MembershipState). OnErr c.found.result (IsUnknown m)) c.self.view_is c.found.ensures.memory
