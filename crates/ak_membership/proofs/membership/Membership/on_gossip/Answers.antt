use Rattle.std.proofs.Common.{subst, false, Some, None, refl}
use Rattle.ak_membership.specs.declared.state.MembershipState.{MembershipState}
use Rattle.ak_membership.specs.Membership.{on_gossip}
use Rattle.ak_membership.specs.MembershipContracts.{IsSameProcess, Answers, IsKnownIn}
use Rattle.ak_membership.proofs.MembershipLemmas.{answered_keeps, answered_same}
use Rattle.ak_membership.proofs.Walk.{gossip_learns}
use Rattle.ak_membership.proofs.membership.Membership.on_gossip.Goals as goal

pub invariant_of-self : goal.invariant_of-self
invariant_of-self c = (
  answered_keeps c.self.inside.state c.on_gossip.new.self c.self.invariant.0 (record { founds = false; asks = None; brings = Some c.args.incoming.now }) _ _ c.on_gossip.result (gossip_learns _ c.self.inside.state c.args.incoming.now refl) c.on_gossip.ensures.answers,
  c.on_gossip.ensures.rest,
  c.on_gossip.ensures.tally,
)

pub returns-clause-answers : goal.returns-clause-answers
returns-clause-answers c = subst (λ (m : MembershipState). Answers (IsKnownIn c.args.incoming.now m) (on_gossip c.args.incoming.now m) m c.on_gossip.result c.on_gossip.new.self) c.self.view_is c.on_gossip.ensures.answers

pub returns-clause-same : goal.returns-clause-same
returns-clause-same c = subst (λ (m : MembershipState). IsSameProcess m c.on_gossip.new.self) c.self.view_is (answered_same c.self.inside.state c.on_gossip.new.self (record { founds = false; asks = None; brings = Some c.args.incoming.now }) _ _ c.on_gossip.result (gossip_learns _ c.self.inside.state c.args.incoming.now refl) c.on_gossip.ensures.answers)
