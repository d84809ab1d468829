use Rattle.ak_membership.proofs.RuleLemmas.{may_resolve}
use Rattle.ak_membership.proofs.state.MembershipState.resolve.Goals as goal

pub update-requires-clause-may : goal.update-requires-clause-may
update-requires-clause-may c = may_resolve c.args.self.now c.invariant.ensures c.in_ok-effects.effects c.requires.member c.in_ok-effects.ensures
