use Rattle.std.proofs.Common.{ap, ◌∙◌}
use Rattle.ak_leader.specs.Leader.{founding_effects}
use Rattle.ak_membership.proofs.RuleLemmas.{may_start}
use Rattle.ak_membership.proofs.state.MembershipState.establish.Goals as goal

pub update-requires-clause-may : goal.update-requires-clause-may
update-requires-clause-may c = may_start c.args.self.now c.invariant.ensures c.in_ok-effects.effects c.requires.member ((c.in_ok-effects.ensures {u = tt}).ok ∙ ap founding_effects c.members.ensures)
