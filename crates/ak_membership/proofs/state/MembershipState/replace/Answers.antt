use Rattle.ak_membership.proofs.RuleLemmas.{may_replace}
use Rattle.std.proofs.Common.{ap, ◌∙◌}
use Rattle.ak_membership.specs.Membership.{replaced}
use Rattle.ak_membership.proofs.state.MembershipState.replace.Goals as goal

pub update_any-requires-clause-may : goal.update_any-requires-clause-may
update_any-requires-clause-may c = may_replace c.args.self.now c.invariant.ensures c.in_ok-effects.effects c.args.from.now c.requires.member ((c.in_ok-effects.ensures {u = tt}).ok ∙ ap (replaced c.args.from.now) c.members.ensures)
