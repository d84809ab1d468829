use Rattle.ak_address.proofs.Failing.{on_err}
use Rattle.ak_membership.proofs.EffectLemmas.{effect_there}
use Rattle.ak_membership.proofs.RuleLemmas.{may_let_in}
use Rattle.ak_membership.proofs.state.MembershipState.let_in.Goals as goal

pub update_any-requires-clause-may : goal.update_any-requires-clause-may
update_any-requires-clause-may c = may_let_in c.args.self.now c.invariant.ensures c.in_ok-effects.effects c.requires.member (c.in_ok-effects.ensures {u = tt}).ok

-- where it fails, there is an effect
pub returns-in_err-effects-clause-memory : goal.returns-in_err-effects-clause-memory
returns-in_err-effects-clause-memory c = on_err _ (effect_there _ (c.in_err-effects.ensures {u = tt}).memory)
