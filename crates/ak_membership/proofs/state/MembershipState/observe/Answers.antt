use Rattle.std.proofs.Common.{[], ◌∷◌, ap, ◌∙◌}
use Rattle.ak_member.specs.declared.effect.Effect.TheVariants.{Observed}
use Rattle.ak_membership.proofs.RuleLemmas.{may_observe}
use Rattle.ak_membership.proofs.state.MembershipState.observe.Goals as goal

pub update-requires-clause-may : goal.update-requires-clause-may
update-requires-clause-may c =
    may_observe c.args.self.now c.invariant.ensures c.in_ok-effects.effects c.requires.member c.requires.watching (c.in_ok-effects.ensures ∙ ap (λ them. Observed them ∷ []) c.in_ok-silent.ensures)
