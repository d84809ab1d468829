use Rattle.std.proofs.Common.{[], ◌∷◌, ap, ◌∙◌}
use Rattle.ak_member.specs.declared.effect.Effect.TheVariants.{Joined}
use Rattle.ak_membership.proofs.RuleLemmas.{may_found}
use Rattle.ak_membership.proofs.state.MembershipState.found.Goals as goal

pub update-requires-clause-may : goal.update-requires-clause-may
update-requires-clause-may c = may_found c.args.self.now c.invariant.ensures c.in_ok-effects.effects c.requires.itself c.if-knows.ensures (c.in_ok-effects.ensures ∙ ap (λ u. Joined u ∷ []) c.in_ok-me.ensures)
