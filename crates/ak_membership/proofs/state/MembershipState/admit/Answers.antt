use Rattle.std.proofs.Common.{[], ◌∷◌, ap, ◌∙◌, sym}
use Rattle.ak_member.specs.declared.effect.Effect.TheVariants.{Joined}
use Rattle.ak_membership.proofs.RuleLemmas.{may_admit}
use Rattle.ak_membership.proofs.state.MembershipState.admit.Goals as goal

pub make-requires-clause-may : goal.make-requires-clause-may
make-requires-clause-may c =
    may_admit c.args.self.now c.invariant.ensures c.in_ok-effects.effects c.args.from.now c.requires.member c.requires.room (c.in_ok-effects.ensures ∙ ap (λ u. Joined u ∷ []) c.in_ok-joined.ensures) (sym c.if-not-may_count.ensures)
