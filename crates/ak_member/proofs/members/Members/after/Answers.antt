use Rattle.std.proofs.Common.{◌≡◌, ◌+◌, drop, sym, ap, ◌∙◌, subst}
use Rattle.std.proofs.lemmas.List.{at_drop_more, at_drop_all}
use Rattle.ak_member.specs.View.{after_effect, after_effects, IsAboutKnown}
use Rattle.ak_member.proofs.ViewLaws.{stays_about_known}
use Rattle.ak_member.proofs.members.Members.after.Goals as goal

pub effects-init : goal.effects-init
effects-init c = record {
  left = ap (λ effects. after_effects effects c.args.self) c.as_slice-effect-items.ensures;
  known = λ _ there. there;
}

pub effects-preserved : goal.effects-preserved
effects-preserved c =
    let items = c.as_slice-effect-items.result.now in
    let here : after_effects (drop c.effects.effect-index items) c.effects.members ≡ after_effects (drop (c.effects.effect-index + 1) items) (after_effect c.effect-item.result c.effects.members) =
    at_drop_more (λ effects. after_effects effects c.effects.members) items c.effects.effect-index c.effect-item.result c.effects-test.true
    ∙ ap (λ effect. after_effects (drop (c.effects.effect-index + 1) items) (after_effect effect c.effects.members)) (sym c.effect-item.is) in
    let becomes = (c.in_ok-take_effect.ensures {u = tt}).ok in
    record {
      left = ap (after_effects (drop (c.effects.effect-index + 1) items)) becomes ∙ sym here ∙ c.effects.invariant.left;
      known = λ effect there. subst (λ s. IsAboutKnown s effect) (sym becomes) (stays_about_known c.effect-item.result effect c.effects.members (c.effects.invariant.known effect there));
    }

pub returns-clause-ok : goal.returns-clause-ok
returns-clause-ok c = sym (at_drop_all (λ effects. after_effects effects c.effects.members) c.as_slice-effect-items.result.now c.effects.effect-index c.effects-test.false) ∙ c.effects.invariant.left
