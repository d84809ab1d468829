use Rattle.std.proofs.Common.{◌≡◌, drop}
use Rattle.ak_member.specs.declared.effect.Effect.{Effect}
use Rattle.ak_member.specs.View.{after_effects, IsAboutKnown}
use Rattle.ak_member.proofs.members.Members.after.Given as goal

-- the effects that are left make of the members what all of them make; whoever was known still is
abbrev pub invariant-effects : goal.invariant-effects
invariant-effects l = record {
  left : after_effects (drop l.effect-index l.effect-items) l.members ≡ after_effects l.effects l.fn.self;
  known : (effect : Effect) → IsAboutKnown l.fn.self effect → IsAboutKnown l.members effect;
}
