use Rattle.std.proofs.Common.{◌≡◌, take}
use Rattle.ak_member.proofs.effect.copied.Given as goal

-- as many as were seen
abbrev pub invariant-effects : goal.invariant-effects
invariant-effects l = l.copies.items ≡ take l.effect-index l.effects
