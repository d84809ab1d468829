use Rattle.std.proofs.Common.{◌≡◌, drop, option_copied}
use Rattle.ak_member.specs.View.{observed}
use Rattle.ak_member.proofs.MemberLemmas.{last_of}
use Rattle.ak_member.proofs.effect.last_observed.Given as goal

-- the last that observes is among those that are left, or found already
abbrev pub invariant-effects : goal.invariant-effects
invariant-effects l = last_of (option_copied l.last) (observed (drop l.effect-index l.effects)) ≡ observed l.effects
