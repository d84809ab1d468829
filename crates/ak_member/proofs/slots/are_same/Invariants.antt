use Rattle.std.proofs.Common.{◌≡◌, ℕ, ◌<◌, slice_get}
use Rattle.ak_member.proofs.slots.are_same.Given as goal

-- both are the same before the slot
abbrev pub invariant-slots : goal.invariant-slots
invariant-slots l = (k : ℕ) → k < l.slot → slice_get l.one.entries k ≡ slice_get l.other.entries k
