use Rattle.std.proofs.Common.{◌≡◌, ℕ, ◌<◌, slice_get}
use Rattle.ak_packet.proofs.same.are_same.Given as goal

-- both are the same before the index
abbrev pub invariant-elements : goal.invariant-elements
invariant-elements g l = (k : ℕ) → k < l.index → slice_get l.one k ≡ slice_get l.other k
