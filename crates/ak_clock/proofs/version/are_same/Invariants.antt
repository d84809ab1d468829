use Rattle.std.proofs.Common.{◌≡◌, ℕ, ◌<◌, slice_get}
use Rattle.ak_clock.proofs.version.are_same.Given as goal

-- both are the same before the index
abbrev pub invariant-pairs : goal.invariant-pairs
invariant-pairs l = (k : ℕ) → k < l.index → slice_get l.pairs k ≡ slice_get l.others k
