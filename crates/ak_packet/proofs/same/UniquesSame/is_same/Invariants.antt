use Rattle.std.proofs.Common.{◌≡◌, ℕ, ◌<◌, slice_get}
use Rattle.ak_address.specs.Uniques.{in_order}
use Rattle.ak_packet.proofs.same.UniquesSame.is_same.Given as goal

-- both are the same before the index
abbrev pub invariant-processes : goal.invariant-processes
invariant-processes l = (k : ℕ) → k < l.index → slice_get (in_order l.self) k ≡ slice_get (in_order l.other) k
