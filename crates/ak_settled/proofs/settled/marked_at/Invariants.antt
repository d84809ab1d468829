use Rattle.std.proofs.Common.{◌≡◌, drop, slice_get}
use Rattle.std.specs.FinMap as map
use Rattle.ak_settled.specs.Ticks.{marked_pairs, marked}
use Rattle.ak_settled.proofs.settled.marked_at.Given as goal

-- so many of the marked ones that are left come before the one that is wanted
abbrev pub invariant-pairs : goal.invariant-pairs
invariant-pairs l = slice_get (marked_pairs (drop l.pair (map.entries l.counters))) l.left ≡ slice_get (marked l.counters) l.index
