use Rattle.std.proofs.Common.{◌≡◌, ◌+◌, ◌≤◌, length, drop}
use Rattle.std.specs.FinMap as map
use Rattle.ak_settled.specs.Ticks.{marked_pairs, marked}
use Rattle.ak_settled.proofs.settled.marked_in.Given as goal

-- those so far, and those of the pairs that are left
abbrev pub invariant-pairs : goal.invariant-pairs
invariant-pairs l = record {
  few : l.count ≤ l.pair;
  so_far : l.count + length (marked_pairs (drop l.pair (map.entries l.counters))) ≡ length (marked l.counters);
}
