use Rattle.std.proofs.Common.{◌≡◌, ◌+◌, ◌≤◌, length, drop}
use Rattle.std.specs.FinMap as map
use Rattle.ak_member.specs.Standing.{tombstone_pairs}
use Rattle.ak_member.proofs.members.tombstones_in.Given as goal

-- those so far, and those of the rows that are left
abbrev pub invariant-pairs : goal.invariant-pairs
invariant-pairs l = record {
  few : l.count ≤ l.pair;
  so_far : l.count + length (tombstone_pairs (drop l.pair (map.entries l.members))) ≡ length (tombstone_pairs (map.entries l.members));
}
