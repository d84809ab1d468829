use Rattle.std.proofs.Common.{◌≡◌, ◌≤◌, ◌++◌, drop}
use Rattle.std.specs.FinMap as map
use Rattle.ak_member.specs.Standing.{member_pairs, members_of}
use Rattle.ak_member.specs.Indices.{indexed_from}
use Rattle.ak_member.proofs.age.counted_indices.Given as goal

-- the counted ones so far, and after them those of the rows that are left
abbrev pub invariant-pairs : goal.invariant-pairs
invariant-pairs l = record {
  few : l.index ≤ l.pair;
  so_far : l.counted.items ++ indexed_from l.index (member_pairs (drop l.pair (map.entries l.members))) ≡ indexed_from 0 (members_of l.members);
}
