use Rattle.std.proofs.Common.{◌≡◌, ◌+◌, ◌≤◌, length, drop}
use Rattle.std.specs.List.{filter}
use Rattle.std.specs.FinMap as map
use Rattle.ak_member.specs.Standing.{member_pairs}
use Rattle.ak_converge.specs.Tally.{misses}
use Rattle.ak_converge.proofs.tally.missing_in.Given as goal

-- those so far, and those of the pairs that are left
abbrev pub invariant-pairs : goal.invariant-pairs
invariant-pairs l = record {
  few : l.count ≤ l.pair;
  so_far : l.count + length (filter (misses l.seen) (member_pairs (drop l.pair (map.entries l.members)))) ≡ length (filter (misses l.seen) (member_pairs (map.entries l.members)));
}
