use Rattle.std.proofs.Common.{◌≡◌, ◌+◌, ◌≤◌, length, drop}
use Rattle.std.specs.List.{filter}
use Rattle.std.specs.FinMap as map
use Rattle.ak_member.specs.Standing.{member_pairs}
use Rattle.ak_reach.specs.Unreachable.{unreachable_members}
use Rattle.ak_converge.specs.Tally.{blocks}
use Rattle.ak_converge.proofs.tally.blocking_in.Given as goal

-- those so far, and those of the pairs that are left
abbrev pub invariant-pairs : goal.invariant-pairs
invariant-pairs l = record {
  few : l.count ≤ l.pair;
  so_far :
      l.count + length (filter (blocks (unreachable_members (record { standings = l.members; rows = l.rows }))) (member_pairs (drop l.pair (map.entries l.members))))
      ≡ length (filter (blocks (unreachable_members (record { standings = l.members; rows = l.rows }))) (member_pairs (map.entries l.members)));
}
