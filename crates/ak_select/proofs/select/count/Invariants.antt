use Rattle.std.proofs.Common.{◌≡◌, ◌+◌, ◌≤◌, length, drop, option_copied}
use Rattle.std.specs.FinMap as map
use Rattle.ak_select.specs.Walk.{candidates_among}
use Rattle.ak_select.proofs.select.count.Given as goal

-- those so far, and those of the pairs that are left
abbrev pub invariant-pairs : goal.invariant-pairs
invariant-pairs l = record {
  few : l.count ≤ l.pair;
  so_far : l.count + length (candidates_among (record { standings = l.members; rows = l.rows }) l.me (option_copied l.seen) (drop l.pair (map.entries l.members))) ≡ length (candidates_among (record { standings = l.members; rows = l.rows }) l.me (option_copied l.seen) (map.entries l.members));
}
