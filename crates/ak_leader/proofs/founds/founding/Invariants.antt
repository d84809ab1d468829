use Rattle.std.proofs.Common.{◌≡◌, ◌≤◌, ◌++◌, drop}
use Rattle.std.specs.FinMap as map
use Rattle.ak_leader.specs.Walk.{numbered}
use Rattle.ak_leader.proofs.LeaderLaws.{joining_among}
use Rattle.ak_leader.proofs.founds.founding.Given as goal

-- with those of the pairs that are left, all effects are there
abbrev pub invariant-pairs : goal.invariant-pairs
invariant-pairs l = record {
  few : l.number ≤ l.pair;
  so_far : l.effects ++ numbered l.number (joining_among (drop l.pair (map.entries l.members))) ≡ numbered 0 (joining_among (map.entries l.members));
}
