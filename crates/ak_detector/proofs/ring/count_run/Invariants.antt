use Rattle.std.proofs.Common.{◌≡◌, ◌-◌, ◌≤◌, drop, length, take}
use Rattle.std.specs.FinMap as map
use Rattle.ak_detector.specs.Sides.{names_of, run}
use Rattle.ak_detector.proofs.ring.count_run.Given as goal

-- as many are left to count as after all pairs
abbrev pub invariant-pairs : goal.invariant-pairs
invariant-pairs l = record {
  fewer : l.left ≤ l.most;
  left_is : l.left - length (names_of (drop l.pair (take l.to (map.entries l.members)))) ≡ l.most - length (names_of (run l.from l.to (map.entries l.members)));
}
