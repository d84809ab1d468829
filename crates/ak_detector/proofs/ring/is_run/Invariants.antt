use Rattle.std.proofs.Common.{◌-◌, ◌≤◌, ◌↔◌, drop, take}
use Rattle.std.specs.FinMap as map
use Rattle.ak_address.specs.Uniques.{in_order}
use Rattle.ak_detector.specs.Sides.{BeginWith, names_of, run}
use Rattle.ak_detector.proofs.ring.is_run.Given as goal

-- those that are left are the same exactly where all are
abbrev pub invariant-pairs : goal.invariant-pairs
invariant-pairs l = record {
  fewer : l.left ≤ l.most;
  same : BeginWith l.left (names_of (drop l.pair (take l.to (map.entries l.members)))) (drop (l.end - l.left) (in_order l.watched)) ↔ BeginWith l.most (names_of (run l.from l.to (map.entries l.members))) (drop (l.end - l.most) (in_order l.watched));
}
