use Rattle.std.proofs.Common.{◌-◌, drop, length, take}
use Rattle.std.specs.List.{fold}
use Rattle.std.specs.FinMap as map
use Rattle.ak_address.specs.Uniques.{with_one}
use Rattle.ak_detector.specs.Sides.{names_of, run}
use Rattle.ak_detector.proofs.DetectorLemmas.{Taking}
use Rattle.ak_detector.proofs.ring.add_run.Given as goal

-- with those that are left to take of the pairs that are left, all are there
abbrev pub invariant-pairs : goal.invariant-pairs
invariant-pairs l =
    let all = names_of (run l.from l.to (map.entries l.members)) in
    Taking names_of (drop l.pair (take l.to (map.entries l.members))) l.left l.ring (l.most - length all) (fold with_one l.fn.ring (take l.most all))
