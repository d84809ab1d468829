use Rattle.std.proofs.Common.{◌≡◌, drop}
use Rattle.std.specs.List.{fold}
use Rattle.std.specs.FinMap as map
use Rattle.ak_address.specs.Uniques.{no_one, with_one}
use Rattle.ak_detector.specs.Sides.{above_pairs}
use Rattle.ak_detector.proofs.detector.silent_in.Given as goal

-- with those that are left, all are there
abbrev pub invariant-pairs : goal.invariant-pairs
invariant-pairs l = fold with_one l.them (above_pairs l.deadline (drop l.pair (map.entries l.counters))) ≡ fold with_one no_one (above_pairs l.deadline (map.entries l.counters))
