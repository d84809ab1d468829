use Rattle.std.proofs.Common.{◌≡◌, ◌++◌, drop}
use Rattle.std.specs.FinMap as map
use Rattle.ak_coordinator.specs.Homes.{loads_counted}
use Rattle.ak_coordinator.proofs.loads.loads_by.Given as goal

-- with those of the pairs that are left, all are there
abbrev pub invariant-pairs : goal.invariant-pairs
invariant-pairs l = l.loads.items ++ loads_counted l.counts l.granted (drop l.pair (map.entries l.members)) ≡ loads_counted l.counts l.granted (map.entries l.members)
