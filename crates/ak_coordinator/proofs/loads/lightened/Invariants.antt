use Rattle.std.proofs.Common.{◌≡◌, map, take}
use Rattle.ak_coordinator.specs.Coordinator.{less_one}
use Rattle.ak_coordinator.proofs.loads.lightened.Given as goal

abbrev pub invariant-loads : goal.invariant-loads
invariant-loads l = l.lightened.items ≡ map (less_one l.from) (take l.load-index l.loads)
