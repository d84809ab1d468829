use Rattle.std.proofs.Common.{length, ◌-◌, take}
use Rattle.ak_world.specs.DoubleMark.{FirstKeeper}
use Rattle.ak_world.specs.WorldContracts.{states}
use Rattle.ak_world.proofs.double.keeper.Given as goal

abbrev pub decreases-nodes : goal.decreases-nodes
decreases-nodes l = length l.nodes - l.index

abbrev pub invariant-nodes : goal.invariant-nodes
invariant-nodes l = FirstKeeper (take l.index (states l.fn.nodes)) l.fn.entity l.fn.but l.found
