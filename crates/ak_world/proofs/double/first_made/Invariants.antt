use Rattle.std.proofs.Common.{take}
use Rattle.ak_world.specs.DoubleMark.{StartsNone}
use Rattle.ak_world.specs.WorldContracts.{states}
use Rattle.ak_world.proofs.double.first_made.Given as goal

abbrev pub invariant-actions : goal.invariant-actions
invariant-actions l = StartsNone (states l.fn.nodes) l.fn.acting (take l.action-index l.actions)
