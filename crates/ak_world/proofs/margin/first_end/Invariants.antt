use Rattle.std.proofs.Common.{◌≡◌, drop}
use Rattle.ak_world.specs.MarginMark as mark
use Rattle.ak_world.specs.WorldContracts.{states}
use Rattle.ak_world.proofs.margin.first_end.Given as goal

abbrev pub invariant-actions : goal.invariant-actions
invariant-actions l = mark.first_end (states l.fn.nodes) (drop l.action-index l.actions) ≡ mark.first_end (states l.fn.nodes) l.actions
