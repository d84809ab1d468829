use Rattle.std.proofs.Common.{◌+◌, ◌≤◌, length}
use Rattle.ak_world_tests.proofs.fold.updates_in.Given as goal

-- each line is an event
abbrev pub invariant-lines : goal.invariant-lines
invariant-lines l = length l.world.events ≤ length l.fn.world.events + l.line-index
