use Rattle.std.proofs.Common.{◌+◌, ◌≤◌, length}
use Rattle.ak_world_tests.proofs.story.rows_that_go.Given as goal

-- each row is an event
abbrev pub invariant-rows : goal.invariant-rows
invariant-rows g l = length l.world.events ≤ length l.fn.world.events + l.index
