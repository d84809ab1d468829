use Rattle.std.proofs.Common.{◌≡◌, ◌-◌}
use Rattle.ak_sweeps.specs.GeneratedRun.{sight_of}
use Rattle.ak_sweeps.proofs.RunLoop.{Along}
use Rattle.ak_sweeps.proofs.run.play.Given as goal

-- so many steps were made, and so many are left; and the world is seen as it is, since what is generated follows from what is seen
abbrev pub invariant-events : goal.invariant-events
invariant-events l =
    (l.sight ≡ sight_of l.world.state)
    × Along l.fn.seed l.fn.events l.steps (l.fn.events - l.steps) l.generator l.world
