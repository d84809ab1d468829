use Rattle.std.proofs.Common.{◌≤◌, ◌-◌}
use Rattle.ak_sweeps.specs.SweepText.{AreLines}
use Rattle.ak_sweeps.proofs.sweep.lines_of.Given as goal

-- the lines of the seeds up to here, since each block begins with the seed at which the one before ended
abbrev pub invariant-blocks-2 : goal.invariant-blocks-2
invariant-blocks-2 g l = (l.done ≤ l.fn.count) × AreLines l.fn.first l.done l.fn.events l.lines.items

abbrev pub decreases-blocks-2 : goal.decreases-blocks-2
decreases-blocks-2 g l = l.fn.count - l.done
