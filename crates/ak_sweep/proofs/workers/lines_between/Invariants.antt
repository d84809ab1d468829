use Rattle.std.proofs.Common.{◌+◌, ◌-◌}
use Rattle.ak_sweep.specs.Lines.{AreLines}
use Rattle.ak_sweep.proofs.workers.lines_between.Given as goal

-- the lines up to here
abbrev pub invariant-seeds : goal.invariant-seeds
invariant-seeds g l = AreLines (g.J.Job.answers l.job) (l.first + l.from) (l.index - l.from) l.lines.items
