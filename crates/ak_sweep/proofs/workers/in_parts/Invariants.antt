use Rattle.ak_sweep.specs.Lines.{AreLines, start_of}
use Rattle.ak_sweep.proofs.workers.in_parts.Given as goal

-- the lines of the parts up to here
abbrev pub invariant-parts : goal.invariant-parts
invariant-parts g l = AreLines (g.J.Job.answers l.job) l.fn.first (start_of l.size l.fn.count l.part-index) l.lines.items
