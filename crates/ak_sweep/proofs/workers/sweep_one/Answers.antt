use Rattle.std.proofs.Common.{refl, ◌≡◌, ◌+◌, ◌-◌}
use Rattle.ak_sweep.specs.Lines.{AreLines, lines_from}
use Rattle.ak_sweep.proofs.SweepLemmas.{from_start, lines_are, of_answer}
use Rattle.ak_sweep.proofs.workers.sweep_one.Goals as goal

pub returns-clause-alone : goal.returns-clause-alone
returns-clause-alone g c answer one =
    of_answer (λ lines. AreLines (g.J.Job.answers c.args.job.now) (c.args.first + 0) (c.args.count - 0) lines.items) (λ lines. lines.items ≡ lines_from answer c.args.first c.args.count)
    c.lines_between-lines.result c.lines_between-lines.ensures (λ lines are. lines_are (g.J.Job.answers c.args.job.now) answer c.args.first c.args.count lines.items one (from_start (g.J.Job.answers c.args.job.now) c.args.first c.args.count c.args.count lines.items refl are))
