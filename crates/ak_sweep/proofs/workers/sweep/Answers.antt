use Rattle.std.proofs.Common.{◌≡◌}
use Rattle.ak_sweep.specs.Lines.{AreLines, lines_from}
use Rattle.ak_sweep.proofs.SweepLemmas.{lines_are, of_answer}
use Rattle.ak_sweep.proofs.workers.sweep.Goals as goal

pub returns-clause-alone : goal.returns-clause-alone
returns-clause-alone g c answer one =
    of_answer (λ lines. AreLines (g.J.Job.answers c.args.job.now) c.args.first c.args.count lines.items) (λ lines. lines.items ≡ lines_from answer c.args.first c.args.count)
    c.in_parts.result c.in_parts.ensures (λ lines are. lines_are (g.J.Job.answers c.args.job.now) answer c.args.first c.args.count lines.items one are)
