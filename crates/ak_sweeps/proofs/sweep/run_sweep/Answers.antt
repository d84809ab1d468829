use Rattle.std.proofs.Common.{subst}
use Rattle.ak_sweeps.specs.RunContracts.{WritesLines}
use Rattle.ak_sweeps.proofs.LineLaws.{keeps_apart}
use Rattle.ak_sweeps.proofs.WriteLoop.{swept, starved, completed}
use Rattle.ak_sweeps.proofs.sweep.run_sweep.Goals as goal

pub returns-in-Ok-clause-sweep : goal.returns-in-Ok-clause-sweep
returns-in-Ok-clause-sweep g c =
    swept c.args.first c.args.count c.args.events c.in-Ok.lines.items c.write_lines.result (g.W.Sink.faults c.args.output.now) (g.W.Sink.faults c.write_lines.new.output) (g.W.Sink.written c.args.output.now) (g.W.Sink.written c.write_lines.new.output)
    c.in-Ok.ensures
    (subst (λ lines. WritesLines lines c.write_lines.result (g.W.Sink.faults c.args.output.now) (g.W.Sink.faults c.write_lines.new.output) (g.W.Sink.written c.args.output.now) (g.W.Sink.written c.write_lines.new.output)) c.deref.ensures.value c.write_lines.ensures.written)

pub returns-in-Err-clause-sweep : goal.returns-in-Err-clause-sweep
returns-in-Err-clause-sweep g c = starved c.args.first c.args.count c.args.events c.written.result _ _ _ _ c.written.ensures.written

pub returns-in-Ok-clause-apart : goal.returns-in-Ok-clause-apart
returns-in-Ok-clause-apart g c = λ lines are index line at. keeps_apart _ _ line (are.each index line at)

pub returns-in-Err-clause-apart : goal.returns-in-Err-clause-apart
returns-in-Err-clause-apart g c = λ lines are index line at. keeps_apart _ _ line (are.each index line at)

pub returns-in-Ok-clause-complete : goal.returns-in-Ok-clause-complete
returns-in-Ok-clause-complete g c = completed c.args.first c.args.count c.args.events _ _ _ _ _ (returns-in-Ok-clause-sweep g c)

pub returns-in-Err-clause-complete : goal.returns-in-Err-clause-complete
returns-in-Err-clause-complete g c = completed c.args.first c.args.count c.args.events _ _ _ _ _ (returns-in-Err-clause-sweep g c)
