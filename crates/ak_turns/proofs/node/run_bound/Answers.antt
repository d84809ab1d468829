use Rattle.std.proofs.Common.{Err, refl}
use Rattle.ak_outside.specs.declared.status.Status.TheVariants as status
use Rattle.ak_turns.specs.declared.end.End.TheVariants as end
use Rattle.ak_outside.specs.Endings.{memory_line}
use Rattle.ak_turns.specs.NodeRun.{start_of}
use Rattle.ak_turns.specs.Outside.{sink}
use Rattle.ak_turns.proofs.EndLemmas.{bound_ended, config_line}
use Rattle.ak_turns.proofs.TurnsLemmas.{stops_at_once}
use Rattle.ak_turns.proofs.node.run_bound.Goals as goal

pub returns-in-Ok-clause-cause : goal.returns-in-Ok-clause-cause
returns-in-Ok-clause-cause g c = c.run_process.ensures.cause

pub returns-in-Ok-clause-runs : goal.returns-in-Ok-clause-runs
returns-in-Ok-clause-runs g c = c.run_process.ensures.runs

pub returns-in-Err-clause-cause : goal.returns-in-Err-clause-cause
returns-in-Err-clause-cause g c =
    config_line status.Memory c.written.result memory_line
    (sink (g.W.Sink.written c.args.output.now) (g.W.Sink.faults c.args.output.now)) (sink (g.W.Sink.written c.args.output.now) (g.W.Sink.faults c.args.output.now)) (sink (g.W.Sink.written c.written.new.output) (g.W.Sink.faults c.written.new.output))
    (g.L.Link.faults c.args.link.now) (g.L.Link.faults c.args.link.now) refl c.written.ensures.written (λ e. (e, refl))

pub returns-in-Err-clause-runs : goal.returns-in-Err-clause-runs
returns-in-Err-clause-runs g c =
    bound_ended c.args.config.now c.args.ticks (Err end.Memory) c.written.result (start_of c.args.config.now)
    (sink (g.W.Sink.written c.args.output.now) (g.W.Sink.faults c.args.output.now)) (sink (g.W.Sink.written c.args.output.now) (g.W.Sink.faults c.args.output.now)) (sink (g.W.Sink.written c.written.new.output) (g.W.Sink.faults c.written.new.output))
    _ _ _ (stops_at_once c.args.config.now c.args.ticks (start_of c.args.config.now) _ _ _ refl) c.written.ensures.written
