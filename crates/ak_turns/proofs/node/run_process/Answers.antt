use Rattle.ak_turns.specs.Outside.{sink}
use Rattle.ak_turns.specs.TurnsContracts.{progress_of}
use Rattle.ak_turns.proofs.EndLemmas.{bound_ended, config_cause}
use Rattle.ak_turns.proofs.node.run_process.Goals as goal

pub returns-clause-cause : goal.returns-clause-cause
returns-clause-cause g c =
    config_cause c.args.config.now c.args.ticks c.take_turns-end.result c.ended.result (progress_of c.take_turns-end.new.process)
    (sink (g.W.Sink.written c.args.output.now) (g.W.Sink.faults c.args.output.now)) (sink (g.W.Sink.written c.take_turns-end.new.output) (g.W.Sink.faults c.take_turns-end.new.output))
    (sink (g.W.Sink.written c.ended.new.output) (g.W.Sink.faults c.ended.new.output)) _ _ _ _ _
    c.take_turns-end.ensures.runs c.take_turns-end.ensures.cause c.ended.ensures.ends

pub returns-clause-runs : goal.returns-clause-runs
returns-clause-runs g c =
    bound_ended c.args.config.now c.args.ticks c.take_turns-end.result c.ended.result (progress_of c.take_turns-end.new.process)
    (sink (g.W.Sink.written c.args.output.now) (g.W.Sink.faults c.args.output.now)) (sink (g.W.Sink.written c.take_turns-end.new.output) (g.W.Sink.faults c.take_turns-end.new.output))
    (sink (g.W.Sink.written c.ended.new.output) (g.W.Sink.faults c.ended.new.output)) _ _ _
    c.take_turns-end.ensures.runs c.ended.ensures.ends
