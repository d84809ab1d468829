use Rattle.std.proofs.Common.{ℕ, refl, subst, inl, inr}
use Rattle.ak_turns.specs.NodePromise.{ConfigCause, RunsConfig}
use Rattle.ak_turns.specs.Outside.{Wire, sink, wire}
use Rattle.ak_turns.proofs.NodeCauses.{node_cause, refuse_cause}
use Rattle.ak_turns.proofs.node.run_node.Goals as goal

pub returns-in-Ok-clause-cause : goal.returns-in-Ok-clause-cause
returns-in-Ok-clause-cause g c =
    node_cause c.run_config.result _ _ _ _ _ _ c.in-Ok.ensures.cause
    (subst (λ (l : ℕ). ConfigCause c.run_config.result (g.W.Sink.faults c.args.output.now) (g.W.Sink.faults c.run_config.new.output) l (g.L.Link.faults c.run_config.new.link)) c.look_up_all.ensures.faults c.run_config.ensures.cause)

pub returns-in-Ok-clause-runs : goal.returns-in-Ok-clause-runs
returns-in-Ok-clause-runs g c =
    inl (
      c.in-Ok.config,
      c.in-Ok.ensures.loads,
      subst (λ (w : Wire). RunsConfig c.in-Ok.config c.args.ticks c.run_config.result
          (sink (g.W.Sink.written c.args.output.now) (g.W.Sink.faults c.args.output.now)) (sink (g.W.Sink.written c.run_config.new.output) (g.W.Sink.faults c.run_config.new.output))
          w (wire (g.L.Link.bound c.run_config.new.link) (g.L.Link.sends c.run_config.new.link) (g.L.Link.losses c.run_config.new.link) (g.L.Link.coming c.run_config.new.link)) (g.C.Clock.readings c.args.clock.now))
          c.look_up_all.ensures.wire c.run_config.ensures.runs,
    )

pub returns-in-Err-clause-cause : goal.returns-in-Err-clause-cause
returns-in-Err-clause-cause g c =
    refuse_cause c.in-Err.why c.refuse.result _ _ (g.L.Link.faults c.args.link.now)
    (sink (g.W.Sink.written c.args.output.now) (g.W.Sink.faults c.args.output.now)) (sink (g.W.Sink.written c.refuse.new.output) (g.W.Sink.faults c.refuse.new.output))
    c.in-Err.ensures.cause c.refuse.ensures.refuses

pub returns-in-Err-clause-runs : goal.returns-in-Err-clause-runs
returns-in-Err-clause-runs g c = inr (c.in-Err.why, c.in-Err.ensures.loads, c.refuse.ensures.refuses, refl)
