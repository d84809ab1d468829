use Rattle.std.proofs.Common.{ℕ, Some, refl, subst, inl}
use Rattle.ak_config.specs.declared.config.Config.{Config}
use Rattle.ak_outside.specs.Link.{Binds}
use Rattle.ak_outside.specs.declared.link.Bound.TheVariants as bound
use Rattle.ak_outside.specs.declared.status.Status.TheVariants as status
use Rattle.ak_turns.specs.Endings.{link_line}
use Rattle.ak_turns.specs.NodePromise.{ConfigCause}
use Rattle.ak_turns.specs.Outside.{sink, wire}
use Rattle.ak_turns.proofs.EndLemmas.{config_bound, config_line}
use Rattle.ak_turns.proofs.node.run_config.Goals as goal

pub returns-in-Ready-clause-cause : goal.returns-in-Ready-clause-cause
returns-in-Ready-clause-cause g c =
    subst (λ (l : ℕ). ConfigCause c.run_bound.result (g.W.Sink.faults c.args.output.now) (g.W.Sink.faults c.run_bound.new.output) l (g.L.Link.faults c.run_bound.new.link)) c.in-Ready.ensures.cause c.run_bound.ensures.cause

pub returns-in-Ready-clause-runs : goal.returns-in-Ready-clause-runs
returns-in-Ready-clause-runs g c =
    config_bound c.args.config.now c.args.ticks c.run_bound.result _ _
    (wire (g.L.Link.bound c.args.link.now) (g.L.Link.sends c.args.link.now) (g.L.Link.losses c.args.link.now) (g.L.Link.coming c.args.link.now))
    (wire (g.L.Link.bound c.bind.new.self) (g.L.Link.sends c.bind.new.self) (g.L.Link.losses c.bind.new.self) (g.L.Link.coming c.bind.new.self))
    _ _ (subst (λ (x : Config). Binds (g.L.Link.bound c.args.link.now) (g.L.Link.bound c.bind.new.self) (Some x.me.address) bound.Ready) c.config.view_is c.in-Ready.ensures.bound)
    c.bind.ensures.sends c.bind.ensures.losses c.bind.ensures.coming c.run_bound.ensures.runs

pub returns-in-Failed-clause-cause : goal.returns-in-Failed-clause-cause
returns-in-Failed-clause-cause g c =
    config_line status.Link c.written.result link_line
    (sink (g.W.Sink.written c.args.output.now) (g.W.Sink.faults c.args.output.now)) (sink (g.W.Sink.written c.args.output.now) (g.W.Sink.faults c.args.output.now)) (sink (g.W.Sink.written c.written.new.output) (g.W.Sink.faults c.written.new.output))
    (g.L.Link.faults c.args.link.now) (g.L.Link.faults c.bind.new.self) refl c.written.ensures.written (λ e. (e, c.in-Failed.ensures.cause))

pub returns-in-Failed-clause-runs : goal.returns-in-Failed-clause-runs
returns-in-Failed-clause-runs g c =
    inl (
      subst (λ (x : Config). Binds (g.L.Link.bound c.args.link.now) (g.L.Link.bound c.bind.new.self) (Some x.me.address) bound.Failed) c.config.view_is c.in-Failed.ensures.bound,
      record { writes = c.written.ensures.written; sends = c.bind.ensures.sends; losses = c.bind.ensures.losses },
    )
