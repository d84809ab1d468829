use Rattle.std.proofs.Common.{ℕ, Option, None, subst, inr, ◌∙◌}
use Rattle.ak_address.specs.Unique.{AddressModel}
use Rattle.ak_outside.specs.Link.{Binds}
use Rattle.ak_outside.specs.Outside.{Rose}
use Rattle.ak_outside.specs.declared.link.Bound.TheVariants as bound
use Rattle.ak_outside.specs.declared.status.Status.TheVariants as status
use Rattle.ak_turns.specs.Endings.{link_line}
use Rattle.ak_turns.specs.Outside.{sink, wire}
use Rattle.ak_turns.proofs.ControlLemmas.{cause_line, cause_asked, controls_asked}
use Rattle.ak_turns.proofs.control.run_ctl.Goals as goal

pub returns-in-Ready-clause-cause : goal.returns-in-Ready-clause-cause
returns-in-Ready-clause-cause g c =
    cause_asked c.ask_and_answer.result c.args.to c.args.say
    (sink (g.W.Sink.written c.args.output.now) (g.W.Sink.faults c.args.output.now)) (sink (g.W.Sink.written c.ask_and_answer.new.output) (g.W.Sink.faults c.ask_and_answer.new.output)) _ _
    (g.L.Link.faults c.args.link.now) (g.L.Link.faults c.ask_and_answer.new.link) c.ask_and_answer.ensures.asks (c.ask_and_answer.ensures.link ∙ c.in-Ready.ensures.cause ∙ c.look_up-known.ensures.faults)

pub returns-in-Ready-clause-controls : goal.returns-in-Ready-clause-controls
returns-in-Ready-clause-controls g c =
    controls_asked c.ask_and_answer.result c.args.to c.args.say _ _
    (wire (g.L.Link.bound c.args.link.now) (g.L.Link.sends c.args.link.now) (g.L.Link.losses c.args.link.now) (g.L.Link.coming c.args.link.now)) _ _
    (subst (λ (b : Option (Option AddressModel)). Binds b (g.L.Link.bound c.bind.new.self) None bound.Ready) c.look_up-known.ensures.bound c.in-Ready.ensures.bound)
    (c.bind.ensures.sends ∙ c.look_up-known.ensures.sends) (c.bind.ensures.losses ∙ c.look_up-known.ensures.losses) c.ask_and_answer.ensures.asks

pub returns-in-Failed-clause-cause : goal.returns-in-Failed-clause-cause
returns-in-Failed-clause-cause g c =
    cause_line status.Link c.written.result link_line
    (sink (g.W.Sink.written c.args.output.now) (g.W.Sink.faults c.args.output.now)) (sink (g.W.Sink.written c.written.new.output) (g.W.Sink.faults c.written.new.output))
    (g.L.Link.faults c.args.link.now) (g.L.Link.faults c.bind.new.self)
    (λ w. (w, subst (λ (l : ℕ). Rose l (g.L.Link.faults c.bind.new.self)) c.look_up-known.ensures.faults c.in-Failed.ensures.cause)) c.written.ensures.written

pub returns-in-Failed-clause-controls : goal.returns-in-Failed-clause-controls
returns-in-Failed-clause-controls g c =
    inr (inr (
      subst (λ (b : Option (Option AddressModel)). Binds b (g.L.Link.bound c.bind.new.self) None bound.Failed) c.look_up-known.ensures.bound c.in-Failed.ensures.bound,
      record { writes = c.written.ensures.written; sends = c.bind.ensures.sends ∙ c.look_up-known.ensures.sends; losses = c.bind.ensures.losses ∙ c.look_up-known.ensures.losses },
    ))
