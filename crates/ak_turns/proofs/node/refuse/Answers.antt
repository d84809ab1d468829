use Rattle.std.proofs.Common.{sym, subst}
use Rattle.ak_turns.specs.declared.node.Unloaded.{Unloaded}
use Rattle.ak_turns.specs.NodePromise.{Refuses}
use Rattle.ak_turns.specs.Outside.{sink}
use Rattle.ak_turns.proofs.node.refuse.Goals as goal

pub returns-in-Refused-clause-refuses : goal.returns-in-Refused-clause-refuses
returns-in-Refused-clause-refuses g c =
    subst (λ (why : Unloaded). Refuses why c.refuse_config.result (sink (g.W.Sink.written c.args.output.now) (g.W.Sink.faults c.args.output.now)) (sink (g.W.Sink.written c.refuse_config.new.output) (g.W.Sink.faults c.refuse_config.new.output)))
    (sym c.in-Refused.is) c.refuse_config.ensures.refuses

pub returns-in-TooLarge-clause-refuses : goal.returns-in-TooLarge-clause-refuses
returns-in-TooLarge-clause-refuses g c =
    subst (λ (why : Unloaded). Refuses why c.written-in-TooLarge.result (sink (g.W.Sink.written c.args.output.now) (g.W.Sink.faults c.args.output.now)) (sink (g.W.Sink.written c.written-in-TooLarge.new.output) (g.W.Sink.faults c.written-in-TooLarge.new.output)))
    (sym c.in-TooLarge.is) c.written-in-TooLarge.ensures.written

pub returns-in-Failed-clause-refuses : goal.returns-in-Failed-clause-refuses
returns-in-Failed-clause-refuses g c =
    subst (λ (why : Unloaded). Refuses why c.written-in-Failed.result (sink (g.W.Sink.written c.args.output.now) (g.W.Sink.faults c.args.output.now)) (sink (g.W.Sink.written c.written-in-Failed.new.output) (g.W.Sink.faults c.written-in-Failed.new.output)))
    (sym c.in-Failed.is) c.written-in-Failed.ensures.written
