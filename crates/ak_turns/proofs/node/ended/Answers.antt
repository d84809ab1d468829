use Rattle.std.proofs.Common.{◌≡◌, Result, Err, sym, subst, inr}
use Rattle.ak_turns.specs.declared.end.End.{End}
use Rattle.ak_turns.specs.declared.end.End.TheVariants as end
use Rattle.ak_turns.specs.NodePromise.{EndsAs}
use Rattle.ak_turns.specs.Outside.{sink}
use Rattle.ak_turns.specs.TurnsContracts.{progress_of}
use Rattle.ak_turns.proofs.node.ended.Goals as goal

pub returns-in-Err-clause-ends : goal.returns-in-Err-clause-ends
returns-in-Err-clause-ends g c =
    subst (λ (e : Result (Unit {0}) End). EndsAs e (progress_of c.args.process.now) c.written-in-Err.result (sink (g.W.Sink.written c.args.output.now) (g.W.Sink.faults c.args.output.now)) (sink (g.W.Sink.written c.written-in-Err.new.output) (g.W.Sink.faults c.written-in-Err.new.output)))
    (sym c.in-Ok.is) (inr c.written-in-Err.ensures.written)

pub returns-in-Err-Link-clause-ends : goal.returns-in-Err-Link-clause-ends
returns-in-Err-Link-clause-ends g c =
    let f : c.in-Err-Link.field-0 ≡ end.Link = rw c.in-Err-Link.is at c.in-Err-Link.field-0-is in
    subst (λ (e : Result (Unit {0}) End). EndsAs e (progress_of c.args.process.now) c.written-in-Err-Link.result (sink (g.W.Sink.written c.args.output.now) (g.W.Sink.faults c.args.output.now)) (sink (g.W.Sink.written c.written-in-Err-Link.new.output) (g.W.Sink.faults c.written-in-Err-Link.new.output)))
    (sym c.in-Err-Link.is)
    (subst (λ (e : End). EndsAs (Err e) (progress_of c.args.process.now) c.written-in-Err-Link.result (sink (g.W.Sink.written c.args.output.now) (g.W.Sink.faults c.args.output.now)) (sink (g.W.Sink.written c.written-in-Err-Link.new.output) (g.W.Sink.faults c.written-in-Err-Link.new.output)))
    (sym f) c.written-in-Err-Link.ensures.written)
