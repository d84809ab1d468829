use Rattle.std.proofs.Common.{ap}
use Rattle.ak_turns.specs.Outside.{wire}
use Rattle.ak_turns.proofs.ControlLemmas.{asked}
use Rattle.ak_turns.proofs.control.ask.Goals as goal

pub returns-clause-asks : goal.returns-clause-asks
returns-clause-asks g c =
    asked c.send_envelope.result c.args.to c.args.say c.in_ok-envelope.envelope
    (wire (g.L.Link.bound c.args.link.now) (g.L.Link.sends c.args.link.now) (g.L.Link.losses c.args.link.now) (g.L.Link.coming c.args.link.now))
    (wire (g.L.Link.bound c.send_envelope.new.link) (g.L.Link.sends c.send_envelope.new.link) (g.L.Link.losses c.send_envelope.new.link) (g.L.Link.coming c.send_envelope.new.link))
    c.in_ok-envelope.ensures.value c.send_envelope.ensures.count c.send_envelope.ensures.cause c.send_envelope.ensures.bound c.send_envelope.ensures.sends c.send_envelope.ensures.unsent
    (λ same. (ap g.L.Link.sends same, ap g.L.Link.losses same))
