use Rattle.std.proofs.Common.{length, arith}
use Rattle.ak_wire.proofs.DatagramFields.{spelled_valid}
use Rattle.ak_turns.proofs.RunLemmas.{heard_packet, heard_bad}
use Rattle.ak_turns.proofs.turns.hear.Goals as goal

pub returns-in-Envelope-clause-come : goal.returns-in-Envelope-clause-come
returns-in-Envelope-clause-come g c = let some = c.in-Envelope.ensures.some in spelled_valid some.0 c.in-Envelope.envelope some.1

pub returns-in-Envelope-clause-hears : goal.returns-in-Envelope-clause-hears
returns-in-Envelope-clause-hears g c =
    let heard = heard_packet (g.L.Link.coming c.args.link.now) (g.L.Link.coming c.receive_envelope.new.link) (length c.receive_envelope.new.buffer) c.in-Envelope.envelope
    c.in-Envelope.ensures.some c.in-Envelope.ensures.receives (omega arith) in
    (heard.0, heard.1, heard.2, record { sends = c.receive_envelope.ensures.sends; losses = c.receive_envelope.ensures.losses; bound = c.receive_envelope.ensures.bound })

pub returns-in-Bad-clause-hears : goal.returns-in-Bad-clause-hears
returns-in-Bad-clause-hears g c =
    let heard = heard_bad (g.L.Link.coming c.args.link.now) (g.L.Link.coming c.receive_envelope.new.link) (length c.receive_envelope.new.buffer) c.in-Bad.fault
    c.in-Bad.ensures.some c.in-Bad.ensures.receives (omega arith) in
    (heard.0, heard.1, heard.2, record { sends = c.receive_envelope.ensures.sends; losses = c.receive_envelope.ensures.losses; bound = c.receive_envelope.ensures.bound })
