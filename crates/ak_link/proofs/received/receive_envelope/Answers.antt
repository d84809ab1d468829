use Rattle.ak_link.proofs.HeardPackets.{received}
use Rattle.ak_link.proofs.received.receive_envelope.Goals as goal

pub returns-in-Packet-clause-receives : goal.returns-in-Packet-clause-receives
returns-in-Packet-clause-receives g c =
    received (g.L.Link.coming c.args.link.now) (g.L.Link.coming c.receive.new.self) c.in-Packet.count c.receive.new.buffer c.got_of.result c.in-Packet.ensures.coming c.got_of.ensures
