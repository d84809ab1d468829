use Rattle.ak_turns.specs.Outside.{wire}
use Rattle.ak_turns.proofs.SendLemmas.{sent_failed}
use Rattle.ak_turns.proofs.process.send.Goals as goal

pub returns-in-Failed-clause-sends : goal.returns-in-Failed-clause-sends
returns-in-Failed-clause-sends g c =
    sent_failed c.print_lost.result c.args.number c.args.envelope.now c.args.out.now.items c.print_lost.new.out.items
    (wire (g.L.Link.bound c.args.link.now) (g.L.Link.sends c.args.link.now) (g.L.Link.losses c.args.link.now) (g.L.Link.coming c.args.link.now))
    (wire (g.L.Link.bound c.send_envelope.new.link) (g.L.Link.sends c.send_envelope.new.link) (g.L.Link.losses c.send_envelope.new.link) (g.L.Link.coming c.send_envelope.new.link))
    c.in_ok-send_envelope.field-0 c.in-Failed.is c.print_lost.ensures
    c.send_envelope.ensures.count c.in_ok-send_envelope.ensures.cause c.in_ok-send_envelope.ensures.sends c.send_envelope.ensures.bound c.send_envelope.ensures.coming
