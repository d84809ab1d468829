use Rattle.ak_turns.specs.Outside.{wire}
use Rattle.ak_turns.proofs.SendLemmas.{tells_none, unsent}
use Rattle.ak_turns.proofs.process.tell_one.Goals as goal

pub returns-in_default-clause-tells : goal.returns-in_default-clause-tells
returns-in_default-clause-tells g c =
    tells_none c.args.gossip.now c.args.number c.args.action.now c.args.out.now.items c.append_action.new.out.items
    (wire (g.L.Link.bound c.args.link.now) (g.L.Link.sends c.args.link.now) (g.L.Link.losses c.args.link.now) (g.L.Link.coming c.args.link.now))
    (unsent c.args.action.now c.in_default.not-Send) c.in_ok-append_action.ensures
