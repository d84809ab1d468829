use Rattle.ak_wire.proofs.GossipFields.{sendable_when}
use Rattle.ak_wire.proofs.checking.sendable.Goals as goal

pub returns : goal.returns
returns c = sendable_when c.args.gossip.now c.members.result.now c.invariant.ensures c.members.ensures c.processes.ensures
