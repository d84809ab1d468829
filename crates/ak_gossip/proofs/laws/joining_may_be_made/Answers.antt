use Rattle.ak_gossip.proofs.GossipLaws.{joining}
use Rattle.ak_gossip.proofs.laws.joining_may_be_made.Goals as goal

pub returns : goal.returns
returns c = joining
