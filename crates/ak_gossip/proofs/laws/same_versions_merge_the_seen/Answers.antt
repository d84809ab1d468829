use Rattle.ak_gossip.proofs.GossipLaws.{same_seen}
use Rattle.ak_gossip.proofs.laws.same_versions_merge_the_seen.Goals as goal

pub returns : goal.returns
returns c = same_seen
