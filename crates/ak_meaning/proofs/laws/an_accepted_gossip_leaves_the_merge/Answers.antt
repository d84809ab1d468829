use Rattle.ak_meaning.proofs.ReceivedLaws.{accepted_merges}
use Rattle.ak_meaning.proofs.WatchRuns.{refuses_gossip, takes_gossip}
use Rattle.ak_meaning.proofs.laws.an_accepted_gossip_leaves_the_merge.Goals as goal

pub returns : goal.returns
returns c = record { merge = accepted_merges; taken = takes_gossip; refused = refuses_gossip }
