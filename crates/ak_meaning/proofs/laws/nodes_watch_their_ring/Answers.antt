use Rattle.ak_meaning.proofs.WatchRuns.{each_watches}
use Rattle.ak_meaning.proofs.laws.nodes_watch_their_ring.Goals as goal

pub returns : goal.returns
returns c = each_watches
