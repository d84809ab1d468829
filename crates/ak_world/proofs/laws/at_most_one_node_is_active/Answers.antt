use Rattle.ak_world.proofs.OneActiveRuns.{one_active-of_run}
use Rattle.ak_world.proofs.laws.at_most_one_node_is_active.Goals as goal

pub returns : goal.returns
returns c settings events quorum time over_half least uids kept = one_active-of_run settings events uids least quorum time over_half kept
