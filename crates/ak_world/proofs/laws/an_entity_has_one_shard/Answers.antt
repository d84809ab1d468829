use Rattle.ak_world.proofs.OneHomeRuns.{one_shard}
use Rattle.ak_world.proofs.laws.an_entity_has_one_shard.Goals as goal

pub returns : goal.returns
returns c = one_shard
