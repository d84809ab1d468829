use Rattle.ak_shard_id.proofs.DivisionLaws.{types_apart}
use Rattle.ak_shard_id.proofs.laws.types_share_no_shard.Goals as goal

pub returns : goal.returns
returns c = types_apart
