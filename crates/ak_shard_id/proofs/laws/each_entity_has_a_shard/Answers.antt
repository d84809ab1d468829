use Rattle.ak_shard_id.proofs.DivisionLaws.{shard_within, without_types}
use Rattle.ak_shard_id.proofs.laws.each_entity_has_a_shard.Goals as goal

pub returns : goal.returns
returns c = record { one = shard_within; whole = without_types }
