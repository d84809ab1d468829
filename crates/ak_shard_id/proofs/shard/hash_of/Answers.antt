use Rattle.std.proofs.Common.{◌^◌, ◌∙◌}
use Rattle.ak_shard_id.proofs.Hashing.{next_left}
use Rattle.ak_shard_id.proofs.shard.hash_of.Goals as goal

pub bytes-preserved : goal.bytes-preserved
bytes-preserved c = next_left c.bytes.hash c.from.result c.bytes.byte-index (2 ^ 32) c.args.entity.now c.from.ensures c.bytes-test.true ∙ c.bytes.invariant
