use Rattle.std.proofs.Common.{refl}
use Rattle.ak_shard_id.proofs.Hashing.{byte_after}
use Rattle.ak_shard_id.proofs.laws.hashes_go_on.Goals as goal

pub returns : goal.returns
returns c = record { empty = refl; more = byte_after }
