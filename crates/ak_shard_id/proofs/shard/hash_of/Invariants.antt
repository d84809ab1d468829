use Rattle.std.proofs.Common.{◌≡◌, ◌%◌, ◌^◌, ◌+◌, ◌*◌, length, drop}
use Rattle.ak_shard_id.specs.Shard.{weighted}
use Rattle.ak_shard_id.proofs.shard.hash_of.Given as goal

-- with the bytes that are left, the hash comes to that of all
abbrev pub invariant-bytes : goal.invariant-bytes
invariant-bytes l =
    (l.hash * 31 ^ length (drop l.byte-index l.entity) + weighted (drop l.byte-index l.entity)) % 2 ^ 32 ≡ weighted l.entity % 2 ^ 32
