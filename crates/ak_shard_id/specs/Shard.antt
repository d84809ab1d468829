-- Which shard an entity belongs to (Akka's Cluster Sharding, "Shard allocation").
use Rattle.std.specs.Prelude.{ℕ, ◌+◌, ◌*◌, ◌%◌, ◌^◌, List, [], ◌∷◌, length, ℤ, pos, int_rem, unsigned_abs}
use Rattle.std.specs.Int.{w32, cast_signed}

-- the sum of the bytes, each times 31 to the power of the number of bytes after it
abbrev pub weighted : List ℕ → ℕ
weighted [] = 0
weighted (byte ∷ rest) = byte * 31 ^ length rest + weighted rest

-- Java's hash of a text: that sum, in 32 bits read with a sign
abbrev pub text_hash : List ℕ → ℤ
text_hash bytes = cast_signed w32 (weighted bytes % 2 ^ 32)

-- the rest of the hash by the number of shards, without its sign
abbrev pub shard_of : List ℕ → ℕ → ℕ
shard_of bytes shards = unsigned_abs (int_rem (text_hash bytes) (pos shards))
