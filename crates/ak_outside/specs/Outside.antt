-- The cause of a fault, and what a sink takes where it fails on the way. This project's choice.
use Rattle.std.specs.Prelude.{ℕ, ◌+◌, ◌-◌, ◌^◌, ◌<◌, ◌≤◌, ◌≢◌, min, List, length, take, Option}
use Rattle.std.specs.Io.KnownBytes.{Appends}

-- a count of faults rose, or stands at 2^64 - 1, where it stays
abbrev pub Rose : ℕ → ℕ → Type 0
Rose old new = new ≢ 2 ^ 64 - 1 → old < new

-- one more, or 2^64 - 1 where that is reached
abbrev pub counted : ℕ → ℕ
counted n = min (n + 1) (2 ^ 64 - 1)

-- known bytes grow by a prefix of bs, its first `count` bytes
pub record AppendsPrefix (old new : Option (List ℕ)) (bs : List ℕ) : Type 0 where
  pub count : ℕ
  pub within : count ≤ length bs
  pub prefix : Appends old new (take count bs)
