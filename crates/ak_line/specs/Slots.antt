-- Marks and tables as lists of slots, one for each shard in order: what a region and a coordinator keep.
use Rattle.std.specs.Prelude.{◌≡◌, ℕ, ◌<◌, max, ltb, if◌then◌else◌, is_some, List, get_or, Option, Some, None}
use Rattle.ak_line.specs.Shards.{Mark}

-- a region's slot: the number with which it hosts the shard, and the greatest that it was told
pub record Slot : Type 0 where
  pub hosted : Option ℕ
  pub mark : ℕ

-- a shard is hosted with the greatest number that was told
pub record IsSlot (slot : Slot) : Type 0 where
  pub newest : (n : ℕ) → slot.hosted ≡ Some n → n ≡ slot.mark
  pub positive : (n : ℕ) → slot.hosted ≡ Some n → 0 < n

-- nothing was told of the shard
abbrev pub no_slot : Slot
no_slot = record { hosted = None; mark = 0 }

-- the slot as a mark
abbrev pub shown : Slot → Mark
shown slot = record { number = slot.mark; hosts = is_some slot.hosted }

-- newly hosted with a number
abbrev pub hosted_slot : ℕ → Slot → Slot
hosted_slot n slot = record { hosted = Some n; mark = n }

-- what stays hosted after a hand-off with a number: what has a greater one
abbrev pub kept_above : ℕ → Option ℕ → Option ℕ
kept_above n None = None
kept_above n (Some m) = if ltb n m then Some m else None

-- the slot after a hand-off with a number
abbrev pub handed_slot : ℕ → Slot → Slot
handed_slot n slot = record { hosted = kept_above n slot.hosted; mark = max slot.mark n }

-- slots by shard, read as a function of the shard
abbrev pub by_shard : {R X : Type 0} → (R → X) → R → List R → ℕ → X
by_shard read none slots s = read (get_or slots s none)
