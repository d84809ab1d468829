-- Lists: a length, and then the items. An item's place in the order is checked as soon as its process or its shard is read
-- (this project's choice).
use Rattle.std.specs.Prelude.{ℕ, ◌≤◌, Bool, true, IsTrue, List, [], ◌∷◌, length, Option, Some, None, option_map, Result, Ok, nat_lt}
use Rattle.std.specs.FinMap as map
use Rattle.std.specs.Int.{w16}
use Rattle.std.specs.List.{AllByRecursion}
use Rattle.ak_address.specs.Unique.{UniqueModel, IsUnique}
use Rattle.ak_clock.specs.declared.version.TheConstants.{BOUND}
use Rattle.ak_clock.specs.Version.{Counts}
use Rattle.ak_shard_id.specs.declared.report.Report.{Report}
use Rattle.ak_gossip.specs.PartsWalk.{is_above}
use Rattle.ak_field.specs.declared.fault.WireFault.{WireFault}
use Rattle.ak_field.specs.declared.fault.WireFault.TheVariants.{Count, Order}
use Rattle.ak_field.specs.Reading.{◌>>=◌, wide_at, checked, items_at}
use Rattle.ak_field.specs.Ranges.{is_from, IsNumber, IsShard}
use Rattle.ak_field.specs.Fields.{length_at, number_at, shard_at, flag_at, unique_at}

-- a process above the last one
unfoldable pub next_unique_at : Option UniqueModel → List ℕ → Result (UniqueModel × List ℕ) WireFault
next_unique_at last bytes = checked Order (is_above last) (unique_at bytes)

unfoldable pub counted_at : Option (UniqueModel × ℕ) → List ℕ → Result ((UniqueModel × ℕ) × List ℕ) WireFault
counted_at last bytes = do
  who ← next_unique_at (option_map (λ (pair : UniqueModel × ℕ). pair.0) last) bytes
  count ← number_at 1 BOUND who.1
  Ok ((who.0, count.0), count.1)

-- the version of so many processes that have a count
unfoldable pub counts_at : ℕ → List ℕ → Result (Counts × List ℕ) WireFault
counts_at many bytes = do
  pairs ← items_at counted_at None many bytes
  Ok (map.from_sorted pairs.0, pairs.1)

unfoldable pub version_at : List ℕ → Result (Counts × List ℕ) WireFault
version_at bytes = do
  many ← length_at 0 128 bytes
  counts_at many.0 many.1

-- a shard is after the last one
abbrev pub is_later : Option Report → ℕ → Bool
is_later None shard = true
is_later (Some last) shard = nat_lt last.shard shard

unfoldable pub report_at : Option Report → List ℕ → Result (Report × List ℕ) WireFault
report_at last bytes = do
  shard ← checked Order (is_later last) (shard_at bytes)
  number ← number_at 1 BOUND shard.1
  hosted ← flag_at number.1
  Ok (record { shard = shard.0; number = number.0; hosted = hosted.0 }, hosted.1)

unfoldable pub report_count_at : List ℕ → Result (ℕ × List ℕ) WireFault
report_count_at bytes = checked Count (is_from 0 1000) (wide_at w16 bytes)

unfoldable pub reports_at : List ℕ → Result (List Report × List ℕ) WireFault
reports_at bytes = do
  many ← report_count_at bytes
  items_at report_at None many.0 many.1

-- each is valid after the one before it
abbrev pub AllAfter : {X : Type 0} → (Option X → X → Type 0) → Option X → List X → Type 0
AllAfter Valid last [] = Unit {0}
AllAfter Valid last (x ∷ xs) = Valid last x × AllAfter Valid (Some x) xs

-- a version that has a spelling: at most 128 processes, each with its count in range
pub record IsShort (v : Counts) : Type 0 where
  pub few : map.len v ≤ 128
  pub each : AllByRecursion (λ (pair : UniqueModel × ℕ). IsUnique pair.0 × IsNumber pair.1) (map.entries v)

-- a report after the last one
pub record IsReport (last : Option Report) (r : Report) : Type 0 where
  pub shard : IsShard r.shard
  pub later : IsTrue (is_later last r.shard)
  pub number : IsNumber r.number

-- reports that have a spelling: at most 1000, each after the one before it
pub record AreReports (rs : List Report) : Type 0 where
  pub few : length rs ≤ 1000
  pub each : AllAfter IsReport None rs
