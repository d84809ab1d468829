-- The table of a coordinator, as a value.
use Rattle.std.specs.Prelude.{◌≡◌, ℕ, ◌≤◌, Bool, List, length, Option, None, Some, refl}
use Rattle.std.specs.FinSet as set
use Rattle.std.specs.Coded.{Coded, code_by, coded×, coded_ℕ, coded_bool, coded_list, coded_option}
use Rattle.ak_address.specs.Unique.{UniqueModel, coded_unique}
use Rattle.ak_address.specs.Uniques.{UniqueSet}
use Rattle.ak_coordinator.specs.declared.entry.Stage.{Stage}
use Rattle.ak_coordinator.specs.declared.entry.Stage.TheVariants.{Still}
use Rattle.ak_coordinator.specs.contracts.entry.Stage as stage

-- the home of a shard: the node, and the number with which it hosts the shard
pub record Home : Type 0 where
  pub owner : UniqueModel
  pub number : ℕ

abbrev pub coded_home : Coded Home
coded_home = code_by (UniqueModel × ℕ) (coded× coded_unique coded_ℕ) (λ h. (h.owner, h.number)) (λ p. record { owner = p.0; number = p.1 }) (λ _. refl)

-- the greatest number that was given or reported, the home, whether it has said that it hosts the shard, how far the shard
-- has moved, and the nodes that are waited for
pub record ShardEntry : Type 0 where
  pub last : ℕ
  pub home : Option Home
  pub started : Bool
  pub stage : Stage
  pub waits : UniqueSet

abbrev pub coded_entry : Coded ShardEntry
coded_entry =
    code_by (ℕ × (Option Home × (Bool × (Stage × UniqueSet))))
    (coded× coded_ℕ (coded× (coded_option coded_home) (coded× coded_bool (coded× stage.the_row.coded (set.code coded_unique)))))
    (λ e. (e.last, (e.home, (e.started, (e.stage, e.waits)))))
    (λ p. record { last = p.0; home = p.1.0; started = p.1.1.0; stage = p.1.1.1.0; waits = p.1.1.1.1 })
    (λ _. refl)

-- the home's number is at most the last one, and a shard without a home does not move
pub record IsEntry (entry : ShardEntry) : Type 0 where
  pub within : (home : Home) → entry.home ≡ Some home → home.number ≤ entry.last
  pub placed : entry.home ≡ None → entry.stage ≡ Still

-- the shards in their order from shard 0 on
abbrev pub ShardTable : Type 0
ShardTable = List ShardEntry

abbrev pub coded_table : Coded ShardTable
coded_table = coded_list coded_entry

-- there are 1 to 1000 shards
pub record IsTable (table : ShardTable) : Type 0 where
  pub some : 1 ≤ length table
  pub few : length table ≤ 1000
