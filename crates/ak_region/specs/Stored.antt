-- How the slots are kept: those of the first shards, up to the last one that was told of; of the shards after them nothing was told.
use Rattle.std.specs.Prelude.{ℕ, ◌-◌, ◌≤◌, ◌++◌, List, length, replicate, ◌≡◌, true}
use Rattle.ak_address.specs.Unique.{UniqueModel}
use Rattle.ak_shard_id.specs.Division.{DivisionModel, many_shards}
use Rattle.ak_region.specs.Shards.{ShardSlot}
use Rattle.ak_region.specs.Slot.{untold}
use Rattle.ak_region.specs.Housed.{are_housed}
use Rattle.ak_region.specs.RegionModel.{Message}

-- the slots of all shards
abbrev pub all_slots : ℕ → List ShardSlot → List ShardSlot
all_slots shards told = told ++ replicate (shards - length told) untold

-- there are 1 to 1000 shards, those of the division, with room for the slots of all, no more messages wait than may, and each
-- home that a slot has is one of these homes
pub record IsStored (division : DivisionModel) (shards capacity most : ℕ) (homes : List UniqueModel) (told : List ShardSlot) (messages : List Message) : Type 0 where
  pub each : 1 ≤ division.each
  pub all : shards ≡ many_shards division
  pub some : 1 ≤ shards
  pub few : shards ≤ 1000
  pub fits : length told ≤ shards
  pub room : shards ≤ capacity
  pub within : length messages ≤ most
  pub housed : are_housed homes told ≡ true
