-- Who gets a shard, and who gives one away (Akka's Cluster Sharding, "Shard allocation": a new shard goes to the region with
-- the fewest; the threshold, and that ties go by the order of processes, are this project's).
use Rattle.std.specs.Prelude.{◌≡◌, ℕ, ◌+◌, nat_lt, List, [], ◌∷◌, Option, None, Some, slice_get, if◌then◌else◌}
use Rattle.std.specs.Ordering.{nat_cmp, ordering_then, is_lt}
use Rattle.std.specs.declared.cmp.Ordering.{Ordering}
use Rattle.ak_address.specs.Unique.{unique_cmp}
use Rattle.ak_allocation.specs.declared.load.Load.{Load}
use Rattle.ak_allocation.specs.declared.allocation.Side.{Side}
use Rattle.ak_allocation.specs.declared.allocation.Side.TheVariants.{Lightest, Heaviest}

-- the order of loads from a side on: by the number of shards, and at equal numbers by process
abbrev pub load_cmp : Side → Load → Load → Ordering
load_cmp Lightest one other = ordering_then (nat_cmp one.shards other.shards) (unique_cmp one.unique other.unique)
load_cmp Heaviest one other = ordering_then (nat_cmp other.shards one.shards) (unique_cmp one.unique other.unique)

abbrev pub first_with : Side → Load → Option Load → Load
first_with side load None = load
first_with side load (Some other) = if is_lt (load_cmp side other load) then other else load

-- the first of the loads in that order
abbrev pub first_of : Side → List Load → Option Load
first_of side [] = None
first_of side (load ∷ loads) = Some (first_with side load (first_of side loads))

-- the load with the fewest shards, at equal numbers the first process
abbrev pub lightest : List Load → Option Load
lightest loads = first_of Lightest loads

-- the load with the most shards, at equal numbers the first process
abbrev pub heaviest : List Load → Option Load
heaviest loads = first_of Heaviest loads

-- one load exceeds the other by more than the threshold
abbrev pub exceeding : ℕ → Option Load → Option Load → Option Load
exceeding threshold None light = None
exceeding threshold (Some heavy) None = None
exceeding threshold (Some heavy) (Some light) = if nat_lt (light.shards + threshold) heavy.shards then Some heavy else None

-- who has to give a shard away
abbrev pub overloaded : List Load → ℕ → Option Load
overloaded loads threshold = exceeding threshold (heaviest loads) (lightest loads)

-- an index is that of this load; there is none exactly where there is no such load
abbrev pub IsIndexOf : List Load → Option ℕ → Option Load → Type 0
IsIndexOf loads None load = load ≡ None
IsIndexOf loads (Some index) load = (found : Load) × (load ≡ Some found) × (slice_get loads index ≡ Some found)
