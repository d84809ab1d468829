-- What a coordinator does with one shard (Akka's Cluster Sharding, "How it works" and "Shard rebalancing"; the allocation
-- numbers, and the table that is made of reports, are this project's).
use Rattle.std.specs.Prelude.{ℕ, ◌+◌, ◌^◌, ◌==◌, max, nat_lt, ⊤, Bool, true, false, ◌&&◌, ◌||◌, List, Option, None, Some, if◌then◌else◌}
use Rattle.std.specs.Ordering.{is_eq, is_lt}
use Rattle.ak_address.specs.Unique.{UniqueModel, unique_cmp}
use Rattle.ak_address.specs.Uniques.{no_one, has, without_one, how_many}
use Rattle.ak_allocation.specs.declared.load.Load.{Load}
use Rattle.ak_allocation.specs.Allocation.{lightest}
use Rattle.ak_shard_id.specs.declared.report.Report.{Report}
use Rattle.ak_coordinator.specs.declared.entry.Homing.{Homing}
use Rattle.ak_coordinator.specs.declared.entry.Homing.TheVariants as homings
use Rattle.ak_coordinator.specs.declared.entry.Stage.{Stage}
use Rattle.ak_coordinator.specs.declared.entry.Stage.TheVariants.{Still, Holding, Leaving}
use Rattle.ak_coordinator.specs.Table.{Home, ShardEntry}

-- a shard that was never placed
abbrev pub unplaced : ShardEntry
unplaced = record { last = 0; home = None; started = false; stage = Still; waits = no_one }

abbrev pub is_moving : Stage → Bool
is_moving Still = false
is_moving Holding = true
is_moving Leaving = true

abbrev pub moves : ShardEntry → Bool
moves entry = is_moving entry.stage

-- the node is the home, with that number
abbrev pub is_home : UniqueModel → ℕ → Option Home → Bool
is_home who number None = false
is_home who number (Some home) = home.number == number && is_eq (unique_cmp home.owner who)

-- the shard has its home at the node
abbrev pub is_owner : UniqueModel → Option Home → Bool
is_owner who None = false
is_owner who (Some home) = is_eq (unique_cmp home.owner who)

abbrev pub is_at : UniqueModel → ShardEntry → Bool
is_at who entry = is_owner who entry.home

-- ---- what nodes report
-- a reported number is greater than the home's, or equal, and the node is the later process
abbrev pub beats : UniqueModel → ℕ → Home → Bool
beats from number home = nat_lt home.number number || (home.number == number && is_lt (unique_cmp home.owner from))

-- a node that hosts the shard becomes its home: where there is none, and, while the coordinator still asks, where it beats it
abbrev pub claims : Bool → UniqueModel → ℕ → Option Home → Bool
claims asking from number None = true
claims asking from number (Some home) = asking && beats from number home

-- the greater number stays, and a home that is claimed has started
abbrev pub learnt : Bool → UniqueModel → Report → ShardEntry → ShardEntry
learnt asking from report entry =
    if report.hosted && claims asking from report.number entry.home
    then record entry { last = max entry.last report.number; home = Some (record { owner = from; number = report.number }); started = true }
    else record entry { last = max entry.last report.number }

-- ---- where a shard is placed
-- the greatest allocation number
abbrev pub most_number : ℕ
most_number = 2 ^ 62

-- the least load gets a number, unless it would pass the bound
abbrev pub allotted_to : ℕ → Option Load → Option Home
allotted_to last None = None
allotted_to last (Some load) = if nat_lt last most_number then Some (record { owner = load.unique; number = last + 1 }) else None

abbrev pub allotted : List Load → ShardEntry → Option Home
allotted loads entry = allotted_to entry.last (lightest loads)

-- a new home has not started, and nothing moves
abbrev pub after_allotment : Option Home → ShardEntry → ShardEntry
after_allotment None entry = entry
after_allotment (Some home) entry = record { last = home.number; home = Some home; started = false; stage = Still; waits = no_one }

abbrev pub told : Option Home → Homing
told None = homings.NoRegion
told (Some home) = homings.Placed home.owner home.number

-- whoever asks for the home is told it, where it is known and the shard does not move; a free shard is placed
abbrev pub homing_of : List Load → ShardEntry → Option Home → Homing
homing_of loads entry None = told (allotted loads entry)
homing_of loads entry (Some home) = if moves entry then homings.Moving else homings.Known home.owner

abbrev pub homing : List Load → ShardEntry → Homing
homing loads entry = homing_of loads entry entry.home

-- a home is named, for which memory may be wanted
abbrev pub NamesHome : Homing → Type 0
NamesHome homings.NoRegion = ⊥
NamesHome (homings.Placed owner number) = ⊤
NamesHome homings.Moving = ⊥
NamesHome (homings.Known owner) = ⊤

abbrev pub placed_if_free : List Load → ShardEntry → Option Home → ShardEntry
placed_if_free loads entry None = after_allotment (allotted loads entry) entry
placed_if_free loads entry (Some home) = entry

abbrev pub after_get_home : List Load → ShardEntry → ShardEntry
after_get_home loads entry = placed_if_free loads entry entry.home

-- the home says that it hosts the shard
abbrev pub after_started : UniqueModel → ℕ → ShardEntry → ShardEntry
after_started from number entry = record entry { started = is_home from number entry.home || entry.started }

-- ---- how a shard moves
abbrev pub is_holding : Stage → Bool
is_holding Still = false
is_holding Holding = true
is_holding Leaving = false

abbrev pub has_number : ℕ → Option Home → Bool
has_number number None = false
has_number number (Some home) = home.number == number

-- the node is waited for: the shard moves with that number, in its first stage
abbrev pub is_awaited : UniqueModel → ℕ → ShardEntry → Bool
is_awaited from number entry = has_number number entry.home && is_holding entry.stage && has entry.waits from

-- it is the last one that is waited for
abbrev pub is_last_ack : UniqueModel → ℕ → ShardEntry → Bool
is_last_ack from number entry = is_awaited from number entry && how_many (without_one entry.waits from) == 0

-- it is waited for no more, and where none is left the home hands the shard off
abbrev pub after_ack : UniqueModel → ℕ → ShardEntry → ShardEntry
after_ack from number entry =
    if is_awaited from number entry
    then record entry { stage = if is_last_ack from number entry then Leaving else Holding; waits = without_one entry.waits from }
    else entry

-- a free shard has no home, and does not move; its last number stays
abbrev pub freed : ShardEntry → ShardEntry
freed entry = record { last = entry.last; home = None; started = false; stage = Still; waits = no_one }

-- the home has to say that it hosts the shard no more: it moves from there, with that number
abbrev pub awaits_stop : UniqueModel → ℕ → ShardEntry → Bool
awaits_stop from number entry = moves entry && is_home from number entry.home
