-- What a coordinator does with its table (Akka's Cluster Sharding, "How it works" and "Shard rebalancing").
use Rattle.std.specs.Prelude.{◌≡◌, Contains, IsTrue, ℕ, ◌-◌, ◌<◌, drop, Bool, ◌&&◌, List, [], ◌∷◌, length, map, slice_index_or, slice_set, Option, None, if◌then◌else◌}
use Rattle.std.specs.FinMap as finmap
use Rattle.std.specs.List.{filter}
use Rattle.std.specs.Ordering.{is_eq}
use Rattle.ak_address.specs.Unique.{UniqueModel, unique_cmp}
use Rattle.ak_address.specs.Uniques.{UniqueSet, has}
use Rattle.ak_allocation.specs.declared.load.Load.{Load}
use Rattle.ak_member.specs.Standing.{Standings, member_pairs, is_up}
use Rattle.ak_member.specs.declared.standing.Standing.{Standing}
use Rattle.ak_member.specs.declared.status.Status.{Status}
use Rattle.ak_shard_id.specs.declared.report.Report.{Report}
use Rattle.ak_coordinator.specs.Table.{Home, ShardEntry, ShardTable}
use Rattle.ak_coordinator.specs.Entry.{unplaced, is_at, learnt, freed, allotted, after_allotment, awaits_stop}

-- what is known of a shard
abbrev pub entry_of : ShardTable → ℕ → ShardEntry
entry_of table shard = slice_index_or table shard unplaced

abbrev pub with_entry : ShardTable → ℕ → ShardEntry → ShardTable
with_entry table shard entry = slice_set table shard entry

-- each report is learnt, one after the other
abbrev pub learnt_all : Bool → UniqueModel → List Report → ShardTable → ShardTable
learnt_all asking from [] table = table
learnt_all asking from (report ∷ reports) table = learnt_all asking from reports (with_entry table report.shard (learnt asking from report (entry_of table report.shard)))

-- The first of the reports were learnt, and those from one of them on were not: with these all are.
abbrev pub IsPartlyLearnt : Bool → UniqueModel → List Report → ShardTable → ShardTable → Type 0
IsPartlyLearnt asking from reports old new = (first : ℕ) × (first < length reports) × (learnt_all asking from (drop first reports) new ≡ learnt_all asking from reports old)

-- some shard is reported as hosted
abbrev pub SaysHosted : List Report → Type 0
SaysHosted reports = (report : Report) × Contains reports report × IsTrue report.hosted

-- one shard less at the node, and not below 0
abbrev pub less_one : UniqueModel → Load → Load
less_one from load = if is_eq (unique_cmp load.unique from) then record load { shards = load.shards - 1 } else load

-- a shard whose stop is awaited is free, and is placed at the least load
abbrev pub stopped_placed : UniqueModel → ℕ → List Load → ShardEntry → Option Home
stopped_placed from number loads entry = if awaits_stop from number entry then allotted (map (less_one from) loads) (freed entry) else None

abbrev pub after_stopped : UniqueModel → ℕ → List Load → ShardEntry → ShardEntry
after_stopped from number loads entry =
    if awaits_stop from number entry then after_allotment (allotted (map (less_one from) loads) (freed entry)) (freed entry) else entry

-- how many shards have their home at a node
abbrev pub load_of : ShardTable → UniqueModel → Load
load_of table who = record { unique = who; shards = length (filter (is_at who) table) }

-- the Up members among these pairs that have granted, and their loads
abbrev pub may_host : UniqueSet → UniqueModel × (Status × ℕ) → Bool
may_host granted pair = is_up pair.1.0 && has granted pair.0

abbrev pub loads_among : ShardTable → UniqueSet → List (UniqueModel × Standing) → List Load
loads_among table granted pairs = map (λ (pair : UniqueModel × (Status × ℕ)). load_of table pair.0) (filter (may_host granted) (member_pairs pairs))

-- the loads of a settled view
abbrev pub loads_of : ShardTable → UniqueSet → Standings → List Load
loads_of table granted s = loads_among table granted (finmap.entries s)
