-- The tick of a coordinator (Akka's Cluster Sharding, "Shard rebalancing": a hand-off begins with every region, then the home
-- hands the shard off; that a shard leaves an Exiting home first, and how many move at once, are this project's).
use Rattle.std.specs.Prelude.{◌≡◌, ◌≢◌, ◌≤◌, ◌<◌, ◌⊎◌, ℕ, ◌+◌, ◌==◌, nat_lt, Bool, false, not, ◌&&◌, List, [], ◌∷◌, ◌++◌, length, map, take, drop, Option, None, Some, if◌then◌else◌}
use Rattle.std.specs.List.{filter}
use Rattle.ak_address.specs.Unique.{UniqueModel}
use Rattle.ak_address.specs.Uniques.{UniqueSet, no_one, how_many, in_order, set_of}
use Rattle.ak_allocation.specs.declared.load.Load.{Load}
use Rattle.ak_allocation.specs.Allocation.{overloaded}
use Rattle.ak_member.specs.Standing.{Standings, is_member_with, is_exiting}
use Rattle.ak_member.specs.declared.status.Status.{Status}
use Rattle.ak_settled.specs.SettledView.{SettledView}
use Rattle.ak_settled.specs.Settled.{standings_of, is_finished}
use Rattle.ak_coordinator.specs.declared.entry.Stage.{Stage}
use Rattle.ak_coordinator.specs.declared.entry.Stage.TheVariants as stages
use Rattle.ak_coordinator.specs.declared.orders.Order.{Order}
use Rattle.ak_coordinator.specs.declared.orders.Order.TheVariants as order
use Rattle.ak_coordinator.specs.Table.{Home, ShardEntry, ShardTable}
use Rattle.ak_coordinator.specs.Entry.{moves, is_owner, is_holding, freed}
use Rattle.ak_coordinator.specs.Coordinator.{entry_of, with_entry, loads_of}

-- ---- finished nodes
abbrev pub is_unfinished : ℕ → SettledView → UniqueModel → Bool
is_unfinished margin settled who = not (is_finished margin settled who)

-- those of the nodes that are not finished
abbrev pub unfinished : ℕ → SettledView → UniqueSet → UniqueSet
unfinished margin settled whos = set_of (filter (is_unfinished margin settled) (in_order whos))

abbrev pub has_finished_home : ℕ → SettledView → Option Home → Bool
has_finished_home margin settled None = false
has_finished_home margin settled (Some home) = is_finished margin settled home.owner

-- a shard whose home is finished is free, and finished nodes are waited for no more
abbrev pub noticed : ℕ → SettledView → ShardEntry → ShardEntry
noticed margin settled entry =
    if has_finished_home margin settled entry.home then freed entry else record entry { waits = unfinished margin settled entry.waits }

-- the first of the shards were noticed so, and those from one of them on were not
abbrev pub IsPartlyNoticed : ℕ → SettledView → ShardTable → ShardTable → Type 0
IsPartlyNoticed margin settled old new = (first : ℕ) × (first ≤ length old) × (new ≡ map (noticed margin settled) (take first old) ++ drop first old)

-- ---- which shard begins to move
-- a member, with its status and number, is Exiting
abbrev pub is_exiting_pair : UniqueModel × (Status × ℕ) → Bool
is_exiting_pair pair = is_exiting pair.1.0

abbrev pub has_exiting_home : Standings → Option Home → Bool
has_exiting_home s None = false
has_exiting_home s (Some home) = is_member_with is_exiting s home.owner

-- the shard does not move, and its home is Exiting
abbrev pub leaves_exiting : Standings → ShardEntry → Bool
leaves_exiting s entry = not (moves entry) && has_exiting_home s entry.home

-- the shard does not move, and its home is the node
abbrev pub leaves_node : UniqueModel → ShardEntry → Bool
leaves_node who entry = not (moves entry) && is_owner who entry.home

-- the first of the shards, from a number on, that passes
abbrev pub first_from : ℕ → (ShardEntry → Bool) → List ShardEntry → Option ℕ
first_from shard p [] = None
first_from shard p (entry ∷ entries) = if p entry then Some shard else first_from (shard + 1) p entries

-- the first shard of the node that has to give one away, where there is one
abbrev pub first_given_away : ShardTable → Option Load → Option ℕ
first_given_away table None = None
first_given_away table (Some load) = first_from 0 (leaves_node load.unique) table

abbrev pub or_else : Option ℕ → Option ℕ → Option ℕ
or_else None second = second
or_else (Some shard) second = Some shard

-- the first shard with an Exiting home, else the first one of the overloaded node
abbrev pub first_leaver : UniqueSet → Standings → ℕ → ShardTable → Option ℕ
first_leaver granted s threshold table =
    or_else (first_from 0 (leaves_exiting s) table) (first_given_away table (overloaded (loads_of table granted s) threshold))

-- how many shards move
abbrev pub moving : ShardTable → ℕ
moving table = length (filter moves table)

-- the shard moves, and these nodes are waited for
abbrev pub begun : UniqueSet → ShardEntry → ShardEntry
begun waits entry = record entry { stage = stages.Holding; waits = waits }

abbrev pub with_begun : UniqueSet → ShardTable → Option ℕ → ShardTable
with_begun waits table None = table
with_begun waits table (Some shard) = with_entry table shard (begun waits (entry_of table shard))

-- where fewer shards move than may, one begins: it waits for every node that has granted and is not finished
abbrev pub after_begin : UniqueSet → SettledView → ℕ → ℕ → ℕ → ShardTable → ShardTable
after_begin granted settled margin threshold limit table =
    if nat_lt (moving table) limit
    then with_begun (unfinished margin settled granted) table (first_leaver granted (standings_of settled) threshold table)
    else table

-- ---- what is ordered
-- where nobody is waited for, the second stage begins
abbrev pub hurried : ShardEntry → ShardEntry
hurried entry = if is_holding entry.stage && how_many entry.waits == 0 then record entry { stage = stages.Leaving } else entry

-- the table after a tick
abbrev pub after_tick : UniqueSet → SettledView → ℕ → ℕ → ℕ → ShardTable → ShardTable
after_tick granted settled margin threshold limit table =
    map hurried (after_begin granted settled margin threshold limit (map (noticed margin settled) table))

-- What a tick that found no memory leaves: the first of the shards were noticed, and nothing more was done; or it is the table
-- after the tick, and only the orders are missing.
abbrev pub IsPartlyTicked : UniqueSet → SettledView → ℕ → ℕ → ℕ → ShardTable → ShardTable → Type 0
IsPartlyTicked granted settled margin threshold limit old new =
    IsPartlyNoticed margin settled old new ⊎ (new ≡ after_tick granted settled margin threshold limit old)

abbrev pub begin_order : ℕ → ℕ → UniqueModel → Order
begin_order shard number who = order.Begin shard number who

-- a home that has not started is told to host; whoever is waited for, that a hand-off begins; and the home, to hand off
abbrev pub orders_to : ℕ → ShardEntry → Home → Stage → List Order
orders_to shard entry home stages.Still = if entry.started then [] else order.Host shard home.number home.owner ∷ []
orders_to shard entry home stages.Holding = map (begin_order shard home.number) (in_order entry.waits)
orders_to shard entry home stages.Leaving = order.HandOff shard home.number home.owner ∷ []

abbrev pub orders_at : ℕ → ShardEntry → Option Home → List Order
orders_at shard entry None = []
orders_at shard entry (Some home) = orders_to shard entry home entry.stage

abbrev pub orders_of : ℕ → ShardEntry → List Order
orders_of shard entry = orders_at shard entry entry.home

-- the orders of the shards from a number on
abbrev pub orders_from : ℕ → List ShardEntry → List Order
orders_from shard [] = []
orders_from shard (entry ∷ entries) = orders_of shard entry ++ orders_from (shard + 1) entries

-- ---- where a tick takes memory
-- of some shard, nodes are waited for
abbrev pub AnyWaited : ShardTable → Type 0
AnyWaited table = (shard : ℕ) × ((entry_of table shard).waits ≢ no_one)

-- one more shard may move, and there is a load to be compared
abbrev pub ComparesLoads : UniqueSet → SettledView → ℕ → ShardTable → Type 0
ComparesLoads granted settled limit table = (moving table < limit) × (loads_of table granted (standings_of settled) ≢ [])

-- nodes are still waited for, loads are compared, or something is ordered
abbrev pub TakesRoom : UniqueSet → SettledView → ℕ → ℕ → ℕ → ShardTable → Type 0
TakesRoom granted settled margin threshold limit table =
    AnyWaited (map (noticed margin settled) table)
    ⊎ ComparesLoads granted settled limit (map (noticed margin settled) table)
    ⊎ (orders_from 0 (after_tick granted settled margin threshold limit table) ≢ [])
