-- What a node does as the coordinator, while it is active (Akka's Cluster Sharding, "How it works" and "Shard rebalancing").
use Rattle.std.specs.Prelude.{◌≡◌, ◌≢◌, ◌⊎◌, ℕ, IsTrue, Bool, true, false, List, [], ◌∷◌, Option, None, Some, length, map, replicate, ◌&&◌, nat_lt, if◌then◌else◌}
use Rattle.std.specs.List.{list_all}
use Rattle.ak_address.specs.Unique.{UniqueModel}
use Rattle.ak_allocation.specs.declared.load.Load.{Load}
use Rattle.ak_coordinator.specs.declared.entry.Homing.{Homing}
use Rattle.ak_coordinator.specs.declared.entry.Homing.TheVariants as homings
use Rattle.ak_coordinator.specs.declared.orders.Order.{Order}
use Rattle.ak_coordinator.specs.declared.orders.Order.TheVariants as order
use Rattle.ak_coordinator.specs.Table.{Home, ShardTable}
use Rattle.ak_coordinator.specs.Entry.{unplaced, homing, NamesHome, after_get_home, after_started, is_last_ack, after_ack, awaits_stop}
use Rattle.ak_coordinator.specs.Coordinator.{entry_of, with_entry, learnt_all, stopped_placed, after_stopped, loads_of}
use Rattle.ak_coordinator.specs.Tick as tick
use Rattle.ak_coordinator.specs.Tick.{after_tick, orders_from}
use Rattle.ak_promise.specs.Ballot.{BallotModel}
use Rattle.ak_promise.specs.Promise.{is_some_ballot}
use Rattle.ak_region.specs.Region.{reports}
use Rattle.ak_settled.specs.Settled.{standings_of}
use Rattle.ak_shard_id.specs.declared.report.Report.{Report}
use Rattle.ak_singleton.specs.declared.phase.Phase.{Phase}
use Rattle.ak_singleton.specs.declared.phase.Phase.TheVariants.{Younger, Asking, Active, Ended}
use Rattle.ak_singleton.specs.declared.phase.TickRule.{TickRule}
use Rattle.ak_singleton.specs.declared.phase.TickRule.TheVariants.{Rests, Opens, HandsOver, Closes, Asks}
use Rattle.ak_singleton.specs.Singleton.{is_asking}
use Rattle.ak_wire.specs.declared.action.Action.{Action}
use Rattle.ak_wire.specs.declared.envelope.Message as wire
use Rattle.ak_sharding.specs.Sharding.{ShardingModel, Around, Outcome, nothing, to_process}
use Rattle.ak_sharding.specs.Hosts.{has_shard}

abbrev pub is_active : Phase → Bool
is_active Younger = false
is_active Asking = false
is_active Active = true
is_active Ended = false

-- the ballot is that of the active node
abbrev pub is_active_with : Around → BallotModel → Bool
is_active_with around b = is_active around.singleton.phase && is_some_ballot around.singleton.live b

-- a rule on the table; a node that is active has one
abbrev pub on_table : (ShardTable → ShardTable × List Action) → Option ShardTable → ShardingModel → Outcome
on_table rule None s = nothing s
on_table rule (Some table) s = (record s { table = Some (rule table).0 }, (rule table).1)

-- a rule on the table for one of its shards, where the node is active with the ballot; else the message is ignored
abbrev pub if_active : Around → BallotModel → ℕ → (ShardTable → ShardTable × List Action) → ShardingModel → Outcome
if_active around b shard rule s = if has_shard shard s && is_active_with around b then on_table rule s.table s else nothing s

-- such a rule applies, to a table of which this holds
abbrev pub Coordinates : Around → BallotModel → ℕ → (ShardTable → Type 0) → ShardingModel → Type 0
Coordinates around b shard Holds s = IsTrue (has_shard shard s && is_active_with around b) × ((table : ShardTable) × (s.table ≡ Some table) × Holds table)

-- the loads: the Up members of the settled view that have granted
abbrev pub loads : Around → ShardTable → List Load
loads around table = loads_of table around.singleton.granted (standings_of around.settled)

-- the order to host
abbrev pub orders_host : Around → BallotModel → ℕ → Home → Action
orders_host around b shard home = to_process around.me home.owner (wire.TheVariants.HostShard b shard home.number)

-- ---- a node asks for a home: where it is known it is told, and a free shard is placed first
abbrev pub tells_home : Around → UniqueModel → BallotModel → ℕ → Homing → List Action
tells_home around from b shard (homings.Known owner) = to_process around.me from (wire.TheVariants.Home b shard owner) ∷ []
tells_home around from b shard (homings.Placed owner number) =
    orders_host around b shard (record { owner = owner; number = number }) ∷ to_process around.me from (wire.TheVariants.Home b shard owner) ∷ []
tells_home around from b shard homings.Moving = []
tells_home around from b shard homings.NoRegion = []

abbrev pub on_get_home : Around → UniqueModel → BallotModel → ℕ → ShardingModel → Outcome
on_get_home around from b shard s =
    if_active around b shard (λ table.
    (with_entry table shard (after_get_home (loads around table) (entry_of table shard)), tells_home around from b shard (homing (loads around table) (entry_of table shard)))) s

-- ---- the home says that it hosts the shard
abbrev pub on_shard_started : Around → UniqueModel → BallotModel → ℕ → ℕ → ShardingModel → Outcome
on_shard_started around from b shard number s = if_active around b shard (λ table. (with_entry table shard (after_started from number (entry_of table shard)), [])) s

-- ---- a node holds the shard: after the last one the home hands it off
abbrev pub orders_hand_off : Around → BallotModel → ℕ → Bool → Option Home → List Action
orders_hand_off around b shard false home = []
orders_hand_off around b shard true None = []
orders_hand_off around b shard true (Some home) = to_process around.me home.owner (wire.TheVariants.HandOff b shard home.number) ∷ []

abbrev pub on_ack : Around → UniqueModel → BallotModel → ℕ → ℕ → ShardingModel → Outcome
on_ack around from b shard number s =
    if_active around b shard (λ table.
    (with_entry table shard (after_ack from number (entry_of table shard)), orders_hand_off around b shard (is_last_ack from number (entry_of table shard)) (entry_of table shard).home)) s

-- ---- the home hosts the shard no more: it is placed again, where it can be
abbrev pub orders_placed : Around → BallotModel → ℕ → Option Home → List Action
orders_placed around b shard None = []
orders_placed around b shard (Some home) = orders_host around b shard home ∷ []

abbrev pub on_shard_stopped : Around → UniqueModel → BallotModel → ℕ → ℕ → ShardingModel → Outcome
on_shard_stopped around from b shard number s =
    if_active around b shard (λ table. (
      with_entry table shard (after_stopped from number (loads around table) (entry_of table shard)),
      orders_placed around b shard (stopped_placed from number (loads around table) (entry_of table shard)),
    )) s

-- ---- where these rules take memory
-- the home is named, or the shard is free and there is a load
abbrev pub HomeTakesRoom : Around → ℕ → ShardTable → Type 0
HomeTakesRoom around shard table = NamesHome (homing (loads around table) (entry_of table shard)) ⊎ (((entry_of table shard).home ≡ None) × (loads around table ≢ []))

-- it is the last one that is waited for
abbrev pub AckTakesRoom : UniqueModel → ℕ → ℕ → ShardTable → Type 0
AckTakesRoom from shard number table = IsTrue (is_last_ack from number (entry_of table shard))

-- the stop is awaited, and there is a load
abbrev pub StopTakesRoom : Around → UniqueModel → ℕ → ℕ → ShardTable → Type 0
StopTakesRoom around from shard number table = IsTrue (awaits_stop from number (entry_of table shard)) × (loads around table ≢ [])

-- ---- in a tick of an active node
abbrev pub gives_order : Around → BallotModel → Order → Action
gives_order around b (order.Begin shard number who) = to_process around.me who (wire.TheVariants.BeginHandOff b shard number)
gives_order around b (order.HandOff shard number who) = to_process around.me who (wire.TheVariants.HandOff b shard number)
gives_order around b (order.Host shard number who) = to_process around.me who (wire.TheVariants.HostShard b shard number)

abbrev pub ticked_table : Around → ShardTable → ShardTable
ticked_table around table = after_tick around.singleton.granted around.settled around.settings.margin around.settings.threshold around.settings.limit table

-- a tick of the table takes memory
abbrev pub TickTakesRoom : Around → ShardTable → Type 0
TickTakesRoom around table = tick.TakesRoom around.singleton.granted around.settled around.settings.margin around.settings.threshold around.settings.limit table

abbrev pub coordinates_with : Around → Option BallotModel → ShardingModel → Outcome
coordinates_with around None s = nothing s
coordinates_with around (Some b) s = on_table (λ table. (ticked_table around table, map (gives_order around b) (orders_from 0 (ticked_table around table)))) s.table s

abbrev pub coordinates : Around → ShardingModel → Outcome
coordinates around s = if is_active around.singleton.phase then coordinates_with around around.singleton.live s else nothing s

-- ---- the table while the node's part in the singleton changes
-- an asking begins, or begins again: with a table that is made of the node's own reports
abbrev pub own_table : UniqueModel → ShardingModel → ShardTable
own_table me s = learnt_all true me (reports s.region) (replicate (length s.region.slots) unplaced)

abbrev pub begins_table : UniqueModel → ShardingModel → ShardingModel
begins_table me s = record s { table = Some (own_table me s) }

-- an asking or an activity ends
abbrev pub ends_table : ShardingModel → ShardingModel
ends_table s = record s { table = None }

-- a grant counts, and its reports are learnt
abbrev pub learns_reports : Bool → UniqueModel → List Report → Option ShardTable → Option ShardTable
learns_reports asking from told None = None
learns_reports asking from told (Some table) = Some (learnt_all asking from told table)

abbrev pub learns_grant : Around → UniqueModel → List Report → ShardingModel → ShardingModel
learns_grant around from told s = record s { table = learns_reports (is_asking around.singleton.phase) from told s.table }

-- by what the node does in a tick for the singleton, and by whether its ballot is outdone, or a grant is the first of its process
abbrev pub tabled_by : TickRule → UniqueModel → ShardingModel → ShardingModel
tabled_by Rests me s = s
tabled_by Opens me s = begins_table me s
tabled_by HandsOver me s = s
tabled_by Closes me s = ends_table s
tabled_by Asks me s = s

abbrev pub begins_if : Bool → UniqueModel → ShardingModel → ShardingModel
begins_if outdone me s = if outdone then begins_table me s else s

abbrev pub learns_if : Bool → Around → UniqueModel → List Report → ShardingModel → ShardingModel
learns_if first around from told s = if first then learns_grant around from told s else s

-- the end of the phase: an asking or an activity loses its table
abbrev pub ended_table : Phase → ShardingModel → ShardingModel
ended_table Younger s = s
ended_table Asking s = ends_table s
ended_table Active s = ends_table s
ended_table Ended s = s

-- a grant counts only where each report is of one of the node's shards
abbrev pub are_of_shards : ℕ → List Report → Bool
are_of_shards shards told = list_all (λ (report : Report). nat_lt report.shard shards) told
