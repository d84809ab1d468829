-- What a node keeps of the shards, and where a message to an entity goes (Akka's Cluster Sharding, "How it works"). The region
-- routes; entities start with the first payload that is delivered to them.
use Rattle.std.specs.Prelude.{ℕ, Bool, true, false, List, [], ◌∷◌, ◌++◌, Option, None, length}
use Rattle.std.specs.FinMap as finmap
use Rattle.ak_address.specs.Unique.{UniqueModel}
use Rattle.ak_coordinator.specs.Table.{ShardTable}
use Rattle.ak_entity.specs.Active.{ActiveEntities}
use Rattle.ak_entity.specs.Entities.{after_delivery}
use Rattle.ak_member.specs.Standing.{Standings}
use Rattle.ak_region.specs.declared.region.Offered.{Offered}
use Rattle.ak_region.specs.declared.region.Offered.TheVariants as offered
use Rattle.ak_region.specs.RegionModel.{RegionModel, Message}
use Rattle.ak_region.specs.Region.{new_region, entity_shard, route, after_offer, flushed, after_flush}
use Rattle.ak_settings.specs.Settings.{SettingsModel, division_of}
use Rattle.ak_shard_id.specs.Division.{DivisionModel}
use Rattle.ak_settled.specs.SettledView.{SettledView}
use Rattle.ak_singleton.specs.Singleton.{SingletonModel}
use Rattle.ak_wire.specs.declared.action.Action.{Action}
use Rattle.ak_wire.specs.declared.action.Action as action
use Rattle.ak_wire.specs.declared.envelope.Message as wire

-- the region, the active entities, and, while the node asks or is active, the table of a coordinator
pub record ShardingModel : Type 0 where
  pub region : RegionModel
  pub entities : ActiveEntities
  pub table : Option ShardTable

-- what the rules read of the node and leave as it is: the process, the settings, the settled view, its view of the members, and
-- its part in the singleton
pub record Around : Type 0 where
  pub me : UniqueModel
  pub settings : SettingsModel
  pub settled : SettledView
  pub members : Standings
  pub singleton : SingletonModel

-- nothing was told of the shards of a division, and nothing waits, of so many messages that may
abbrev pub nothing_told : DivisionModel → ℕ → ShardingModel
nothing_told division most = record { region = new_region division most; entities = finmap.empty; table = None }

-- a process starts
abbrev pub new_sharding : SettingsModel → ShardingModel
new_sharding settings = nothing_told (division_of settings) settings.buffer

-- a node that ran out of memory forgets everything
abbrev pub forgotten : ShardingModel → ShardingModel
forgotten s = nothing_told s.region.division s.region.most

-- what a rule makes of it, and what it does
abbrev pub Outcome : Type 0
Outcome = ShardingModel × List Action

abbrev pub nothing : ShardingModel → Outcome
nothing s = (s, [])

-- one rule after another
abbrev pub and_then : (ShardingModel → Outcome) → Outcome → Outcome
and_then next o = ((next o.0).0, o.1 ++ (next o.0).1)

-- what was done, and what is done after it that changes nothing
abbrev pub and_does : List Action → Outcome → Outcome
and_does actions o = (o.0, o.1 ++ actions)

-- a message to one process
abbrev pub to_process : UniqueModel → UniqueModel → wire.Message → Action
to_process me to what = action.TheVariants.Send (record { from = me; to = to.address; uid = to.uid; message = what })

-- ---- a message to an entity
-- what is told of a delivery: first that the entity starts, where it was not active
abbrev pub delivery : Bool → List ℕ → ℕ → List Action
delivery true entity payload = action.TheVariants.Deliver entity payload ∷ []
delivery false entity payload = action.TheVariants.Entity entity ∷ action.TheVariants.Deliver entity payload ∷ []

-- the payload is delivered to its entity, in the entity's shard
abbrev pub delivers : List ℕ → ℕ → ShardingModel → Outcome
delivers entity payload s =
    (record s { entities = after_delivery s.entities (entity_shard s.region entity) entity payload }, delivery (finmap.contains_key s.entities entity) entity payload)

-- what came of a message that was offered to the region, which keeps it where it waits
abbrev pub routed : UniqueModel → Message → Offered → ShardingModel → Outcome
routed me message (offered.Delivered entity) s = delivers message.entity message.payload s
routed me message (offered.Forwarded home entity) s =
    (s, action.TheVariants.Forward message.entity message.payload ∷ to_process me home (wire.TheVariants.Forward message.entity message.payload) ∷ [])
routed me message offered.Buffered s =
    (record s { region = after_offer offered.Buffered message s.region }, action.TheVariants.Buffer message.entity message.payload ∷ [])
routed me message (offered.Dropped entity) s = (s, action.TheVariants.Drop message.entity message.payload ∷ [])

-- the route of a message
abbrev pub routes : UniqueModel → Message → ShardingModel → Outcome
routes me message s = routed me message (route me s.region message.entity) s

-- of several, one after the other
abbrev pub routes_each : UniqueModel → List Message → ShardingModel → Outcome
routes_each me [] s = nothing s
routes_each me (message ∷ messages) s = and_then (routes_each me messages) (routes me message s)

-- The messages that wait for a shard leave the buffer in order and are routed, where they may; the others keep their order.
abbrev pub flushes : UniqueModel → ℕ → ShardingModel → Outcome
flushes me shard s = routes_each me (flushed me shard s.region) (record s { region = after_flush me shard s.region })
