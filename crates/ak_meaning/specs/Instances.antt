-- What worked runs show: that there are cases of what the laws speak of.
use Rattle.std.specs.Prelude.{◌≡◌, ℕ, true, List, Some, length, slice_get, Contains, IsTrue}
use Rattle.std.specs.FinMap as map
use Rattle.ak_address.specs.Unique.{UniqueModel}
use Rattle.ak_clock.specs.Version.{Counts, Covers}
use Rattle.ak_history.specs.declared.entry.Entry.{Entry}
use Rattle.ak_leader.specs.Led.{IsMemberWith}
use Rattle.ak_member.specs.declared.effect.Effect.{Effect}
use Rattle.ak_member.specs.declared.status.Status.{Status}
use Rattle.ak_member.specs.Standing.{tombstone_of}
use Rattle.ak_node.specs.declared.node.State.{State}
use Rattle.ak_node.specs.Node.{known, me_of}
use Rattle.ak_settings.specs.Settings.{SettingsModel, shard_by}
use Rattle.ak_schedule.specs.declared.event.Event.{Event}
use Rattle.ak_sharding.specs.Alive.{Hosts}
use Rattle.ak_world.specs.Double.{WasActive}
use Rattle.ak_world.specs.InRun.{HasNoted}
use Rattle.ak_world.specs.Noting.{HasSettled}
use Rattle.ak_world.specs.World.{run}

-- an entry of the history says this
abbrev pub IsSaid : SettingsModel → List Event → Effect → Type 0
IsSaid settings events effect = (entry : Entry) × Contains (run settings events).history entry × Contains entry.effects effect

-- after these events the node of this number knows a process as a member with this status; as removed, and confirmed; and it runs
-- with a view that is settled
pub record KnowsMember (settings : SettingsModel) (events : List Event) (index : ℕ) (who : UniqueModel) (status : Status) : Type 0 where
  pub node : State
  pub at : slice_get (run settings events).nodes index ≡ Some node
  pub member : IsMemberWith (known node).view.standings who status

pub record KnowsRemoved (settings : SettingsModel) (events : List Event) (index : ℕ) (who : UniqueModel) : Type 0 where
  pub node : State
  pub at : slice_get (run settings events).nodes index ≡ Some node
  pub removed : tombstone_of (map.get (known node).view.standings who) ≡ Some true

pub record RunsSettled (settings : SettingsModel) (events : List Event) (index : ℕ) : Type 0 where
  pub node : State
  pub at : slice_get (run settings events).nodes index ≡ Some node
  pub runs : IsTrue node.runs
  pub settled : HasSettled settings node

-- after the first of these events one process has noted a version, and after all of them another one has noted a version that
-- covers it and counts more
pub record NotesGrow (settings : SettingsModel) (first events : List Event) (one other : UniqueModel) : Type 0 where
  pub earlier : Counts
  pub later : Counts
  pub noted_first : HasNoted (run settings first) one earlier
  pub noted_later : HasNoted (run settings events) other later
  pub covers : Covers later earlier
  pub more : ¬ Covers earlier later

-- after these events the node of this number is a process that runs and hosts a shard, and an entity of that shard is active there
pub record IsHome (settings : SettingsModel) (events : List Event) (index : ℕ) (who : UniqueModel) (shard : ℕ) (entity : List ℕ) : Type 0 where
  pub node : State
  pub at : slice_get (run settings events).nodes index ≡ Some node
  pub is_who : me_of node ≡ who
  pub runs : IsTrue node.runs
  pub hosts : Hosts node.sharding shard
  pub is_of : shard_by settings entity ≡ shard
  pub active : WasActive settings events (length events) 0 index entity

-- after these events it is a process that runs and does not host the shard, and the entity is not active there
pub record IsNoHome (settings : SettingsModel) (events : List Event) (index : ℕ) (who : UniqueModel) (shard : ℕ) (entity : List ℕ) : Type 0 where
  pub node : State
  pub at : slice_get (run settings events).nodes index ≡ Some node
  pub is_who : me_of node ≡ who
  pub runs : IsTrue node.runs
  pub left : ¬ Hosts node.sharding shard
  pub ended : ¬ WasActive settings events (length events) 0 index entity
