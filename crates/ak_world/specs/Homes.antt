-- Where shards are hosted at the end of a run.
use Rattle.std.specs.Prelude.{◌≡◌, ℕ, List, Some, IsTrue, slice_get}
use Rattle.ak_coordinator.specs.Coordinator.{entry_of}
use Rattle.ak_coordinator.specs.Table.{ShardTable}
use Rattle.ak_region.specs.Marks.{marks_of}
use Rattle.ak_settings.specs.Settings.{SettingsModel}
use Rattle.ak_schedule.specs.declared.event.Event.{Event}
use Rattle.ak_sharding.specs.Alive.{Hosts}
use Rattle.ak_node.specs.declared.node.State.{State}
use Rattle.ak_node.specs.Node.{me_of}
use Rattle.ak_world.specs.Singletons.{RunsSingleton}
use Rattle.ak_world.specs.World.{run}

-- no shard is hosted at two running nodes; and the table of a node that is active has each shard that a running node hosts, with
-- that node and the number with which it is hosted there
pub record HasOneHome (settings : SettingsModel) (events : List Event) : Type 0 where
  pub hosted : (i j : ℕ) (n m : State) → slice_get (run settings events).nodes i ≡ Some n → slice_get (run settings events).nodes j ≡ Some m → IsTrue n.runs → IsTrue m.runs
      → (shard : ℕ) → Hosts n.sharding shard → Hosts m.sharding shard → i ≡ j
  pub table : (i j : ℕ) (n m : State) → slice_get (run settings events).nodes i ≡ Some n → slice_get (run settings events).nodes j ≡ Some m → RunsSingleton n → IsTrue m.runs
      → (shard : ℕ) → Hosts m.sharding shard → (table : ShardTable) × (n.sharding.table ≡ Some table) × ((entry_of table shard).home ≡ Some (record { owner = me_of m; number = (marks_of m.sharding.region shard).number }))
