-- Whether an entity was ever active on two nodes at once. An entity is active at a node from the action that starts it there to the one
-- that ends its shard there, or that the node stops (Akka's Cluster Sharding: of each entity one instance runs in the cluster).
use Rattle.std.specs.Prelude.{◌≡◌, ◌≢◌, ◌⊎◌, ℕ, ◌+◌, ◌<◌, ◌≤◌, List, Option, None, Some, slice_get, take}
use Rattle.std.specs.declared.cmp.Ordering.TheVariants.{Greater}
use Rattle.ak_address.specs.Unique.{unique_cmp}
use Rattle.ak_settings.specs.Settings.{SettingsModel, shard_by}
use Rattle.ak_schedule.specs.declared.event.Event.{Event}
use Rattle.ak_wire.specs.declared.action.Action.{Action}
use Rattle.ak_wire.specs.declared.action.Action.TheVariants as action
use Rattle.ak_node.specs.declared.node.State.{State}
use Rattle.ak_node.specs.Node.{me_of}
use Rattle.ak_world.specs.World.{Done, run}
use Rattle.ak_world.specs.Margin.{IsStep}

-- the action at this place of a step of the node of this number; steps and places are numbered from 0 on
pub record Acts (settings : SettingsModel) (events : List Event) (time place node : ℕ) (a : Action) : Type 0 where
  pub event : Event
  pub done : Done
  pub did : IsStep settings events time event done
  pub acted : done.node ≡ Some node
  pub at : slice_get done.actions place ≡ Some a

abbrev pub Starts : SettingsModel → List Event → ℕ → ℕ → ℕ → List ℕ → Type 0
Starts settings events time place node entity = Acts settings events time place node (action.Entity entity)

abbrev pub Ends : SettingsModel → List Event → ℕ → ℕ → ℕ → List ℕ → Type 0
Ends settings events time place node entity = Acts settings events time place node (action.Gone (shard_by settings entity)) ⊎ Acts settings events time place node action.Stopped

-- one action comes before another
abbrev pub IsBefore : ℕ → ℕ → ℕ → ℕ → Type 0
IsBefore time place later later_place = (time < later) ⊎ ((time ≡ later) × (place < later_place))

-- the entity is active at the node just before an action: it started there before it, and has not ended there since
pub record WasActive (settings : SettingsModel) (events : List Event) (time place node : ℕ) (entity : List ℕ) : Type 0 where
  pub start : ℕ
  pub start_place : ℕ
  pub starts : Starts settings events start start_place node entity
  pub before : IsBefore start start_place time place
  pub still : (end end_place : ℕ) → IsBefore start start_place end end_place → IsBefore end end_place time place → Ends settings events end end_place node entity → ⊥

-- an entity started at a node while it was active at another one
pub record IsDoubled (settings : SettingsModel) (events : List Event) (time place node other : ℕ) (entity : List ℕ) : Type 0 where
  pub starts : Starts settings events time place node entity
  pub apart : other ≢ node
  pub active : WasActive settings events time place other entity

-- the process of one node does not come after that of another, in the order of processes
abbrev pub ComesNotAfter : List State → ℕ → ℕ → Type 0
ComesNotAfter nodes i j = (n m : State) → slice_get nodes i ≡ Some n → slice_get nodes j ≡ Some m → unique_cmp (me_of n) (me_of m) ≡ Greater → ⊥

-- the first double: the entity, the node at which it was active (the first of them in the order of processes), the node at which it
-- started, and the step, from 1 on
pub record Doubled : Type 0 where
  pub entity : List ℕ
  pub active : ℕ
  pub started : ℕ
  pub step : ℕ

pub record IsFirst (settings : SettingsModel) (events : List Event) (d : Doubled) : Type 0 where
  pub time : ℕ
  pub place : ℕ
  pub doubled : IsDoubled settings events time place d.started d.active d.entity
  pub least : (other : ℕ) → IsDoubled settings events time place d.started other d.entity → ComesNotAfter (run settings (take (time + 1) events)).nodes d.active other
  pub first : (later later_place node other : ℕ) (entity : List ℕ) → IsDoubled settings events later later_place node other entity → (time < later) ⊎ ((time ≡ later) × (place ≤ later_place))
  pub step_is : d.step ≡ time + 1

abbrev pub IsFirstDouble : SettingsModel → List Event → Option Doubled → Type 0
IsFirstDouble settings events None = (time place node other : ℕ) (entity : List ℕ) → IsDoubled settings events time place node other entity → ⊥
IsFirstDouble settings events (Some d) = IsFirst settings events d
