-- The singleton in a run (Akka's "Cluster Singleton": at most one instance of it runs in a cluster; that a node counts as active from
-- what it tells is this project's choice).
use Rattle.std.specs.Prelude.{◌≡◌, ◌⊎◌, ℕ, ◌<◌, List, slice_get, Some, Contains, IsTrue}
use Rattle.ak_address.specs.Unique.{UniqueModel}
use Rattle.ak_settings.specs.Settings.{SettingsModel}
use Rattle.ak_schedule.specs.declared.event.Event.{Event}
use Rattle.ak_settled.specs.Settled.{is_finished}
use Rattle.ak_singleton.specs.declared.phase.Phase.TheVariants.{Active}
use Rattle.ak_wire.specs.declared.action.Action.TheVariants as action
use Rattle.ak_node.specs.declared.node.State.{State}
use Rattle.ak_node.specs.Node.{settled_of, margin_of}
use Rattle.ak_world.specs.InRun.{HasStopped}
use Rattle.ak_world.specs.Margin.{IsStep}
use Rattle.ak_world.specs.World.{Done, run}

-- a node runs the singleton: it runs, and its phase is active
abbrev pub RunsSingleton : State → Type 0
RunsSingleton n = IsTrue n.runs × (n.singleton.phase ≡ Active)

-- at a step the node of this number told that it is active
pub record TellsActive (settings : SettingsModel) (events : List Event) (time node term : ℕ) : Type 0 where
  pub event : Event
  pub done : Done
  pub did : IsStep settings events time event done
  pub acted : done.node ≡ Some node
  pub told : Contains done.actions (action.Active term)

-- at a step it told that it is active no more, or that it stops
pub record TellsOver (settings : SettingsModel) (events : List Event) (time node : ℕ) : Type 0 where
  pub event : Event
  pub done : Done
  pub did : IsStep settings events time event done
  pub acted : done.node ≡ Some node
  pub told : ((term : ℕ) × Contains done.actions (action.Ended term)) ⊎ Contains done.actions action.Stopped

-- A node is an active singleton after these events: it told at a step that it is active, and at no later one that it is so no more,
-- or stops.
pub record IsActiveSingleton (settings : SettingsModel) (events : List Event) (node : ℕ) : Type 0 where
  pub time : ℕ
  pub term : ℕ
  pub tells : TellsActive settings events time node term
  pub since : (later : ℕ) → time < later → TellsOver settings events later node → ⊥

-- at most one node is an active singleton after these events
abbrev pub OneIsActive : SettingsModel → List Event → Type 0
OneIsActive settings events = (i j : ℕ) → IsActiveSingleton settings events i → IsActiveSingleton settings events j → i ≡ j

-- whoever is finished by the settled view of a node has stopped
abbrev pub FinishedHaveStopped : SettingsModel → List Event → Type 0
FinishedHaveStopped settings events =
    (index : ℕ) (n : State) → slice_get (run settings events).nodes index ≡ Some n → (who : UniqueModel) → IsTrue (is_finished (margin_of n) (settled_of n) who) → HasStopped (run settings events).nodes who
