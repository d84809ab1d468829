-- Whether the removal margin of a run was kept: each process whose tombstone had waited for as long as the margin had been told
-- before that it is out (this project's choice; Akka's Cluster Singleton, "removal-margin", waits as long, and hopes the same).
use Rattle.std.specs.Prelude.{◌≡◌, ◌⊎◌, ℕ, ◌+◌, ◌<◌, ◌≤◌, List, slice_get, take, Some, Ok, IsTrue}
use Rattle.ak_address.specs.Unique.{UniqueModel}
use Rattle.ak_clock.specs.Version.{Counts}
use Rattle.ak_member.specs.declared.effect.Effect.{Effect}
use Rattle.ak_member.specs.declared.effect.Effect.TheVariants.{Joined, Rise, Removed, Observed}
use Rattle.ak_member.specs.declared.status.Status.TheVariants.{Down}
use Rattle.ak_history.specs.Shown.{Did}
use Rattle.ak_settings.specs.Settings.{SettingsModel}
use Rattle.ak_schedule.specs.declared.event.Event.{Event}
use Rattle.ak_schedule.specs.declared.event.Event.TheVariants.{Tick}
use Rattle.ak_wire.specs.declared.action.Action.TheVariants.{MarginEnd}
use Rattle.ak_node.specs.declared.node.State.{State}
use Rattle.ak_node.specs.Node.{me_of}
use Rattle.ak_node.specs.GivesUp.{GivesUp}
use Rattle.ak_world.specs.declared.margin.Margin.{Margin}
use Rattle.ak_world.specs.declared.margin.Margin.TheVariants.{Kept, Broken}
use Rattle.ak_world.specs.World.{Done, happens, run}
use Rattle.ak_world.specs.Held.{Holds}
use Rattle.ak_world.specs.InRun.{HasStopped}

-- the event at a place of a list, from 0 on, was accepted, and did this
pub record IsStep (settings : SettingsModel) (events : List Event) (time : ℕ) (event : Event) (done : Done) : Type 0 where
  pub at : slice_get events time ≡ Some event
  pub happened : happens settings event (run settings (take time events)) ≡ Ok done

-- a node of this number is this process
pub record HasNumber (nodes : List State) (number : ℕ) (who : UniqueModel) : Type 0 where
  pub node : State
  pub at : slice_get nodes number ≡ Some node
  pub is_who : me_of node ≡ who

-- a process runs
pub record Runs (nodes : List State) (who : UniqueModel) : Type 0 where
  pub index : ℕ
  pub node : State
  pub at : slice_get nodes index ≡ Some node
  pub is_who : me_of node ≡ who
  pub runs : IsTrue node.runs

-- an effect downs a process, or removes it
abbrev pub PutsOut : Effect → UniqueModel → Type 0
PutsOut (Joined other) who = ⊥
PutsOut (Rise other status number) who = (other ≡ who) × (status ≡ Down)
PutsOut (Removed other confirmed) who = other ≡ who
PutsOut (Observed subjects) who = ⊥

-- A process is told at a step that it is out: it has stopped at the end of the step; or what it knows then covers an entry that
-- downs or removes it; or the step is a tick of its own, at which the resolver decides by static-quorum that its side gives up.
pub data IsTold (settings : SettingsModel) (events : List Event) (time : ℕ) (who : UniqueModel) : Type 0 where
  stopped : HasStopped (run settings (take (time + 1) events)).nodes who → IsTold settings events time who
  put_out : (version : Counts) (effect : Effect) → Holds (run settings (take (time + 1) events)) who version → Did (run settings (take (time + 1) events)).history version effect → PutsOut effect who → IsTold settings events time who
  gave_up : (word index : ℕ) (done : Done) (n : State) → IsStep settings events time (Tick who word) done → slice_get (run settings (take time events)).nodes index ≡ Some n → me_of n ≡ who → GivesUp n → IsTold settings events time who

-- At a step the node of this number found that the margin of a process ended, as the action at this place, and the process was
-- told at no earlier step.
pub record IsUntold (settings : SettingsModel) (events : List Event) (time place node : ℕ) (who : UniqueModel) : Type 0 where
  pub event : Event
  pub done : Done
  pub did : IsStep settings events time event done
  pub acted : done.node ≡ Some node
  pub ended : slice_get done.actions place ≡ Some (MarginEnd who)
  pub untold : (earlier : ℕ) → earlier < time → IsTold settings events earlier who → ⊥

-- the margin is broken at the first such end: the first step, and in it the first action; steps are numbered from 1 on
pub record IsBroken (settings : SettingsModel) (events : List Event) (step node member : ℕ) : Type 0 where
  pub time : ℕ
  pub place : ℕ
  pub who : UniqueModel
  pub untold : IsUntold settings events time place node who
  pub first : (later later_place other : ℕ) (whose : UniqueModel) → IsUntold settings events later later_place other whose → (time < later) ⊎ ((time ≡ later) × (place ≤ later_place))
  pub step_is : step ≡ time + 1
  pub member_is : HasNumber (run settings events).nodes member who

-- it was broken at this step, or earlier
abbrev pub IsBrokenBy : Margin → ℕ → Type 0
IsBrokenBy Kept step = ⊥
IsBrokenBy (Broken earlier node member) step = earlier ≤ step

-- it is kept where there is none
abbrev pub IsMargin : SettingsModel → List Event → Margin → Type 0
IsMargin settings events Kept = (time place node : ℕ) (who : UniqueModel) → IsUntold settings events time place node who → ⊥
IsMargin settings events (Broken step node member) = IsBroken settings events step node member
