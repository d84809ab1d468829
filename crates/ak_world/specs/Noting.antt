-- What a node tells of its settled views: that it notes one, and that the margin of a tombstone in one has ended (this project's
-- choice).
use Rattle.std.specs.Prelude.{◌≡◌, ℕ, List, Some, slice_get, Contains, IsTrue}
use Rattle.ak_address.specs.Unique.{UniqueModel}
use Rattle.ak_clock.specs.Version.{Counts}
use Rattle.ak_converge.specs.Convergence.{is_settled}
use Rattle.ak_settings.specs.Settings.{SettingsModel, settling_size}
use Rattle.ak_schedule.specs.declared.event.Event.{Event}
use Rattle.ak_settled.specs.Settled.{version_of}
use Rattle.ak_wire.specs.declared.action.Action.TheVariants as action
use Rattle.ak_node.specs.declared.node.State.{State}
use Rattle.ak_node.specs.Node.{known, settled_of}
use Rattle.ak_world.specs.World.{Done}
use Rattle.ak_world.specs.Margin.{IsStep}

-- at a step the node of this number told that the margin of a process ended
pub record TellsMarginEnd (settings : SettingsModel) (events : List Event) (time node : ℕ) (who : UniqueModel) : Type 0 where
  pub event : Event
  pub done : Done
  pub did : IsStep settings events time event done
  pub acted : done.node ≡ Some node
  pub told : Contains done.actions (action.MarginEnd who)

-- a view that a node runs with is settled
abbrev pub HasSettled : SettingsModel → State → Type 0
HasSettled settings n = IsTrue (is_settled (settling_size settings.strategy) settings.role (known n).view (known n).seen)

-- At a step the node of this number noted this version: it told that its view is settled; and at the end of the step it ran, its
-- view was settled, and it had exactly this version.
pub record NotesAt (settings : SettingsModel) (events : List Event) (time node : ℕ) (version : Counts) : Type 0 where
  pub event : Event
  pub done : Done
  pub did : IsStep settings events time event done
  pub acted : done.node ≡ Some node
  pub told : Contains done.actions action.Settled
  pub state : State
  pub at : slice_get done.world.nodes node ≡ Some state
  pub runs : IsTrue state.runs
  pub settled : HasSettled settings state
  pub version_is : (known state).version ≡ version
  pub noted : version_of (settled_of state) ≡ version
