-- The leader of a view that does not settle waits before it lets anybody in: at as many of its ticks as the settings ask it found
-- its view not settled (Akka's Cluster Specification, "WeaklyUp Members").
use Rattle.std.specs.Prelude.{◌≡◌, ℕ, ◌≤◌, false, List, Some, Contains}
use Rattle.ak_address.specs.Unique.{UniqueModel}
use Rattle.ak_member.specs.declared.effect.Effect.{Effect}
use Rattle.ak_member.specs.declared.effect.Effect.TheVariants.{Rise}
use Rattle.ak_member.specs.declared.status.Status.TheVariants.{WeaklyUp}
use Rattle.ak_membership.specs.Tick.{has_settled}
use Rattle.ak_node.specs.declared.node.State.{State}
use Rattle.ak_settings.specs.Settings.{SettingsModel}
use Rattle.ak_schedule.specs.declared.event.Event.{Event}
use Rattle.ak_schedule.specs.declared.event.Event.TheVariants.{Tick}
use Rattle.ak_wire.specs.declared.action.Action.TheVariants.{Update}
use Rattle.ak_world.specs.Margin.{IsStep}
use Rattle.ak_world.specs.World.{Done}
use Rattle.ak_meaning.specs.Standstill.{AreAtLeast, IsAt, TicksBetween}

-- At a step the node of this number has been unsettled: from some time on each of its ticks as a member found its view not
-- settled; and those are at least as many as the settings ask, this step included.
pub record StoodUnsettled (settings : SettingsModel) (events : List Event) (index time : ℕ) : Type 0 where
  pub from : ℕ
  pub earlier : from ≤ time
  pub each : (between : ℕ) → TicksBetween settings events index from time between → (n : State) → IsAt settings events between index n → has_settled n.membership ≡ false
  pub ticks : AreAtLeast (TicksBetween settings events index from time) settings.weakly

-- at a tick the node of this number lets somebody in
pub record LetsInAt (settings : SettingsModel) (events : List Event) (index time : ℕ) : Type 0 where
  pub who : UniqueModel
  pub word : ℕ
  pub done : Done
  pub did : IsStep settings events time (Tick who word) done
  pub acted : done.node ≡ Some index
  pub number : ℕ
  pub effects : List Effect
  pub told : Contains done.actions (Update number effects)
  pub other : UniqueModel
  pub let_in : Contains effects (Rise other WeaklyUp 0)
