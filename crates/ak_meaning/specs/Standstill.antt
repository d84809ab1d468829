-- A resolver waits: it decides at a tick only where what the node's view shows of members has stood still for as many of its ticks
-- as the settings ask (Akka's Split Brain Resolver, "stable-after").
use Rattle.std.specs.Prelude.{◌≡◌, ◌↔◌, ℕ, ◌≤◌, List, length, take, slice_get, Some, Contains, IsTrue}
use Rattle.ak_address.specs.Unique.{UniqueModel}
use Rattle.ak_leader.specs.Led.{IsMemberWith}
use Rattle.ak_member.specs.declared.effect.Effect.{Effect}
use Rattle.ak_member.specs.declared.effect.Effect.TheVariants.{Rise}
use Rattle.ak_member.specs.declared.status.Status.{Status}
use Rattle.ak_member.specs.declared.status.Status.TheVariants.{Down}
use Rattle.ak_member.specs.View.{View}
use Rattle.ak_node.specs.declared.node.State.{State}
use Rattle.ak_node.specs.Node.{known, is_member}
use Rattle.ak_reach.specs.Unreachable.{IsUnreachable}
use Rattle.ak_settings.specs.Settings.{SettingsModel}
use Rattle.ak_schedule.specs.declared.event.Event.{Event}
use Rattle.ak_schedule.specs.declared.event.Event.TheVariants.{Tick}
use Rattle.ak_wire.specs.declared.action.Action.TheVariants.{Update}
use Rattle.ak_world.specs.Margin.{IsStep}
use Rattle.ak_world.specs.World.{Done, run}
use Rattle.ak_meaning.specs.Counting.{HasEachOnce}

-- there are at least so many of a kind
pub record AreAtLeast {X : Type 0} (IsOne : X → Type 0) (number : ℕ) : Type 0 where
  pub some : List X
  pub them : (x : X) → Contains some x → IsOne x
  pub once : HasEachOnce some
  pub many : number ≤ length some

-- the node of this number has this state after so many events
abbrev pub IsAt : SettingsModel → List Event → ℕ → ℕ → State → Type 0
IsAt settings events time index n = slice_get (run settings (take time events)).nodes index ≡ Some n

-- the event of this place was a tick of the node of this number, and found it a member
pub record TicksAt (settings : SettingsModel) (events : List Event) (index time : ℕ) : Type 0 where
  pub who : UniqueModel
  pub word : ℕ
  pub done : Done
  pub node : State
  pub did : IsStep settings events time (Tick who word) done
  pub acted : done.node ≡ Some index
  pub at : IsAt settings events time index node
  pub member : IsTrue (is_member node)

-- a tick between two places, these included
abbrev pub TicksBetween : SettingsModel → List Event → ℕ → ℕ → ℕ → ℕ → Type 0
TicksBetween settings events index from to time = (from ≤ time) × (time ≤ to) × TicksAt settings events index time

-- Both views show the process as a member with the same status, or both as none; and a member is unreachable in both, or in
-- neither.
pub record AreShownAlike (v w : View) (who : UniqueModel) : Type 0 where
  pub status : (status : Status) → IsMemberWith v.standings who status ↔ IsMemberWith w.standings who status
  pub reach : (status : Status) → IsMemberWith v.standings who status → IsUnreachable v who ↔ IsUnreachable w who

-- At a step the node of this number has stood still: from some time on its view has shown each process as it does now, whether it
-- is a member, its status and whether it is unreachable; and since then it has ticked as a member at least as often as the
-- settings ask, this step included.
pub record StoodStill (settings : SettingsModel) (events : List Event) (index time : ℕ) : Type 0 where
  pub from : ℕ
  pub earlier : from ≤ time
  pub same : (between : ℕ) (n m : State) → from ≤ between → between ≤ time → IsAt settings events between index n → IsAt settings events time index m
      → (who : UniqueModel) → AreShownAlike (known n).view (known m).view who
  pub ticks : AreAtLeast (TicksBetween settings events index from time) settings.stable

-- at a tick the node of this number downs somebody
pub record DownsAt (settings : SettingsModel) (events : List Event) (index time : ℕ) : Type 0 where
  pub who : UniqueModel
  pub word : ℕ
  pub done : Done
  pub did : IsStep settings events time (Tick who word) done
  pub acted : done.node ≡ Some index
  pub number : ℕ
  pub effects : List Effect
  pub told : Contains done.actions (Update number effects)
  pub other : UniqueModel
  pub downed : Contains effects (Rise other Down 0)
