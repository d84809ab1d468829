-- What came to the detector of a node of a run: with each of its steps a tick, the answer of a process that is heard, or nothing,
-- and then the members that it knows at the end of the step (Akka's Cluster Specification, "Failure Detector").
use Rattle.std.specs.Prelude.{◌≡◌, ◌↔◌, ℕ, ◌+◌, ◌<◌, take, List, [], ◌∷◌, ◌++◌, Some, IsTrue, if◌then◌else◌}
use Rattle.ak_address.specs.Unique.{UniqueModel}
use Rattle.ak_address.specs.Uniques.{has}
use Rattle.ak_detector.specs.Detector.{silent}
use Rattle.ak_node.specs.declared.node.NodeEvent.{NodeEvent}
use Rattle.ak_node.specs.declared.node.NodeEvent.TheVariants as event
use Rattle.ak_node.specs.declared.node.State.{State}
use Rattle.ak_node.specs.Node.{known, me_of, is_member}
use Rattle.ak_settings.specs.Settings.{SettingsModel}
use Rattle.ak_schedule.specs.declared.event.Event.{Event}
use Rattle.ak_schedule.specs.declared.event.Event.TheVariants.{Start}
use Rattle.ak_wire.specs.declared.envelope.Message.{Message}
use Rattle.ak_wire.specs.declared.envelope.Message.TheVariants as message
use Rattle.ak_world.specs.Margin.{IsStep}
use Rattle.ak_world.specs.World.{Done, run}
use Rattle.ak_meaning.specs.Causes.{Gives}
use Rattle.ak_meaning.specs.Ring.{Happening, Watches, Hears, Ticks, IsLast, ticks_in}
use Rattle.ak_meaning.specs.Standstill.{IsAt}

-- a member hears who answers its heartbeat
abbrev pub heard_with : UniqueModel → Message → List Happening
heard_with from message.HeartbeatReply = Hears from ∷ []
heard_with from other = []

-- a member counts a tick
abbrev pub happens_with : NodeEvent → List Happening
happens_with (event.Tick word) = Ticks ∷ []
happens_with (event.Packet p) = heard_with p.from p.message
happens_with other = []

abbrev pub comes_with : NodeEvent → State → List Happening
comes_with ev n = if is_member n then happens_with ev else []

-- this came to the node of a number, up to a time
pub data CameTo (settings : SettingsModel) (events : List Event) (index : ℕ) : ℕ → List Happening → Type 0 where
  -- it starts
  starts : (time later : ℕ) (who : UniqueModel) (done : Done) → later ≡ time + 1 → IsStep settings events time (Start who) done → done.node ≡ Some index → CameTo settings events index later []
  -- it takes no step
  rests : (time later : ℕ) (before : List Happening) → later ≡ time + 1 → CameTo settings events index time before → ((n : State) → IsAt settings events time index n → IsAt settings events later index n) → CameTo settings events index later before
  -- it takes a step, from one state to another
  steps : (time later : ℕ) (before : List Happening) (e : Event) (done : Done) (n next : State) (ev : NodeEvent) → later ≡ time + 1 → CameTo settings events index time before
      → IsStep settings events time e done → done.node ≡ Some index → IsAt settings events time index n → Gives (run settings (take time events)) e (me_of n) ev → IsAt settings events later index next
      → CameTo settings events index later (before ++ (comes_with ev n ++ Watches (known next).view.standings ∷ []))

-- Of what came to the node up to a time there is a last thing with which it began to watch a process, or heard it while it watched
-- it; and it finds the process silent exactly where more ticks than the deadline have come since.
pub record SilentSince (settings : SettingsModel) (events : List Event) (time index : ℕ) (n : State) (who : UniqueModel) : Type 0 where
  pub before : List Happening
  pub happening : Happening
  pub since : List Happening
  pub came : CameTo settings events index time (before ++ happening ∷ since)
  pub last : IsLast (me_of n) settings.deadline before happening since who
  pub counted : IsTrue (has (silent settings.deadline n.membership.detector) who) ↔ (settings.deadline < ticks_in since)
