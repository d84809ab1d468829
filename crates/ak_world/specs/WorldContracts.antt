-- Words of the contracts of a world's calls.
use Rattle.std.specs.declared.alloc.AllocError.{AllocError}
use Rattle.std.specs.Prelude.{◌≡◌, ℕ, ◌+◌, ◌^◌, ◌<◌, ◌≤◌, Bool, true, false, List, [], ◌∷◌, ◌++◌, map, length, slice_get, Option, None, Some, Result, Ok, Err, ⊤}
use Rattle.ak_address.specs.Unique.{UniqueModel}
use Rattle.ak_settings.specs.Settings.{SettingsModel}
use Rattle.ak_schedule.specs.declared.event.Event.{Event}
use Rattle.ak_world.specs.declared.margin.Margin.{Margin}
use Rattle.ak_world.specs.declared.world.Scene.{Scene}
use Rattle.ak_world.specs.declared.world.Step.{Step}
use Rattle.ak_world.specs.declared.world.Reason.{Reason}
use Rattle.ak_world.specs.declared.world.Refused.{Refused}
use Rattle.ak_world.specs.declared.world.Refused as refused
use Rattle.ak_node.specs.declared.node.State.{State}
use Rattle.ak_node.specs.declared.node.NodeEvent.{NodeEvent}
use Rattle.ak_node.specs.NodeContracts.{NodeModel}
use Rattle.ak_world.specs.World.{WorldState, Done, node_of, gives, acts, happens, recorded, empty_world, run}
use Rattle.ak_world.specs.InRun.{StartedOnce, RunAlone}
use Rattle.ak_world.specs.Margin.{IsMargin}
use Rattle.ak_world.specs.Double.{Doubled, IsFirstDouble}
use Rattle.ak_world.specs.declared.double.Double.{Double}
use Rattle.ak_world.specs.Uids.{HaveUids}
use Rattle.ak_wire.specs.declared.action.Action.{Action}
use Rattle.ak_wire.specs.Wire.{sent}
use Rattle.ak_wire.specs.declared.envelope.Envelope.{Envelope}
use Rattle.ak_field.specs.Spelling.{format}
use Rattle.ak_wire.specs.Datagram.{SpellsIn}

-- a world with its settings and the events that it accepted, in their order; a spent one has run out of memory
pub record WorldModel : Type 0 where
  pub settings : SettingsModel
  pub state : WorldState
  pub events : List Event
  pub spent : Bool

-- the states of what the code keeps of the nodes
abbrev pub states : List NodeModel → List State
states nodes = map (λ (n : NodeModel). n.state) nodes

-- what the code keeps, as the state of a world
abbrev pub state_of : Scene → WorldState
state_of s = record { nodes = states s.nodes.items; packets = s.packets; history = s.history; founded = s.founded }

-- the step that a call answered is what the event did
pub record Shows (before : WorldState) (step : Step) (done : Done) : Type 0 where
  pub node : step.node ≡ done.node
  pub first_packet : step.first_packet ≡ length before.packets + 1
  pub actions : step.actions ≡ done.actions

-- What an event made of a world was accepted: the new state is what it made, and the packets have numbers.
pub record Went (old : WorldState) (answer : Result Done Reason) (step : Step) (new : WorldState) : Type 0 where
  pub done : Done
  pub happened : answer ≡ Ok done
  pub world : new ≡ done.world
  pub shown : Shows old step done
  pub numbers : step.first_packet + length (sent step.actions) < 2 ^ 64

-- What the actions of the node at an index make of a world, once the node has done them: each packet that it sends is kept, each
-- update is recorded as this process's, and the step shows the actions.
pub record Keeps (index : ℕ) (me : UniqueModel) (actions : List Action) (old : WorldState) (step : Step) (new : WorldState) : Type 0 where
  pub nodes : new.nodes ≡ old.nodes
  pub packets : new.packets ≡ old.packets ++ sent actions
  pub history : new.history ≡ recorded me actions old.history
  pub founded : new.founded ≡ old.founded
  pub few : length new.packets < 2 ^ 63
  pub node : step.node ≡ Some index
  pub first_packet : step.first_packet ≡ length old.packets + 1
  pub actions_shown : step.actions ≡ actions

-- An event was refused for this reason, and nothing changed.
pub record Stayed (old : WorldState) (answer : Result Done Reason) (why : Reason) (new : WorldState) : Type 0 where
  pub reason : answer ≡ Err why
  pub unchanged : new ≡ old

-- an event is accepted
abbrev pub IsAccepted : Result Done Reason → Type 0
IsAccepted answer = (done : Done) × (answer ≡ Ok done)

-- memory ran out
abbrev pub IsNoMemory : Refused → Type 0
IsNoMemory why = (error : AllocError) × (why ≡ refused.TheVariants.NoMemory error)

-- What a call answered and left is what the definitions answer. Memory runs out only where the event is accepted.
abbrev pub Scenes : WorldState → Result Done Reason → Result Step Refused → WorldState → Type 0
Scenes old answer (Ok step) new = Went old answer step new
Scenes old answer (Err (refused.TheVariants.Invalid why)) new = Stayed old answer why new
Scenes old answer (Err (refused.TheVariants.NoMemory _)) new = IsAccepted answer

-- Which node acts, or why none does: the same for every event that the process may be given.
abbrev pub Acts : UniqueModel → WorldState → Result ℕ Reason → Type 0
Acts who w (Ok index) = (index < length w.nodes) × ((e : NodeEvent) → acts e (node_of who w) w ≡ gives e index (slice_get w.nodes index) w)
Acts who w (Err why) = (e : NodeEvent) → acts e (node_of who w) w ≡ Err why

-- each node has the settings of the world
abbrev pub HaveSettings : SettingsModel → WorldState → Type 0
HaveSettings settings w = (index : ℕ) (n : State) → slice_get w.nodes index ≡ Some n → n.membership.settings ≡ settings

-- few nodes were started, each one once, and each was given few events; and at one address at most one runs
pub record IsReady (w : WorldState) : Type 0 where
  pub few_nodes : length w.nodes ≤ 64
  pub once : StartedOnce w.nodes
  pub alone : RunAlone w
  pub few_steps : (index : ℕ) (n : State) → slice_get w.nodes index ≡ Some n → n.steps < 2 ^ 62

-- An event was accepted: the world is what the event makes of it, and keeps the event.
pub record Accepts (event : Event) (old : WorldModel) (step : Step) (new : WorldModel) : Type 0 where
  pub alive : old.spent ≡ false
  pub done : Done
  pub happened : happens old.settings event old.state ≡ Ok done
  pub world : new ≡ record { settings = old.settings; state = done.world; events = old.events ++ event ∷ []; spent = false }
  pub shown : Shows old.state step done

-- An event was refused for the first reason that applies, and nothing changed.
pub record Refuses (event : Event) (old : WorldModel) (why : Reason) (new : WorldModel) : Type 0 where
  pub alive : old.spent ≡ false
  pub reason : happens old.settings event old.state ≡ Err why
  pub unchanged : new ≡ old

-- Memory ran out, at an event that is accepted or because the world was spent before. The world is spent: it still shows
-- its settings and the events that it accepted, and nothing else has happened in it any more.
pub record Spends (event : Event) (old new : WorldModel) : Type 0 where
  pub accepted : old.spent ≡ false → IsAccepted (happens old.settings event old.state)
  pub spent : new.spent ≡ true
  pub same_settings : new.settings ≡ old.settings
  pub same_events : new.events ≡ old.events
  pub emptied : new.state ≡ empty_world

-- what a call of `apply` answered, by cases
abbrev pub Applies : Event → WorldModel → Result Step Refused → WorldModel → Type 0
Applies event old (Ok step) new = Accepts event old step new
Applies event old (Err (refused.TheVariants.Invalid why)) new = Refuses event old why new
Applies event old (Err (refused.TheVariants.NoMemory _)) new = Spends event old new

-- a double as the definitions know it
abbrev pub doubled_of : Double → Doubled
doubled_of d = record { entity = d.entity; active = d.first; started = d.second; step = d.step }

-- what is true of what a world keeps: it is the run of its events, unless it is spent, and then it is empty; the marks are the
-- margin and the first double of its events; and each process that was started has a uid from 1 on, as the type of a process says
pub record IsWorld (settings : SettingsModel) (w : WorldState) (events : List Event) (margin : Margin) (double : Option Doubled) (spent : Bool) : Type 0 where
  pub is_run : spent ≡ false → w ≡ run settings events
  pub is_empty : spent ≡ true → w ≡ empty_world
  pub is_margin : IsMargin settings events margin
  pub is_double : IsFirstDouble settings events double
  pub uids : HaveUids (run settings events)

-- The bytes of a packet are there exactly where the packet is, and spell it in the version of the format that is written.
abbrev pub AreSpelled : Option Envelope → Option (List ℕ) → Type 0
AreSpelled None None = ⊤
AreSpelled (Some e) (Some bytes) = SpellsIn format bytes e
AreSpelled packet bytes = ⊥
