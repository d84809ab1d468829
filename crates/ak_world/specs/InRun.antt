-- The processes of a run: who was started and who has stopped, who runs where, and what a node has noted as settled (Akka's
-- Cluster Specification, "Membership Lifecycle"; confirmed tombstones and settled views are this project's choice).
use Rattle.std.specs.Prelude.{◌≡◌, ◌⊎◌, ℕ, ◌≤◌, false, true, List, slice_get, Some, IsTrue, Contains}
use Rattle.std.specs.FinMap as map
use Rattle.ak_address.specs.Unique.{UniqueModel}
use Rattle.ak_address.specs.Uniques.{has}
use Rattle.ak_clock.specs.Version.{Counts, count, Covers}
use Rattle.ak_member.specs.declared.effect.Effect.{Effect}
use Rattle.ak_member.specs.declared.effect.Effect.TheVariants.{Joined, Rise, Removed, Observed}
use Rattle.ak_member.specs.Standing.{Standings, tombstone_of, is_gone}
use Rattle.ak_member.specs.View.{Row}
use Rattle.ak_gossip.specs.Gossip.{GossipState, is_known}
use Rattle.ak_history.specs.declared.entry.Entry.{Entry}
use Rattle.ak_history.specs.History.{IsBounded, view}
use Rattle.ak_settings.specs.Settings.{SettingsModel, is_listed}
use Rattle.ak_schedule.specs.declared.event.Event.{Event}
use Rattle.ak_settled.specs.SettledView.{NotedView}
use Rattle.ak_wire.specs.declared.envelope.Envelope.{Envelope}
use Rattle.ak_wire.specs.Wire.{says_it_stops}
use Rattle.ak_node.specs.declared.node.State.{State}
use Rattle.ak_node.specs.Node.{known, me_of}
use Rattle.ak_node.specs.NodeContracts.{ServesWhileItRuns}
use Rattle.ak_world.specs.World.{WorldState, run}
use Rattle.ak_world.specs.Fold.{IsIn}
use Rattle.ak_world.specs.Held.{Held}

-- ---- who runs
-- a process was started, and its address is listed
pub record WasStarted (settings : SettingsModel) (nodes : List State) (who : UniqueModel) : Type 0 where
  pub index : ℕ
  pub node : State
  pub at : slice_get nodes index ≡ Some node
  pub is_who : me_of node ≡ who
  pub listed : IsTrue (is_listed settings.listed who.address)

-- a process was started, and has stopped
pub record HasStopped (nodes : List State) (who : UniqueModel) : Type 0 where
  pub index : ℕ
  pub node : State
  pub at : slice_get nodes index ≡ Some node
  pub is_who : me_of node ≡ who
  pub stopped : node.runs ≡ false

-- each running node that knows anybody is a member of its own view, and not Down there
abbrev pub AllServe : WorldState → Type 0
AllServe w = (index : ℕ) (n : State) → slice_get w.nodes index ≡ Some n → ServesWhileItRuns n

-- no process was started twice
abbrev pub StartedOnce : List State → Type 0
StartedOnce nodes = (i j : ℕ) (n m : State) → slice_get nodes i ≡ Some n → slice_get nodes j ≡ Some m → me_of n ≡ me_of m → i ≡ j

-- at one address at most one process runs
abbrev pub RunAlone : WorldState → Type 0
RunAlone w = (i j : ℕ) (n m : State) → slice_get w.nodes i ≡ Some n → slice_get w.nodes j ≡ Some m → IsTrue n.runs → IsTrue m.runs → (me_of n).address ≡ (me_of m).address → i ≡ j

-- ---- who is named
-- members and tombstones that stand in a world: what a node knows, what a packet carries, what a node has noted as settled
pub data IsShown (w : WorldState) : Standings → Type 0 where
  in_gossip : (g : GossipState) → IsIn g w → IsShown w g.view.standings
  as_settled : (index : ℕ) (n : State) (noted : NotedView) → slice_get w.nodes index ≡ Some n → n.membership.settled.view ≡ Some noted → IsShown w noted.standings

-- a process is said to have stopped: its tombstone is confirmed, a node has heard it, or its packet says so
pub data IsConfirmed (w : WorldState) (who : UniqueModel) : Type 0 where
  buried : (s : Standings) → IsShown w s → tombstone_of (map.get s who) ≡ Some true → IsConfirmed w who
  heard : (index : ℕ) (n : State) → slice_get w.nodes index ≡ Some n → IsTrue (has n.membership.confirmed who) → IsConfirmed w who
  said : (p : Envelope) → Contains w.packets p → IsTrue (says_it_stops p.message) → p.from ≡ who → IsConfirmed w who

-- an effect names a process
abbrev pub Names : Effect → UniqueModel → Type 0
Names (Joined other) who = other ≡ who
Names (Rise other status number) who = other ≡ who
Names (Removed other confirmed) who = other ≡ who
Names (Observed subjects) who = IsTrue (has subjects who)

-- a process is named in a world: as a member or a tombstone, by a version, a seen set or a row, among those of whom a node has
-- heard that they stop, as the sender of a packet, and as the author or a subject of an entry
pub data IsNamedIn (w : WorldState) (who : UniqueModel) : Type 0 where
  stands : (s : Standings) → IsShown w s → IsTrue (is_known s who) → IsNamedIn w who
  counted : (g : GossipState) → IsIn g w → 1 ≤ count g.version who → IsNamedIn w who
  sees : (g : GossipState) → IsIn g w → IsTrue (has g.seen who) → IsNamedIn w who
  observed : (g : GossipState) → IsIn g w → (observer : UniqueModel) (row : Row) → map.get g.view.rows observer ≡ Some row → (observer ≡ who) ⊎ IsTrue (has row.subjects who) → IsNamedIn w who
  heard_of : (index : ℕ) (n : State) → slice_get w.nodes index ≡ Some n → IsTrue (has n.membership.confirmed who) → IsNamedIn w who
  sends : (p : Envelope) → Contains w.packets p → p.from ≡ who → IsNamedIn w who
  writes : (entry : Entry) → Contains w.history entry → entry.author ≡ who → IsNamedIn w who
  written : (entry : Entry) (effect : Effect) → Contains w.history entry → Contains entry.effects effect → Names effect who → IsNamedIn w who

-- ---- what is settled
-- A view that a node has noted as settled: it is that of the history at its version, which the process held, and what the node
-- knows covers it. It shows the process neither as Down nor as a tombstone.
pub record IsSettled (settings : SettingsModel) (events : List Event) (n : State) (noted : NotedView) : Type 0 where
  pub shown : noted.standings ≡ (view (run settings events).history noted.version).standings
  pub bounded : IsBounded (run settings events).history noted.version
  pub held : Held settings events (me_of n) noted.version
  pub covered : Covers (known n).version noted.version
  pub stays : is_gone (map.get noted.standings (me_of n)) ≡ false

-- a node of the world is this process, and has noted this version as settled
pub record HasNoted (w : WorldState) (who : UniqueModel) (version : Counts) : Type 0 where
  pub index : ℕ
  pub node : State
  pub noted : NotedView
  pub at : slice_get w.nodes index ≡ Some node
  pub is_who : me_of node ≡ who
  pub noted_is : node.membership.settled.view ≡ Some noted
  pub version_is : noted.version ≡ version
