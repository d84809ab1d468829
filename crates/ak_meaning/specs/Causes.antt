-- Why each entry of a run was made: at which step, by which node, on which event, and for what cause (Akka's Cluster
-- Specification, "Membership Lifecycle", "Leader" and "Failure Detector"; Split Brain Resolver; that only settled views have a
-- leader that acts, and the founding, are this project's choice).
use Rattle.std.specs.Prelude.{◌≡◌, ◌≢◌, ◌⊎◌, ℕ, ◌+◌, ◌<◌, ◌≤◌, false, true, take, List, Some, Contains, IsTrue}
use Rattle.ak_address.specs.Distinct.{distinct}
use Rattle.ak_address.specs.Unique.{UniqueModel}
use Rattle.ak_address.specs.Uniques.{has}
use Rattle.ak_converge.specs.Convergence.{is_converged, is_settled}
use Rattle.ak_downing.specs.Downing.{decide, downs}
use Rattle.ak_gossip.specs.Gossip.{is_known}
use Rattle.ak_history.specs.declared.entry.Entry.{Entry}
use Rattle.ak_leader.specs.Leader.{leader}
use Rattle.ak_leader.specs.Led.{IsMemberWith, IsWaiting}
use Rattle.ak_member.specs.declared.effect.Effect.{Effect}
use Rattle.ak_member.specs.declared.effect.Effect.TheVariants.{Joined, Rise, Removed, Observed}
use Rattle.ak_member.specs.declared.status.Status.{Status}
use Rattle.ak_member.specs.declared.status.Status.TheVariants.{Joining, WeaklyUp, Up, Leaving, Exiting, Down}
use Rattle.ak_member.specs.Age.{counts}
use Rattle.ak_member.specs.Standing.{Standings, is_member}
use Rattle.ak_membership.specs.Tick.{decides, waited, joining_addresses, silent}
use Rattle.ak_node.specs.declared.node.NodeEvent.{NodeEvent}
use Rattle.ak_node.specs.declared.node.NodeEvent.TheVariants as event
use Rattle.ak_node.specs.declared.node.State.{State}
use Rattle.ak_node.specs.Node as node
use Rattle.ak_node.specs.Node.{known, me_of}
use Rattle.ak_reach.specs.Unreachable.{IsUnreachable}
use Rattle.ak_settings.specs.Settings.{SettingsModel, settling_size}
use Rattle.ak_schedule.specs.declared.event.Event.{Event}
use Rattle.ak_schedule.specs.declared.event.Event.TheVariants.{Start, Found, Join, Tick, Deliver, Offer, Stop}
use Rattle.ak_schedule.specs.declared.event.Event.TheVariants as schedule
use Rattle.ak_wire.specs.declared.envelope.Envelope.{Envelope}
use Rattle.ak_wire.specs.declared.envelope.Message.TheVariants as message
use Rattle.ak_world.specs.Held.{Enters}
use Rattle.ak_world.specs.Margin.{IsStep}
use Rattle.ak_world.specs.World.{WorldState, Done, packet_at, run}
use Rattle.ak_meaning.specs.Standstill.{IsAt}

-- ---- what came
-- an event of a schedule gives this process this event: its own to the process that it names, and a packet to whom it reaches
abbrev pub Gives : WorldState → Event → UniqueModel → NodeEvent → Type 0
Gives w (Start u) me ev = ⊥
Gives w (Found u) me ev = (me ≡ u) × (ev ≡ event.Found)
Gives w (Join u target) me ev = (me ≡ u) × (ev ≡ event.Join target)
Gives w (Deliver number) me ev = (p : Envelope) × (packet_at w number ≡ Some p) × (ev ≡ event.Packet p) × IsTrue (node.is_for me p)
Gives w (Tick u word) me ev = (me ≡ u) × (ev ≡ event.Tick word)
Gives w (schedule.Leave u who) me ev = (me ≡ u) × (ev ≡ event.Leave who)
Gives w (schedule.Down u who) me ev = (me ≡ u) × (ev ≡ event.Down who)
Gives w (Offer u entity payload) me ev = (me ≡ u) × (ev ≡ event.Offer entity payload)
Gives w (Stop u) me ev = (me ≡ u) × (ev ≡ event.Stop)

-- the node ticks, as a member
abbrev pub TicksNow : State → NodeEvent → Type 0
TicksNow n ev = ((word : ℕ) × (ev ≡ event.Tick word)) × IsTrue (node.is_member n)

-- a process asks it to join
abbrev pub AsksToJoin : NodeEvent → UniqueModel → Type 0
AsksToJoin ev who = (p : Envelope) × (ev ≡ event.Packet p) × (p.message ≡ message.Join) × (p.from ≡ who)

-- it is asked that a process leaves, or goes Down: by an event of its own, or by a message
abbrev pub AsksToLeave : NodeEvent → UniqueModel → Type 0
AsksToLeave ev who = (ev ≡ event.Leave who) ⊎ ((p : Envelope) × (ev ≡ event.Packet p) × (p.message ≡ message.Leave who))

abbrev pub AsksToDown : NodeEvent → UniqueModel → Type 0
AsksToDown ev who = (ev ≡ event.Down who) ⊎ ((p : Envelope) × (ev ≡ event.Packet p) × (p.message ≡ message.Down who))

-- ---- what the node is
abbrev pub members_at : State → Standings
members_at n = (known n).view.standings

-- it leads, in a view that is settled
abbrev pub LeadsSettled : State → Type 0
LeadsSettled n = IsTrue (is_settled (settling_size n.membership.settings.strategy) n.membership.settings.role (known n).view (known n).seen) × (leader (known n).view ≡ Some (me_of n))

-- the settings let members in, it leads, and its view has not settled for as many ticks as they ask, this one included
pub record LetsIn (n : State) : Type 0 where
  pub asked : 1 ≤ n.membership.settings.weakly
  pub waited : waited n.membership ≡ n.membership.settings.weakly
  pub unsettled : is_settled (settling_size n.membership.settings.strategy) n.membership.settings.role (known n).view (known n).seen ≡ false
  pub leads : leader (known n).view ≡ Some (me_of n)

-- it is the founder and Joining itself, all agree, and Joining members have enough addresses with the role
pub record Founds (n : State) : Type 0 where
  pub founder : IsTrue n.membership.founder
  pub joining : IsMemberWith (members_at n) (me_of n) Joining
  pub agreed : IsTrue (is_converged (known n).view (known n).seen)
  pub enough : settling_size n.membership.settings.strategy ≤ distinct (joining_addresses n.membership.settings.role (members_at n))

-- some process is an Up or a Leaving member, whether it has the role or not
pub record SomebodyCounts (n : State) : Type 0 where
  pub who : UniqueModel
  pub status : Status
  pub member : IsMemberWith (members_at n) who status
  pub counts : IsTrue (counts status)

-- some process other than the node itself is a member, is not Down, and is unreachable
pub record SomebodyIsLost (n : State) : Type 0 where
  pub who : UniqueModel
  pub other : who ≢ me_of n
  pub status : Status
  pub member : IsMemberWith (members_at n) who status
  pub not_down : status ≢ Down
  pub unreachable : IsUnreachable (known n).view who

-- its resolver's turn has come, somebody is Up or Leaving and somebody else is lost, and the decision downs this process
pub record DecidesAgainst (n : State) (who : UniqueModel) : Type 0 where
  pub decides : IsTrue (decides n.membership)
  pub counted : SomebodyCounts n
  pub lost : SomebodyIsLost n
  pub downed : Contains (downs (decide n.membership.settings.strategy n.membership.settings.role (known n).view (me_of n)) (known n).view (me_of n)) (Rise who Down 0)

-- ---- why a node writes an effect
pub data IsCause (n : State) (ev : NodeEvent) : Effect → Type 0 where
  -- it founds the cluster, or admits whom it does not know
  begins : ev ≡ event.Found → IsCause n ev (Joined (me_of n))
  admits : (who : UniqueModel) → AsksToJoin ev who → IsTrue (node.is_member n) → is_known (members_at n) who ≡ false → IsCause n ev (Joined who)
  -- a Joining member comes Up at the founding, and one that waits by the leader of a settled view
  founds : (who : UniqueModel) (number : ℕ) → TicksNow n ev → Founds n → IsMemberWith (members_at n) who Joining → IsCause n ev (Rise who Up number)
  rises : (who : UniqueModel) (number : ℕ) → TicksNow n ev → LeadsSettled n → IsWaiting (members_at n) who → IsCause n ev (Rise who Up number)
  -- a Joining member that can be reached is let in by the leader of a view that has not settled for long enough
  lets_in : (who : UniqueModel) → TicksNow n ev → LetsIn n → IsMemberWith (members_at n) who Joining → (IsUnreachable (known n).view who → ⊥) → IsCause n ev (Rise who WeaklyUp 0)
  -- an Up member leaves where that is asked, and exits by the leader of a settled view
  leaves : (who : UniqueModel) → AsksToLeave ev who → IsMemberWith (members_at n) who Up → IsCause n ev (Rise who Leaving 0)
  exits : (who : UniqueModel) → TicksNow n ev → LeadsSettled n → IsMemberWith (members_at n) who Leaving → IsCause n ev (Rise who Exiting 0)
  -- a member goes Down where that is asked, where another process at its address asks to join, and by a decision of the resolver
  downs_asked : (who : UniqueModel) → AsksToDown ev who → IsTrue (is_member (members_at n) who) → IsCause n ev (Rise who Down 0)
  downs_replaced : (who other : UniqueModel) → AsksToJoin ev other → other.address ≡ who.address → is_known (members_at n) other ≡ false → IsTrue (is_member (members_at n) who) → IsCause n ev (Rise who Down 0)
  downs_decided : (who : UniqueModel) → TicksNow n ev → DecidesAgainst n who → IsCause n ev (Rise who Down 0)
  -- the leader of a settled view removes a member that is Exiting or Down and said that it stops, and one that is Down and
  -- unreachable and did not say so
  confirms : (who : UniqueModel) → TicksNow n ev → LeadsSettled n → IsMemberWith (members_at n) who Exiting ⊎ IsMemberWith (members_at n) who Down → IsTrue (has n.membership.confirmed who) → IsCause n ev (Removed who true)
  removes : (who : UniqueModel) → TicksNow n ev → LeadsSettled n → IsMemberWith (members_at n) who Down → IsUnreachable (known n).view who → has n.membership.confirmed who ≡ false → IsCause n ev (Removed who false)
  -- it finds these silent
  observes : TicksNow n ev → IsCause n ev (Observed (silent n.membership))

-- An entry says an effect for a cause: at one step of the run its author, a running node with this state, was given this event,
-- and the entry came into the history.
pub record IsCaused (settings : SettingsModel) (events : List Event) (entry : Entry) (effect : Effect) : Type 0 where
  pub time : ℕ
  pub event : Event
  pub done : Done
  pub did : IsStep settings events time event done
  pub index : ℕ
  pub acted : done.node ≡ Some index
  pub node : State
  pub at : IsAt settings events time index node
  pub runs : IsTrue node.runs
  pub author : entry.author ≡ me_of node
  pub enters : Enters (run settings (take time events)).history (run settings (take (time + 1) events)).history entry
  pub given : NodeEvent
  pub gives : Gives (run settings (take time events)) event (me_of node) given
  pub cause : IsCause node given effect

-- the node of this number was given, before a time, the event to found the cluster
pub record WasToldToFound (settings : SettingsModel) (events : List Event) (index time : ℕ) : Type 0 where
  pub earlier : ℕ
  pub before : earlier < time
  pub who : UniqueModel
  pub done : Done
  pub did : IsStep settings events earlier (Found who) done
  pub acted : done.node ≡ Some index
