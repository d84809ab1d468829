-- Words of the contracts of a node's calls.
use Rattle.std.specs.Prelude.{◌≡◌, ◌⊎◌, ◌≤◌, ℕ, Bool, true, false, not, ◌&&◌, List, [], Some, IsTrue}
use Rattle.std.specs.FinMap as map
use Rattle.ak_member.specs.declared.status.Status.{Status}
use Rattle.ak_member.specs.declared.standing.Standing.TheVariants.{Member}
use Rattle.ak_member.specs.Standing.{is_down}
use Rattle.ak_membership.specs.MembershipContracts as membership
use Rattle.ak_gossip.specs.Gossip.{nothing_known}
use Rattle.ak_settled.specs.Settled.{IsCounting}
use Rattle.ak_wire.specs.declared.action.Action.{Action}
use Rattle.ak_wire.specs.declared.envelope.Message.{Message}
use Rattle.ak_wire.specs.declared.envelope.Message as message
use Rattle.ak_node.specs.declared.node.NodeEvent.{NodeEvent}
use Rattle.ak_node.specs.declared.node.NodeEvent.TheVariants.{Join, Packet, Tick}
use Rattle.ak_node.specs.declared.node.State.{State}
use Rattle.ak_node.specs.Node.{Outcome, known, me_of, is_gone, is_member, concludes}

-- a node's state; a spent node has run out of memory
pub record NodeModel : Type 0 where
  pub state : State
  pub spent : Bool

-- what a rule makes of a state is this state, with these actions
pub record Does (outcome : Outcome) (state : State) (actions : List Action) : Type 0 where
  pub state_after : state ≡ outcome.0
  pub actions_done : actions ≡ outcome.1

-- a spent node knows nothing
abbrev pub HasForgotten : Bool → State → Type 0
HasForgotten spent n = spent ≡ true → known n ≡ nothing_known

-- a node is a member of its view, and not Down
pub record Serves (n : State) : Type 0 where
  pub status : Status
  pub number : ℕ
  pub member : map.get (known n).view.standings (me_of n) ≡ Some (Member status number)
  pub not_down : is_down status ≡ false

-- a running node knows nobody, or serves
abbrev pub ServesWhileItRuns : State → Type 0
ServesWhileItRuns n = IsTrue n.runs → (map.len (known n).view.standings ≡ 0) ⊎ Serves n

-- What is true of every node after each of its steps: it had no more ticks than steps, it has shown the version of what it
-- knows, it watches members alone, the tombstones of its settled view wait for at most the margin, and its view does not show it
-- as gone while it runs.
pub record IsNode (n : State) : Type 0 where
  pub ticked : n.membership.ticks ≤ n.steps
  pub shown : n.membership.shown ≡ (known n).version
  pub watching : membership.IsWatching n.membership
  pub counting : IsCounting n.membership.settings.margin n.membership.settled.view
  pub stays : IsTrue n.runs → is_gone n ≡ false

-- what a step leaves of a node that runs is concluded: if it were concluded once more, nothing would be due and nothing changed
abbrev pub IsConcluded : State → Type 0
IsConcluded n = n.runs ≡ true → concludes n ≡ (n, [])

-- a node that is no member asks at each tick to be let in, and lets nobody in
abbrev pub is_asking : NodeEvent → State → Bool
is_asking (Tick word) n = not (is_member n)
is_asking _ n = false

abbrev pub is_request : Message → Bool
is_request message.TheVariants.Join = true
is_request _ = false

abbrev pub is_refusing : NodeEvent → State → Bool
is_refusing (Packet e) n = is_request e.message && not (is_member n)
is_refusing _ n = false

-- Memory may be asked for at an event: the node runs, and the event is not that it joins a cluster in which it is a member.
abbrev pub is_idle : NodeEvent → State → Bool
is_idle (Join target) n = is_member n
is_idle _ n = false

abbrev pub may_ask : NodeEvent → State → Bool
may_ask e n = n.runs && not (is_idle e n)

-- whatever a rule answers, the node is the same process with the same settings
abbrev pub IsSameProcess : State → State → Type 0
IsSameProcess old new = membership.IsSameProcess old.membership new.membership

-- what a spent node still shows: its process and its settings, whether it runs, and how many steps it made before the one that
-- failed; it has forgotten what it knew
pub record IsLeftOver (old new : State) : Type 0 where
  pub process : IsSameProcess old new
  pub forgot : known new ≡ nothing_known
  pub runs : new.runs ≡ old.runs
  pub steps : new.steps ≡ old.steps

-- a node that has stopped answers an event with no action, and knows what it knew
abbrev pub IsSilent : State → State → List Action → Type 0
IsSilent old new actions = old.runs ≡ false → (actions ≡ []) × (new ≡ old)
