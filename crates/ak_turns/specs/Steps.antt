-- The numbered steps of a node on the network: what comes to it, what the node does, what is printed and which packets are sent. What
-- the node does is its own step, as in a replay. The texts are this project's format.
use Rattle.std.specs.Prelude.{◌≡◌, ℕ, ◌+◌, Bool, true, false, ◌&&◌, not, List, [], ◌∷◌, ◌++◌, length, drop, codes, Option, None, Some, if◌then◌else◌}
use Rattle.std.specs.Fmt.{decimal}
use Rattle.ak_address.specs.Unique.{UniqueModel}
use Rattle.ak_address.specs.Spelling.{address_text, unique_text}
use Rattle.ak_gossip.specs.Gossip.{GossipState}
use Rattle.ak_settings.specs.Settings.{SettingsModel}
use Rattle.ak_wire.specs.declared.envelope.Envelope.{Envelope}
use Rattle.ak_wire.specs.declared.action.Action.{Action}
use Rattle.ak_wire.specs.declared.action.Action as action
use Rattle.ak_wire.specs.Wire.{kind_text, envelope_of, sent}
use Rattle.ak_wire.specs.Datagram.{datagram, IsValid}
use Rattle.ak_report.specs.ActionText.{item, action_text, next_packet}
use Rattle.ak_node.specs.declared.node.State.{State}
use Rattle.ak_node.specs.declared.node.NodeEvent.{NodeEvent}
use Rattle.ak_node.specs.declared.node.NodeEvent as event
use Rattle.ak_node.specs.Node.{Outcome, known, me_of, is_for, started, step}
use Rattle.ak_outside.specs.declared.link.Sent.{Sent}
use Rattle.ak_outside.specs.declared.link.Sent as answer
use Rattle.ak_outside.specs.Link.{Sends, sends_after}
use Rattle.ak_turns.specs.declared.happening.Happening.{Happening}
use Rattle.ak_turns.specs.declared.happening.Happening.TheVariants.{Found, Join, Tick, Packet, Bad}

-- how far a node has come: its state, how many steps were numbered, and how many sends were asked
pub record Progress : Type 0 where
  pub node : State
  pub steps : ℕ
  pub asked : ℕ

-- a step: what came, and how the link answered the sends that it asked, in their order
pub record Step : Type 0 where
  pub happening : Happening
  pub answers : List Sent

-- the event that the node is given; a bad packet gives it none
abbrev pub event_of : Happening → Option NodeEvent
event_of Found = Some event.TheVariants.Found
event_of (Join target) = Some (event.TheVariants.Join target)
event_of (Tick word) = Some (event.TheVariants.Tick word)
event_of (Packet e) = Some (event.TheVariants.Packet e)
event_of (Bad fault) = None

-- a packet that comes is valid
abbrev pub IsCome : Happening → Type 0
IsCome Found = Unit {0}
IsCome (Join target) = Unit {0}
IsCome (Tick word) = Unit {0}
IsCome (Packet e) = IsValid e
IsCome (Bad fault) = Unit {0}

abbrev pub given : Option NodeEvent → State → Outcome
given (Some e) n = step e n
given None n = (n, [])

-- what the node makes of it
abbrev pub outcome : Happening → State → Outcome
outcome h n = given (event_of h) n

-- the packets that it sends then, in order
abbrev pub packets_of : Happening → State → List Envelope
packets_of h n = sent (outcome h n).1

abbrev pub next : Happening → Progress → Progress
next h p = record { node = (outcome h p.node).0; steps = p.steps + 1; asked = p.asked + length (packets_of h p.node) }

-- ---- the text of a step
abbrev pub happening_text : UniqueModel → Happening → List ℕ
happening_text me Found = codes "found " ++ unique_text me
happening_text me (Join target) = codes "join " ++ unique_text me ++ codes " " ++ address_text target
happening_text me (Tick word) = codes "tick"
happening_text me (Packet e) = codes "packet"
happening_text me (Bad fault) = codes "bad W" ++ decimal fault

-- to whom a packet came, what it is and from whom
abbrev pub packet_text : UniqueModel → Envelope → List ℕ
packet_text me e = item (codes "at " ++ unique_text me ++ codes " " ++ kind_text e.message ++ codes " from " ++ unique_text e.from)

-- a packet for another process, at a node that runs, is dead
abbrev pub is_dead : State → Envelope → Bool
is_dead n e = n.runs && not (is_for (me_of n) e)

-- actions tell that the packet is dead: the first one says so
abbrev pub says_dead : Action → Bool
says_dead action.TheVariants.Dead = true
says_dead other = false

abbrev pub tell_dead : List Action → Bool
tell_dead [] = false
tell_dead (a ∷ actions) = says_dead a

-- what a packet was; of a dead one the node's own action says that it is dead
abbrev pub arrival_text : State → Happening → List ℕ
arrival_text n Found = []
arrival_text n (Join target) = []
arrival_text n (Tick word) = []
arrival_text n (Packet e) = if is_dead n e then [] else packet_text (me_of n) e
arrival_text n (Bad fault) = []

-- what stands after the item of an action: that the send of this number was lost, where the link answered so
abbrev pub lost_text : Option Envelope → ℕ → List Sent → List ℕ
lost_text None number answers = []
lost_text (Some e) number [] = []
lost_text (Some e) number (answer.TheVariants.Sent ∷ answers) = []
lost_text (Some e) number (answer.TheVariants.Failed ∷ answers) = item (codes "lost " ++ decimal number)

-- the answers to the sends after those of an action
abbrev pub answers_after : Option Envelope → List Sent → List Sent
answers_after None answers = answers
answers_after (Some e) answers = drop 1 answers

-- the items of actions, the first send having this number
abbrev pub items_text : GossipState → ℕ → List Action → List Sent → List ℕ
items_text g number [] answers = []
items_text g number (a ∷ actions) answers =
    item (action_text g number a) ++ lost_text (envelope_of a) number answers
    ++ items_text g (next_packet a number) actions (answers_after (envelope_of a) answers)

-- The text of a step: its number and what came, what a packet was, and an item for each action, with what the node knows after it.
abbrev pub step_text : Progress → Happening → List Sent → List ℕ
step_text p h answers =
    decimal (p.steps + 1) ++ codes " " ++ happening_text (me_of p.node) h ++ 10 ∷ []
    ++ arrival_text p.node h
    ++ items_text (known (outcome h p.node).0) (p.asked + 1) (outcome h p.node).1 answers

-- ---- the packets of a step
-- Each packet is sent as it is spelled, in order, as far as there are answers; those whose send failed are not taken.
abbrev pub sends_of : Sends → List Envelope → List Sent → Sends
sends_of s [] answers = s
sends_of s (e ∷ packets) [] = s
sends_of s (e ∷ packets) (a ∷ answers) = sends_of (sends_after s e.to (datagram e) a) packets answers

-- ---- all steps of a node, the last one first
abbrev pub happenings : List Step → List Happening
happenings [] = []
happenings (s ∷ before) = s.happening ∷ happenings before

-- before the first step
abbrev pub at_start : UniqueModel → SettingsModel → Progress
at_start me settings = record { node = started me settings; steps = 0; asked = 0 }

abbrev pub progress_after : Progress → List Step → Progress
progress_after p [] = p
progress_after p (s ∷ before) = next s.happening (progress_after p before)

abbrev pub text_of : Progress → List Step → List ℕ
text_of p [] = []
text_of p (s ∷ before) = text_of p before ++ step_text (progress_after p before) s.happening s.answers

abbrev pub all_sends : Progress → Sends → List Step → Sends
all_sends p sends [] = sends
all_sends p sends (s ∷ before) = sends_of (all_sends p sends before) (packets_of s.happening (progress_after p before).node) s.answers

-- the link answered each send that was asked
abbrev pub AreAnswered : Progress → List Step → Type 0
AreAnswered p [] = Unit {0}
AreAnswered p (s ∷ before) = (length s.answers ≡ length (packets_of s.happening (progress_after p before).node)) × AreAnswered p before

-- no send of these steps was lost
abbrev pub AllSent : List Sent → Type 0
AllSent [] = Unit {0}
AllSent (a ∷ answers) = (a ≡ answer.TheVariants.Sent) × AllSent answers

abbrev pub NoneLost : List Step → Type 0
NoneLost [] = Unit {0}
NoneLost (s ∷ before) = AllSent s.answers × NoneLost before
