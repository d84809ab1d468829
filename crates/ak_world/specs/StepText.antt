-- What a replay prints of a step, and at its end (this project's format).
use Rattle.std.specs.Prelude.{◌≡◌, ℕ, List, [], ◌∷◌, ◌++◌, length, codes, slice_get, Option, Some, None, option_and_then}
use Rattle.std.specs.Fmt.{decimal}
use Rattle.ak_address.specs.Spelling.{unique_text}
use Rattle.ak_address.specs.Unique.{UniqueModel}
use Rattle.ak_schedule.specs.Schedule.{event_text}
use Rattle.ak_schedule.specs.declared.event.Event.{Event}
use Rattle.ak_schedule.specs.declared.event.Event as event
use Rattle.ak_gossip.specs.Gossip.{GossipState, nothing_known}
use Rattle.ak_wire.specs.declared.envelope.Envelope.{Envelope}
use Rattle.ak_wire.specs.Wire.{kind_text}
use Rattle.ak_report.specs.ActionText.{item, actions_text}
use Rattle.ak_node.specs.declared.node.State.{State}
use Rattle.ak_node.specs.Node.{known, me_of}
use Rattle.ak_world.specs.declared.margin.Margin.{Margin}
use Rattle.ak_world.specs.declared.margin.Margin.TheVariants.{Kept, Broken}
use Rattle.ak_world.specs.Margin.{IsMargin}
use Rattle.ak_world.specs.Double.{Doubled, IsFirstDouble}
use Rattle.ak_settings.specs.Settings.{SettingsModel}
use Rattle.ak_world.specs.World.{WorldState, Done, arrived_in}

-- to whom a packet was given, what it is and from whom
abbrev pub packet_text : UniqueModel → Envelope → List ℕ
packet_text who e = item (codes "at " ++ unique_text who ++ codes " " ++ kind_text e.message ++ codes " from " ++ unique_text e.from)

-- what a delivered packet was, or that it reached nobody
abbrev pub arrival_text : Option State → Option Envelope → List ℕ
arrival_text (Some n) (Some e) = packet_text (me_of n) e
arrival_text (Some n) None = item (codes "dead")
arrival_text None e = item (codes "dead")

-- a delivery begins with what arrived
abbrev pub delivery_text : Event → Option Envelope → Option State → List ℕ
delivery_text (event.TheVariants.Deliver number) e n = arrival_text n e
delivery_text (event.TheVariants.Start u) e n = []
delivery_text (event.TheVariants.Found u) e n = []
delivery_text (event.TheVariants.Join u target) e n = []
delivery_text (event.TheVariants.Tick u word) e n = []
delivery_text (event.TheVariants.Leave u who) e n = []
delivery_text (event.TheVariants.Down u who) e n = []
delivery_text (event.TheVariants.Offer u entity payload) e n = []
delivery_text (event.TheVariants.Stop u) e n = []

-- what the node knows after the step; a dead delivery shows none
abbrev pub shown : Option State → GossipState
shown (Some n) = (known n)
shown None = nothing_known

abbrev pub acting : Done → Option State
acting done = option_and_then (slice_get done.world.nodes) done.node

-- The text of a step with which this packet came, if one did: its number and event, what arrived, and an item for each action. The first
-- packet that it may have sent has the number `first`.
abbrev pub text_with : Option Envelope → ℕ → ℕ → Event → Done → List ℕ
text_with came first number event done =
    decimal number ++ codes " " ++ event_text event ++ 10 ∷ [] ++ delivery_text event came (acting done) ++ actions_text (shown (acting done)) first done.actions

-- the text of a step of a world: the packet that a delivery names came with it
abbrev pub step_text : ℕ → ℕ → Event → Done → List ℕ
step_text first number event done = text_with (arrived_in event done.world) first number event done

-- the process of a start number
abbrev pub name_text : Option State → List ℕ
name_text (Some n) = unique_text (me_of n)
name_text None = []

-- whether the removal margin was kept, or where it was broken first
abbrev pub margin_text : Margin → List State → List ℕ
margin_text Kept nodes = codes "margin kept" ++ 10 ∷ []
margin_text (Broken step node member) nodes =
    codes "margin broken step " ++ decimal step ++ codes " node " ++ name_text (slice_get nodes node) ++ codes " member " ++ name_text (slice_get nodes member) ++ 10 ∷ []

-- the first double: the entity, the node on which it was active, the node on which it became active too, and the step; or none
abbrev pub double_text : Option Doubled → List State → List ℕ
double_text None nodes = codes "doubles none" ++ 10 ∷ []
double_text (Some d) nodes =
    codes "double " ++ d.entity ++ codes " " ++ name_text (slice_get nodes d.active) ++ codes " " ++ name_text (slice_get nodes d.started) ++ codes " step " ++ decimal d.step ++ 10 ∷ []

-- the summary
abbrev pub summary_text : ℕ → Margin → Option Doubled → WorldState → List ℕ
summary_text steps margin double w =
    codes "steps " ++ decimal steps ++ 10 ∷ []
    ++ codes "packets " ++ decimal (length w.packets) ++ 10 ∷ []
    ++ codes "history " ++ decimal (length w.history) ++ 10 ∷ []
    ++ margin_text margin w.nodes
    ++ double_text double w.nodes

-- a text is the summary of a run: its margin and its first double are those of its events
abbrev pub IsSummary : SettingsModel → List Event → ℕ → WorldState → List ℕ → Type 0
IsSummary settings events steps w text =
    (margin : Margin) × (double : Option Doubled) × IsMargin settings events margin × IsFirstDouble settings events double × (text ≡ summary_text steps margin double w)
