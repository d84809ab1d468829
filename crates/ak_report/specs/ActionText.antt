-- The text of what a node did in a step (this project's format).
use Rattle.std.specs.Prelude.{ℕ, ◌+◌, Bool, true, false, List, [], ◌∷◌, ◌++◌, map, codes, ◌==◌, if◌then◌else◌}
use Rattle.std.specs.Fmt.{decimal}
use Rattle.std.specs.FinMap as finmap
use Rattle.ak_address.specs.Uniques.{in_order}
use Rattle.ak_address.specs.Unique.{UniqueModel, unique_cmp}
use Rattle.ak_address.specs.Spelling.{address_text, unique_text}
use Rattle.ak_member.specs.declared.effect.Effect.{Effect}
use Rattle.ak_member.specs.declared.effect.Effect.TheVariants.{Joined, Rise, Removed, Observed}
use Rattle.ak_member.specs.declared.status.Status.{Status}
use Rattle.ak_member.specs.declared.status.Status.TheVariants.{Joining, WeaklyUp, Up, Leaving, Exiting, Down}
use Rattle.ak_member.specs.Standing.{members_of, tombstones_of}
use Rattle.ak_gossip.specs.Gossip.{GossipState}
use Rattle.ak_wire.specs.declared.envelope.Envelope.{Envelope}
use Rattle.ak_wire.specs.declared.action.Action.{Action}
use Rattle.ak_wire.specs.declared.action.Action.TheVariants.{Send, Update, View, Settled, Active, Ended, Host, Gone, Entity, Deliver, Forward, Buffer, Drop, MarginEnd, Refused, Dead, Stopped}
use Rattle.ak_wire.specs.Wire.{kind_text}

-- pieces with `, ` between them, or `-` where there is none
abbrev pub listed_text : List (List ℕ) → List ℕ
listed_text [] = codes "-"
listed_text (piece ∷ []) = piece
listed_text (piece ∷ next ∷ pieces) = piece ++ codes ", " ++ listed_text (next ∷ pieces)

-- what stands before the piece at an index
abbrev pub separator : ℕ → List ℕ
separator index = if index == 0 then [] else codes ", "

-- what stands where this many pieces were printed
abbrev pub none_text : ℕ → List ℕ
none_text printed = if printed == 0 then codes "-" else []

-- after two spaces
abbrev pub begun : List ℕ → List ℕ
begun text = codes "  " ++ text

-- an item stands on a line of its own
abbrev pub item : List ℕ → List ℕ
item text = begun text ++ 10 ∷ []

abbrev pub count_text : UniqueModel × ℕ → List ℕ
count_text e = unique_text e.0 ++ codes "=" ++ decimal e.1

abbrev pub version_text : finmap.FinMap unique_cmp ℕ → List ℕ
version_text version = listed_text (map count_text (finmap.entries version))

abbrev pub status_name : Status → List ℕ
status_name Joining = codes "joining"
status_name WeaklyUp = codes "weakly-up"
status_name Up = codes "up"
status_name Leaving = codes "leaving"
status_name Exiting = codes "exiting"
status_name Down = codes "down"

-- a number other than 0 after what it is of
abbrev pub number_text : ℕ → List ℕ
number_text number = if number == 0 then [] else codes " " ++ decimal number

abbrev pub member_text : UniqueModel × (Status × ℕ) → List ℕ
member_text m = unique_text m.0 ++ codes " " ++ status_name m.1.0 ++ number_text m.1.1

abbrev pub tombstone_text : UniqueModel × Bool → List ℕ
tombstone_text t = unique_text t.0 ++ (if t.1 then codes " confirmed" else [])

-- version, members, tombstones
abbrev pub view_text : GossipState → List ℕ
view_text g =
    codes "view " ++ version_text g.version
    ++ codes " | " ++ listed_text (map member_text (members_of g.view.standings))
    ++ codes " | " ++ listed_text (map tombstone_text (tombstones_of g.view.standings))

-- each after a space
abbrev pub spaced_text : List UniqueModel → List ℕ
spaced_text [] = []
spaced_text (who ∷ rest) = codes " " ++ unique_text who ++ spaced_text rest

-- whom an observer finds unreachable
abbrev pub subjects_text : List UniqueModel → List ℕ
subjects_text [] = codes " none"
subjects_text (who ∷ rest) = spaced_text (who ∷ rest)

abbrev pub effect_text : Effect → List ℕ
effect_text (Joined who) = codes "joined " ++ unique_text who
effect_text (Rise who status number) = status_name status ++ codes " " ++ unique_text who ++ number_text number
effect_text (Removed who false) = codes "removed " ++ unique_text who
effect_text (Removed who true) = codes "removed-confirmed " ++ unique_text who
effect_text (Observed subjects) = codes "observed" ++ subjects_text (in_order subjects)

-- an address where any process may take the packet, else a unique
abbrev pub receiver_text : Envelope → List ℕ
receiver_text e = if e.uid == 0 then address_text e.to else unique_text (record { address = e.to; uid = e.uid })

abbrev pub send_text : ℕ → Envelope → List ℕ
send_text number e = codes "send " ++ decimal number ++ codes " " ++ kind_text e.message ++ codes " to " ++ receiver_text e

-- what an action prints, with the number of the packet that it may send
abbrev pub action_text : GossipState → ℕ → Action → List ℕ
action_text g number (Send e) = send_text number e
action_text g number (Update n effects) = codes "update " ++ decimal n ++ codes " " ++ listed_text (map effect_text effects)
action_text g number View = view_text g
action_text g number Settled = codes "settled " ++ version_text g.version
action_text g number (Active term) = codes "active " ++ decimal term
action_text g number (Ended term) = codes "ended " ++ decimal term
action_text g number (Host shard n) = codes "host " ++ decimal shard ++ codes " " ++ decimal n
action_text g number (Gone shard) = codes "gone " ++ decimal shard
action_text g number (Entity entity) = codes "entity " ++ entity
action_text g number (Deliver entity payload) = codes "deliver " ++ entity ++ codes " " ++ decimal payload
action_text g number (Forward entity payload) = codes "forward " ++ entity ++ codes " " ++ decimal payload
action_text g number (Buffer entity payload) = codes "buffer " ++ entity ++ codes " " ++ decimal payload
action_text g number (Drop entity payload) = codes "drop " ++ entity ++ codes " " ++ decimal payload
action_text g number (MarginEnd who) = codes "margin-end " ++ unique_text who
action_text g number (Refused why) = codes "refused N" ++ decimal why
action_text g number Dead = codes "dead"
action_text g number Stopped = codes "stopped"

-- the number of the packet after an action
abbrev pub next_packet : Action → ℕ → ℕ
next_packet (Send e) number = number + 1
next_packet (Update n effects) number = number
next_packet View number = number
next_packet Settled number = number
next_packet (Active term) number = number
next_packet (Ended term) number = number
next_packet (Host shard n) number = number
next_packet (Gone shard) number = number
next_packet (Entity entity) number = number
next_packet (Deliver entity payload) number = number
next_packet (Forward entity payload) number = number
next_packet (Buffer entity payload) number = number
next_packet (Drop entity payload) number = number
next_packet (MarginEnd who) number = number
next_packet (Refused why) number = number
next_packet Dead number = number
next_packet Stopped number = number

-- the items of actions, the first packet having this number
abbrev pub actions_text : GossipState → ℕ → List Action → List ℕ
actions_text g number [] = []
actions_text g number (a ∷ actions) = item (action_text g number a) ++ actions_text g (next_packet a number) actions
