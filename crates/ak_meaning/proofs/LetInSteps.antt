-- The run in which a member is let in: what nodes make of its events, as the definitions have it.
use Rattle.std.proofs.Common.{◌≡◌, List, [], ◌∷◌, refl, Some, true, false}
use Rattle.ak_address.specs.Table.{merged_tables}
use Rattle.ak_address.specs.Unique.{UniqueModel}
use Rattle.ak_address.specs.Uniques.{union}
use Rattle.ak_clock.specs.Version.{covers}
use Rattle.ak_member.specs.declared.effect.Effect.TheVariants.{Joined, Rise}
use Rattle.ak_member.specs.declared.standing.Standing.TheVariants.{Member}
use Rattle.ak_member.specs.declared.status.Status.TheVariants.{Joining, WeaklyUp, Up}
use Rattle.ak_gossip.specs.Gossip.{GossipState}
use Rattle.ak_membership.specs.declared.change.Reply.TheVariants.{Nothing}
use Rattle.ak_membership.specs.declared.state.MembershipState.{MembershipState}
use Rattle.ak_singleton.specs.declared.phase.Phase.TheVariants as phase
use Rattle.ak_wire.specs.declared.envelope.Envelope.{Envelope}
use Rattle.ak_wire.specs.declared.envelope.Message.TheVariants as message
use Rattle.ak_wire.specs.declared.action.Action.{Action}
use Rattle.ak_wire.specs.declared.action.Action.TheVariants.{Send, Update, View, Settled}
use Rattle.ak_node.specs.declared.node.State.{State}
use Rattle.ak_node.specs.declared.node.NodeEvent.TheVariants as event
use Rattle.ak_node.specs.Node.{started, step}
use Rattle.ak_sharding.specs.Coordinates.{begins_table}
use Rattle.ak_world.specs.Worked.{at_a, a_1, b_1, c_1}
use Rattle.ak_meaning.specs.LetIn.{lenient}
use Rattle.ak_world.proofs.ListedTables.{listed, table, set}
use Rattle.ak_world.proofs.StepStages.{in_stages, in_ticks, in_going}
use Rattle.ak_world.proofs.WorkedLemmas.{gossip_of, settled_as, ballot, packet}

-- ---- 4: a founds
abbrev known_4 : List UniqueModel → GossipState
known_4 = gossip_of ((a_1, 1) ∷ []) ((a_1, Member Joining 0) ∷ [])

abbrev ruled_4 : State
ruled_4 = record (started a_1 lenient) { membership = record (started a_1 lenient).membership { gossip = known_4 (a_1 ∷ []); founder = true; moved = true }; steps = 1 }

abbrev pub a_4 : State
a_4 = record ruled_4 { membership = record ruled_4.membership { shown = table ((a_1, 1) ∷ []); moved = false } }

abbrev pub does_4 : List Action
does_4 = Update 1 (Joined a_1 ∷ []) ∷ View ∷ []

pub step_4 : step event.Found (started a_1 lenient) ≡ (a_4, does_4)
unfolding covers merged_tables union
step_4 =
    in_stages event.Found (started a_1 lenient) ruled_4 a_4 a_4 (Update 1 (Joined a_1 ∷ []) ∷ []) (View ∷ []) [] refl refl
    (simp listed)
    (simp listed)
    refl
    refl

-- ---- 5: b asks to join
abbrev pub packet_1 : Envelope
packet_1 = record { from = b_1; to = at_a; uid = 0; message = message.Join }

abbrev pub b_5 : State
b_5 = record (started b_1 lenient) { membership = record (started b_1 lenient).membership { target = Some at_a }; steps = 1 }

abbrev pub does_5 : List Action
does_5 = Send packet_1 ∷ []

pub step_5 : step (event.Join at_a) (started b_1 lenient) ≡ (b_5, does_5)
unfolding covers merged_tables union
step_5 =
    in_stages (event.Join at_a) (started b_1 lenient) b_5 b_5 b_5 (Send packet_1 ∷ []) [] [] refl refl
    (simp listed)
    (simp listed)
    refl
    refl

-- ---- 6: a hears it, and welcomes b
abbrev known_6 : List UniqueModel → GossipState
known_6 = gossip_of ((a_1, 2) ∷ []) ((a_1, Member Joining 0) ∷ (b_1, Member Joining 0) ∷ [])

abbrev pub packet_2 : Envelope
packet_2 = packet a_1 b_1 (message.Welcome (known_6 (a_1 ∷ [])))

abbrev ruled_6 : State
ruled_6 = record a_4 { membership = record a_4.membership { gossip = known_6 (a_1 ∷ []); moved = true }; steps = 2 }

abbrev pub a_6 : State
a_6 = record ruled_6 { membership = record ruled_6.membership { shown = table ((a_1, 2) ∷ []); moved = false; detector = table ((b_1, 0) ∷ []) } }

abbrev pub does_6 : List Action
does_6 = Update 2 (Joined b_1 ∷ []) ∷ Send packet_2 ∷ View ∷ []

pub step_6 : step (event.Packet packet_1) a_4 ≡ (a_6, does_6)
unfolding covers merged_tables union
step_6 =
    in_stages (event.Packet packet_1) a_4 ruled_6 a_6 a_6 (Update 2 (Joined b_1 ∷ []) ∷ Send packet_2 ∷ []) (View ∷ []) [] refl refl
    (simp listed)
    (simp listed)
    refl
    refl

-- ---- 7: a tick of a: a and b come Up
abbrev known_7 : List UniqueModel → GossipState
known_7 = gossip_of ((a_1, 3) ∷ []) ((a_1, Member Up 1) ∷ (b_1, Member Up 2) ∷ [])

abbrev ticked_7 : MembershipState
ticked_7 = record a_6.membership { gossip = known_7 (a_1 ∷ []); ticks = 1; stable = 1; weak = 1; moved = true; detector = table ((b_1, 1) ∷ []) }

abbrev ruled_7 : State
ruled_7 = record a_6 { membership = ticked_7; steps = 3 }

abbrev pub a_7 : State
a_7 = record ruled_7 { membership = record ruled_7.membership { shown = table ((a_1, 3) ∷ []); stable = 0; moved = false } }

abbrev pub does_7 : List Action
does_7 = Send (packet a_1 b_1 message.Heartbeat) ∷ Update 3 (Rise a_1 Up 1 ∷ Rise b_1 Up 2 ∷ []) ∷ View ∷ []

pub step_7 : step (event.Tick 0) a_6 ≡ (a_7, does_7)
unfolding covers merged_tables union
step_7 =
    in_stages (event.Tick 0) a_6 ruled_7 a_7 a_7 (Send (packet a_1 b_1 message.Heartbeat) ∷ Update 3 (Rise a_1 Up 1 ∷ Rise b_1 Up 2 ∷ []) ∷ []) (View ∷ []) [] refl refl
    (in_ticks 0 (record a_6 { steps = 3 }) ruled_7 ticked_7 (record { number = Some 3; effects = Rise a_1 Up 1 ∷ Rise b_1 Up 2 ∷ []; reply = Nothing }) (Send (packet a_1 b_1 message.Heartbeat) ∷ []) [] (simp listed) (simp listed) (simp listed)
    (in_going 0 (record a_6 { membership = ticked_7; steps = 3 }) ruled_7 [] [] (simp listed) (simp listed) (simp listed) refl refl (simp listed)))
    (simp listed)
    refl
    refl

-- ---- 8: c asks to join
abbrev pub packet_4 : Envelope
packet_4 = record { from = c_1; to = at_a; uid = 0; message = message.Join }

abbrev pub c_8 : State
c_8 = record (started c_1 lenient) { membership = record (started c_1 lenient).membership { target = Some at_a }; steps = 1 }

abbrev pub does_8 : List Action
does_8 = Send packet_4 ∷ []

pub step_8 : step (event.Join at_a) (started c_1 lenient) ≡ (c_8, does_8)
unfolding covers merged_tables union
step_8 =
    in_stages (event.Join at_a) (started c_1 lenient) c_8 c_8 c_8 (Send packet_4 ∷ []) [] [] refl refl
    (simp listed)
    (simp listed)
    refl
    refl

-- ---- 9: a hears it, and welcomes c
abbrev known_9 : List UniqueModel → GossipState
known_9 = gossip_of ((a_1, 4) ∷ []) ((a_1, Member Up 1) ∷ (b_1, Member Up 2) ∷ (c_1, Member Joining 0) ∷ [])

abbrev ruled_9 : State
ruled_9 = record a_7 { membership = record a_7.membership { gossip = known_9 (a_1 ∷ []); moved = true }; steps = 4 }

abbrev pub a_9 : State
a_9 = record ruled_9 { membership = record ruled_9.membership { shown = table ((a_1, 4) ∷ []); moved = false; detector = table ((b_1, 1) ∷ (c_1, 0) ∷ []) } }

abbrev pub does_9 : List Action
does_9 = Update 4 (Joined c_1 ∷ []) ∷ Send (packet a_1 c_1 (message.Welcome (known_9 (a_1 ∷ [])))) ∷ View ∷ []

pub step_9 : step (event.Packet packet_4) a_7 ≡ (a_9, does_9)
unfolding covers merged_tables union
step_9 =
    in_stages (event.Packet packet_4) a_7 ruled_9 a_9 a_9 (Update 4 (Joined c_1 ∷ []) ∷ Send (packet a_1 c_1 (message.Welcome (known_9 (a_1 ∷ [])))) ∷ []) (View ∷ []) [] refl refl
    (simp listed)
    (simp listed)
    refl
    refl

-- ---- 10: a tick of a, whose view is not settled: c is let in, and a gossips to b
abbrev known_10 : List UniqueModel → GossipState
known_10 = gossip_of ((a_1, 5) ∷ []) ((a_1, Member Up 1) ∷ (b_1, Member Up 2) ∷ (c_1, Member WeaklyUp 0) ∷ [])

abbrev pub packet_8 : Envelope
packet_8 = packet a_1 b_1 (message.Gossip (known_10 (a_1 ∷ [])))

abbrev ticked_10 : MembershipState
ticked_10 = record a_9.membership { gossip = known_10 (a_1 ∷ []); ticks = 2; stable = 1; moved = true; detector = table ((b_1, 2) ∷ (c_1, 1) ∷ []) }

abbrev ruled_10 : State
ruled_10 = record a_9 { membership = ticked_10; steps = 5 }

abbrev pub a_10 : State
a_10 = record ruled_10 { membership = record ruled_10.membership { shown = table ((a_1, 5) ∷ []); stable = 0; moved = false } }

abbrev pub does_10 : List Action
does_10 = Send (packet a_1 b_1 message.Heartbeat) ∷ Send (packet a_1 c_1 message.Heartbeat) ∷ Update 5 (Rise c_1 WeaklyUp 0 ∷ []) ∷ Send packet_8 ∷ View ∷ []

pub step_10 : step (event.Tick 0) a_9 ≡ (a_10, does_10)
unfolding covers merged_tables union
step_10 =
    in_stages (event.Tick 0) a_9 ruled_10 a_10 a_10 (Send (packet a_1 b_1 message.Heartbeat) ∷ Send (packet a_1 c_1 message.Heartbeat) ∷ Update 5 (Rise c_1 WeaklyUp 0 ∷ []) ∷ Send packet_8 ∷ []) (View ∷ []) [] refl refl
    (in_ticks 0 (record a_9 { steps = 5 }) ruled_10 ticked_10 (record { number = Some 5; effects = Rise c_1 WeaklyUp 0 ∷ []; reply = Nothing }) (Send (packet a_1 b_1 message.Heartbeat) ∷ Send (packet a_1 c_1 message.Heartbeat) ∷ []) (Send packet_8 ∷ []) (simp listed) (simp listed) (simp listed)
    (in_going 0 (record a_9 { membership = ticked_10; steps = 5 }) ruled_10 [] (Send packet_8 ∷ []) (simp listed) (simp listed) (simp listed) refl refl (simp listed)))
    (simp listed)
    refl
    refl

-- ---- 11: b hears the welcome, and answers
abbrev ruled_11 : State
ruled_11 = record b_5 { membership = record b_5.membership { gossip = known_6 (a_1 ∷ b_1 ∷ []); moved = true }; steps = 2 }

abbrev pub b_11 : State
b_11 = record ruled_11 { membership = record ruled_11.membership { shown = table ((a_1, 2) ∷ []); moved = false; detector = table ((a_1, 0) ∷ []) } }

abbrev pub does_11 : List Action
does_11 = Send (packet b_1 a_1 (message.Gossip (known_6 (a_1 ∷ b_1 ∷ [])))) ∷ View ∷ []

pub step_11 : step (event.Packet packet_2) b_5 ≡ (b_11, does_11)
unfolding covers merged_tables union
step_11 =
    in_stages (event.Packet packet_2) b_5 ruled_11 b_11 b_11 (Send (packet b_1 a_1 (message.Gossip (known_6 (a_1 ∷ b_1 ∷ [])))) ∷ []) (View ∷ []) [] refl refl
    (simp listed)
    (simp listed)
    refl
    refl

-- ---- 12: b hears the gossip, and answers: its view is settled
abbrev pub packet_10 : Envelope
packet_10 = packet b_1 a_1 (message.Gossip (known_10 (a_1 ∷ b_1 ∷ [])))

abbrev ruled_12 : State
ruled_12 = record b_11 { membership = record b_11.membership { gossip = known_10 (a_1 ∷ b_1 ∷ []); moved = true }; steps = 3 }

abbrev pub b_12 : State
b_12 = record ruled_12 { membership = record ruled_12.membership { shown = table ((a_1, 5) ∷ []); moved = false; detector = table ((a_1, 0) ∷ (c_1, 0) ∷ []); settled = settled_as (known_10 []) } }

abbrev pub does_12 : List Action
does_12 = Send packet_10 ∷ View ∷ Settled ∷ []

pub step_12 : step (event.Packet packet_8) b_11 ≡ (b_12, does_12)
unfolding covers merged_tables union
step_12 =
    in_stages (event.Packet packet_8) b_11 ruled_12 b_12 b_12 (Send packet_10 ∷ []) (View ∷ Settled ∷ []) [] refl refl
    (simp listed)
    (simp listed)
    refl
    refl

-- ---- 13: so is that of a
abbrev ruled_13 : State
ruled_13 = record a_10 { membership = record a_10.membership { gossip = known_10 (a_1 ∷ b_1 ∷ []) }; steps = 6 }

abbrev pub a_13 : State
a_13 = record ruled_13 { membership = record ruled_13.membership { settled = settled_as (known_10 []) } }

abbrev pub does_13 : List Action
does_13 = Settled ∷ []

pub step_13 : step (event.Packet packet_10) a_10 ≡ (a_13, does_13)
unfolding covers merged_tables union
step_13 =
    in_stages (event.Packet packet_10) a_10 ruled_13 a_13 a_13 [] (Settled ∷ []) [] refl refl
    (simp listed)
    (simp listed)
    refl
    refl

-- ---- 14: a tick of a: c comes Up, and b and c are asked
abbrev known_14 : List UniqueModel → GossipState
known_14 = gossip_of ((a_1, 6) ∷ []) ((a_1, Member Up 1) ∷ (b_1, Member Up 2) ∷ (c_1, Member Up 3) ∷ [])

abbrev ticked_14 : MembershipState
ticked_14 = record a_13.membership { gossip = known_14 (a_1 ∷ []); ticks = 3; stable = 1; weak = 0; moved = true; detector = table ((b_1, 3) ∷ (c_1, 2) ∷ []) }

abbrev ruled_14 : State
ruled_14 = record a_13 { membership = ticked_14; singleton = record a_13.singleton { promise = record { last = Some (ballot 1 a_1); released = false; floor = table [] }; phase = phase.Asking; live = Some (ballot 1 a_1); granted = set (a_1 ∷ []); floor = table ((a_1, 5) ∷ []) }; sharding = begins_table a_1 a_13.sharding; steps = 7 }

abbrev pub a_14 : State
a_14 = record ruled_14 { membership = record ruled_14.membership { shown = table ((a_1, 6) ∷ []); stable = 0; moved = false } }

abbrev pub does_14 : List Action
does_14 = Send (packet a_1 b_1 message.Heartbeat) ∷ Send (packet a_1 c_1 message.Heartbeat) ∷ Update 6 (Rise c_1 Up 3 ∷ []) ∷ Send (packet a_1 b_1 (message.Ask (ballot 1 a_1))) ∷ Send (packet a_1 c_1 (message.Ask (ballot 1 a_1))) ∷ Send (packet a_1 b_1 (message.Gossip (known_14 (a_1 ∷ [])))) ∷ View ∷ []

pub step_14 : step (event.Tick 0) a_13 ≡ (a_14, does_14)
unfolding covers merged_tables union
step_14 =
    in_stages (event.Tick 0) a_13 ruled_14 a_14 a_14 (Send (packet a_1 b_1 message.Heartbeat) ∷ Send (packet a_1 c_1 message.Heartbeat) ∷ Update 6 (Rise c_1 Up 3 ∷ []) ∷ Send (packet a_1 b_1 (message.Ask (ballot 1 a_1))) ∷ Send (packet a_1 c_1 (message.Ask (ballot 1 a_1))) ∷ Send (packet a_1 b_1 (message.Gossip (known_14 (a_1 ∷ [])))) ∷ []) (View ∷ []) [] refl refl
    (in_ticks 0 (record a_13 { steps = 7 }) ruled_14 ticked_14 (record { number = Some 6; effects = Rise c_1 Up 3 ∷ []; reply = Nothing }) (Send (packet a_1 b_1 message.Heartbeat) ∷ Send (packet a_1 c_1 message.Heartbeat) ∷ []) (Send (packet a_1 b_1 (message.Ask (ballot 1 a_1))) ∷ Send (packet a_1 c_1 (message.Ask (ballot 1 a_1))) ∷ Send (packet a_1 b_1 (message.Gossip (known_14 (a_1 ∷ [])))) ∷ []) (simp listed) (simp listed) (simp listed)
    (in_going 0 (record a_13 { membership = ticked_14; steps = 7 }) ruled_14 (Send (packet a_1 b_1 (message.Ask (ballot 1 a_1))) ∷ Send (packet a_1 c_1 (message.Ask (ballot 1 a_1))) ∷ []) (Send (packet a_1 b_1 (message.Gossip (known_14 (a_1 ∷ [])))) ∷ []) (simp listed) (simp listed) (simp listed) refl refl (simp listed)))
    (simp listed)
    refl
    (simp listed)
