-- The run in which an activity passes, up to the first: what nodes make of its events, as the definitions have it.
use Rattle.std.proofs.Common.{◌≡◌, List, [], ◌∷◌, refl, Some, None, true, false}
use Rattle.ak_address.specs.Table.{merged_tables}
use Rattle.ak_address.specs.Unique.{UniqueModel}
use Rattle.ak_address.specs.Uniques.{union}
use Rattle.ak_clock.specs.Version.{covers}
use Rattle.ak_member.specs.declared.effect.Effect.TheVariants.{Joined, Rise}
use Rattle.ak_member.specs.declared.standing.Standing.TheVariants.{Member}
use Rattle.ak_member.specs.declared.status.Status.TheVariants.{Joining, Up}
use Rattle.ak_gossip.specs.Gossip.{GossipState}
use Rattle.ak_membership.specs.declared.change.Reply.TheVariants.{Nothing}
use Rattle.ak_membership.specs.declared.state.MembershipState.{MembershipState}
use Rattle.ak_singleton.specs.declared.phase.Phase.TheVariants as phase
use Rattle.ak_wire.specs.declared.envelope.Envelope.{Envelope}
use Rattle.ak_wire.specs.declared.envelope.Message.TheVariants as message
use Rattle.ak_wire.specs.declared.action.Action.{Action}
use Rattle.ak_wire.specs.declared.action.Action.TheVariants.{Send, Update, View, Settled, Active}
use Rattle.ak_node.specs.declared.node.State.{State}
use Rattle.ak_node.specs.declared.node.NodeEvent.TheVariants as event
use Rattle.ak_node.specs.Node.{started, step}
use Rattle.ak_sharding.specs.Coordinates.{begins_table}
use Rattle.ak_world.specs.Worked.{at_b, a_1, b_1, c_1, three}
use Rattle.ak_world.proofs.ListedTables.{listed, table, set}
use Rattle.ak_world.proofs.StepStages.{in_stages, in_ticks, in_going}
use Rattle.ak_world.proofs.WorkedLemmas.{gossip_of, settled_as, ballot, packet}

-- ---- 4: b founds
abbrev pub known_4 : List UniqueModel → GossipState
known_4 = gossip_of ((b_1, 1) ∷ []) ((b_1, Member Joining 0) ∷ [])

abbrev ruled_4 : State
ruled_4 = record (started b_1 three) { membership = record (started b_1 three).membership { gossip = known_4 (b_1 ∷ []); founder = true; moved = true }; steps = 1 }

abbrev pub b_4 : State
b_4 = record ruled_4 { membership = record ruled_4.membership { shown = table ((b_1, 1) ∷ []); moved = false } }

abbrev pub does_4 : List Action
does_4 = Update 1 (Joined b_1 ∷ []) ∷ View ∷ []

pub step_4 : step event.Found (started b_1 three) ≡ (b_4, does_4)
unfolding covers merged_tables union
step_4 =
    in_stages event.Found (started b_1 three) ruled_4 b_4 b_4 (Update 1 (Joined b_1 ∷ []) ∷ []) (View ∷ []) [] refl refl
    (simp listed)
    (simp listed)
    refl
    refl

-- ---- 5: c asks to join
abbrev pub packet_1 : Envelope
packet_1 = record { from = c_1; to = at_b; uid = 0; message = message.Join }

abbrev pub c_5 : State
c_5 = record (started c_1 three) { membership = record (started c_1 three).membership { target = Some at_b }; steps = 1 }

abbrev pub does_5 : List Action
does_5 = Send packet_1 ∷ []

pub step_5 : step (event.Join at_b) (started c_1 three) ≡ (c_5, does_5)
unfolding covers merged_tables union
step_5 =
    in_stages (event.Join at_b) (started c_1 three) c_5 c_5 c_5 (Send packet_1 ∷ []) [] [] refl refl
    (simp listed)
    (simp listed)
    refl
    refl

-- ---- 6: b hears it, and welcomes c
abbrev pub known_6 : List UniqueModel → GossipState
known_6 = gossip_of ((b_1, 2) ∷ []) ((b_1, Member Joining 0) ∷ (c_1, Member Joining 0) ∷ [])

abbrev ruled_6 : State
ruled_6 = record b_4 { membership = record b_4.membership { gossip = known_6 (b_1 ∷ []); moved = true }; steps = 2 }

abbrev pub b_6 : State
b_6 = record ruled_6 { membership = record ruled_6.membership { shown = table ((b_1, 2) ∷ []); moved = false; detector = table ((c_1, 0) ∷ []) } }

abbrev pub does_6 : List Action
does_6 = Update 2 (Joined c_1 ∷ []) ∷ Send (packet b_1 c_1 (message.Welcome (known_6 (b_1 ∷ [])))) ∷ View ∷ []

pub step_6 : step (event.Packet packet_1) b_4 ≡ (b_6, does_6)
unfolding covers merged_tables union
step_6 =
    in_stages (event.Packet packet_1) b_4 ruled_6 b_6 b_6 (Update 2 (Joined c_1 ∷ []) ∷ Send (packet b_1 c_1 (message.Welcome (known_6 (b_1 ∷ [])))) ∷ []) (View ∷ []) [] refl refl
    (simp listed)
    (simp listed)
    refl
    refl

-- ---- 7: a asks to join
abbrev pub packet_3 : Envelope
packet_3 = record { from = a_1; to = at_b; uid = 0; message = message.Join }

abbrev pub a_7 : State
a_7 = record (started a_1 three) { membership = record (started a_1 three).membership { target = Some at_b }; steps = 1 }

abbrev pub does_7 : List Action
does_7 = Send packet_3 ∷ []

pub step_7 : step (event.Join at_b) (started a_1 three) ≡ (a_7, does_7)
unfolding covers merged_tables union
step_7 =
    in_stages (event.Join at_b) (started a_1 three) a_7 a_7 a_7 (Send packet_3 ∷ []) [] [] refl refl
    (simp listed)
    (simp listed)
    refl
    refl

-- ---- 8: a tick of b: b and c come Up
abbrev pub known_8 : List UniqueModel → GossipState
known_8 = gossip_of ((b_1, 3) ∷ []) ((b_1, Member Up 1) ∷ (c_1, Member Up 2) ∷ [])

abbrev ticked_8 : MembershipState
ticked_8 = record b_6.membership { gossip = known_8 (b_1 ∷ []); ticks = 1; stable = 1; moved = true; detector = table ((c_1, 1) ∷ []) }

abbrev ruled_8 : State
ruled_8 = record b_6 { membership = ticked_8; steps = 3 }

abbrev pub b_8 : State
b_8 = record ruled_8 { membership = record ruled_8.membership { shown = table ((b_1, 3) ∷ []); stable = 0; moved = false } }

abbrev pub does_8 : List Action
does_8 = Send (packet b_1 c_1 message.Heartbeat) ∷ Update 3 (Rise b_1 Up 1 ∷ Rise c_1 Up 2 ∷ []) ∷ View ∷ []

pub step_8 : step (event.Tick 0) b_6 ≡ (b_8, does_8)
unfolding covers merged_tables union
step_8 =
    in_stages (event.Tick 0) b_6 ruled_8 b_8 b_8 (Send (packet b_1 c_1 message.Heartbeat) ∷ Update 3 (Rise b_1 Up 1 ∷ Rise c_1 Up 2 ∷ []) ∷ []) (View ∷ []) [] refl refl
    (in_ticks 0 (record b_6 { steps = 3 }) ruled_8 ticked_8 (record { number = Some 3; effects = Rise b_1 Up 1 ∷ Rise c_1 Up 2 ∷ []; reply = Nothing }) (Send (packet b_1 c_1 message.Heartbeat) ∷ []) [] (simp listed) (simp listed) (simp listed)
    (in_going 0 (record b_6 { membership = ticked_8; steps = 3 }) ruled_8 [] [] (simp listed) (simp listed) (simp listed) refl refl (simp listed)))
    (simp listed)
    refl
    refl

-- ---- 9: b hears a, and welcomes it
abbrev pub known_9 : List UniqueModel → GossipState
known_9 = gossip_of ((b_1, 4) ∷ []) ((a_1, Member Joining 0) ∷ (b_1, Member Up 1) ∷ (c_1, Member Up 2) ∷ [])

abbrev ruled_9 : State
ruled_9 = record b_8 { membership = record b_8.membership { gossip = known_9 (b_1 ∷ []); moved = true }; steps = 4 }

abbrev pub b_9 : State
b_9 = record ruled_9 { membership = record ruled_9.membership { shown = table ((b_1, 4) ∷ []); moved = false; detector = table ((a_1, 0) ∷ (c_1, 1) ∷ []) } }

abbrev pub does_9 : List Action
does_9 = Update 4 (Joined a_1 ∷ []) ∷ Send (packet b_1 a_1 (message.Welcome (known_9 (b_1 ∷ [])))) ∷ View ∷ []

pub step_9 : step (event.Packet packet_3) b_8 ≡ (b_9, does_9)
unfolding covers merged_tables union
step_9 =
    in_stages (event.Packet packet_3) b_8 ruled_9 b_9 b_9 (Update 4 (Joined a_1 ∷ []) ∷ Send (packet b_1 a_1 (message.Welcome (known_9 (b_1 ∷ [])))) ∷ []) (View ∷ []) [] refl refl
    (simp listed)
    (simp listed)
    refl
    refl

-- ---- 10: a tick of b: it gossips to c
abbrev pub packet_8 : Envelope
packet_8 = packet b_1 c_1 (message.Gossip (known_9 (b_1 ∷ [])))

abbrev ticked_10 : MembershipState
ticked_10 = record b_9.membership { ticks = 2; stable = 1; detector = table ((a_1, 1) ∷ (c_1, 2) ∷ []) }

abbrev pub b_10 : State
b_10 = record b_9 { membership = ticked_10; steps = 5 }

abbrev pub does_10 : List Action
does_10 = Send (packet b_1 a_1 message.Heartbeat) ∷ Send (packet b_1 c_1 message.Heartbeat) ∷ Send packet_8 ∷ []

pub step_10 : step (event.Tick 1) b_9 ≡ (b_10, does_10)
unfolding covers merged_tables union
step_10 =
    in_stages (event.Tick 1) b_9 b_10 b_10 b_10 (Send (packet b_1 a_1 message.Heartbeat) ∷ Send (packet b_1 c_1 message.Heartbeat) ∷ Send packet_8 ∷ []) [] [] refl refl
    (in_ticks 1 (record b_9 { steps = 5 }) b_10 ticked_10 (record { number = None; effects = []; reply = Nothing }) (Send (packet b_1 a_1 message.Heartbeat) ∷ Send (packet b_1 c_1 message.Heartbeat) ∷ []) (Send packet_8 ∷ []) (simp listed) (simp listed) (simp listed)
    (in_going 1 (record b_9 { membership = ticked_10; steps = 5 }) b_10 [] (Send packet_8 ∷ []) (simp listed) (simp listed) (simp listed) refl refl (simp listed)))
    (simp listed)
    refl
    refl

-- ---- 11: c hears it, and answers: its view is settled
abbrev pub packet_9 : Envelope
packet_9 = packet c_1 b_1 (message.Gossip (known_9 (b_1 ∷ c_1 ∷ [])))

abbrev ruled_11 : State
ruled_11 = record c_5 { membership = record c_5.membership { gossip = known_9 (b_1 ∷ c_1 ∷ []); moved = true }; steps = 2 }

abbrev pub c_11 : State
c_11 = record ruled_11 { membership = record ruled_11.membership { shown = table ((b_1, 4) ∷ []); moved = false; detector = table ((a_1, 0) ∷ (b_1, 0) ∷ []); settled = settled_as (known_9 []) } }

abbrev pub does_11 : List Action
does_11 = Send packet_9 ∷ View ∷ Settled ∷ []

pub step_11 : step (event.Packet packet_8) c_5 ≡ (c_11, does_11)
unfolding covers merged_tables union
step_11 =
    in_stages (event.Packet packet_8) c_5 ruled_11 c_11 c_11 (Send packet_9 ∷ []) (View ∷ Settled ∷ []) [] refl refl
    (simp listed)
    (simp listed)
    refl
    refl

-- ---- 12: so is that of b
abbrev ruled_12 : State
ruled_12 = record b_10 { membership = record b_10.membership { gossip = known_9 (b_1 ∷ c_1 ∷ []) }; steps = 6 }

abbrev pub b_12 : State
b_12 = record ruled_12 { membership = record ruled_12.membership { settled = settled_as (known_9 []) } }

abbrev pub does_12 : List Action
does_12 = Settled ∷ []

pub step_12 : step (event.Packet packet_9) b_10 ≡ (b_12, does_12)
unfolding covers merged_tables union
step_12 =
    in_stages (event.Packet packet_9) b_10 ruled_12 b_12 b_12 [] (Settled ∷ []) [] refl refl
    (simp listed)
    (simp listed)
    refl
    refl

-- ---- 13: a tick of b: a comes Up, and c is asked
abbrev pub known_13 : List UniqueModel → GossipState
known_13 = gossip_of ((b_1, 5) ∷ []) ((a_1, Member Up 3) ∷ (b_1, Member Up 1) ∷ (c_1, Member Up 2) ∷ [])

abbrev pub packet_12 : Envelope
packet_12 = packet b_1 c_1 (message.Ask (ballot 1 b_1))

abbrev ticked_13 : MembershipState
ticked_13 = record b_12.membership { gossip = known_13 (b_1 ∷ []); ticks = 3; stable = 2; moved = true; detector = table ((a_1, 2) ∷ (c_1, 3) ∷ []) }

abbrev ruled_13 : State
ruled_13 = record b_12 { membership = ticked_13; singleton = record b_12.singleton { promise = record { last = Some (ballot 1 b_1); released = false; floor = table [] }; phase = phase.Asking; live = Some (ballot 1 b_1); granted = set (b_1 ∷ []); floor = table ((b_1, 4) ∷ []) }; sharding = begins_table b_1 b_12.sharding; steps = 7 }

abbrev pub b_13 : State
b_13 = record ruled_13 { membership = record ruled_13.membership { shown = table ((b_1, 5) ∷ []); stable = 0; moved = false } }

abbrev pub does_13 : List Action
does_13 = Send (packet b_1 a_1 message.Heartbeat) ∷ Send (packet b_1 c_1 message.Heartbeat) ∷ Update 5 (Rise a_1 Up 3 ∷ []) ∷ Send packet_12 ∷ Send (packet b_1 a_1 (message.Gossip (known_13 (b_1 ∷ [])))) ∷ View ∷ []

pub step_13 : step (event.Tick 0) b_12 ≡ (b_13, does_13)
unfolding covers merged_tables union
step_13 =
    in_stages (event.Tick 0) b_12 ruled_13 b_13 b_13 (Send (packet b_1 a_1 message.Heartbeat) ∷ Send (packet b_1 c_1 message.Heartbeat) ∷ Update 5 (Rise a_1 Up 3 ∷ []) ∷ Send packet_12 ∷ Send (packet b_1 a_1 (message.Gossip (known_13 (b_1 ∷ [])))) ∷ []) (View ∷ []) [] refl refl
    (in_ticks 0 (record b_12 { steps = 7 }) ruled_13 ticked_13 (record { number = Some 5; effects = Rise a_1 Up 3 ∷ []; reply = Nothing }) (Send (packet b_1 a_1 message.Heartbeat) ∷ Send (packet b_1 c_1 message.Heartbeat) ∷ []) (Send packet_12 ∷ Send (packet b_1 a_1 (message.Gossip (known_13 (b_1 ∷ [])))) ∷ []) (simp listed) (simp listed) (simp listed)
    (in_going 0 (record b_12 { membership = ticked_13; steps = 7 }) ruled_13 (Send packet_12 ∷ []) (Send (packet b_1 a_1 (message.Gossip (known_13 (b_1 ∷ [])))) ∷ []) (simp listed) (simp listed) (simp listed) refl refl (simp listed)))
    (simp listed)
    refl
    (simp listed)

-- ---- 14: c grants
abbrev pub packet_14 : Envelope
packet_14 = packet c_1 b_1 (message.Granted (ballot 1 b_1) (table ((b_1, 4) ∷ [])) [])

abbrev pub c_14 : State
c_14 = record c_11 { singleton = record c_11.singleton { promise = record { last = Some (ballot 1 b_1); released = false; floor = table [] } }; steps = 3 }

abbrev pub does_14 : List Action
does_14 = Send packet_14 ∷ []

pub step_14 : step (event.Packet packet_12) c_11 ≡ (c_14, does_14)
unfolding covers merged_tables union
step_14 =
    in_stages (event.Packet packet_12) c_11 c_14 c_14 c_14 (Send packet_14 ∷ []) [] [] refl refl
    (simp listed)
    (simp listed)
    refl
    refl

-- ---- 15: b hears it, and is active
abbrev ruled_15 : State
ruled_15 = record b_13 { singleton = record b_13.singleton { granted = set (b_1 ∷ c_1 ∷ []) }; steps = 8 }

abbrev pub b_15 : State
b_15 = record ruled_15 { singleton = record ruled_15.singleton { phase = phase.Active } }

abbrev pub does_15 : List Action
does_15 = Active 1 ∷ []

pub step_15 : step (event.Packet packet_14) b_13 ≡ (b_15, does_15)
unfolding covers merged_tables union
step_15 =
    in_stages (event.Packet packet_14) b_13 ruled_15 ruled_15 b_15 [] [] (Active 1 ∷ []) refl refl
    (simp listed)
    (simp listed)
    refl
    (simp listed)
