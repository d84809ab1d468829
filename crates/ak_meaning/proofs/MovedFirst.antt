-- The run in which a shard moves, up to its first home: what nodes make of its events, as the definitions have it.
use Rattle.std.proofs.Common.{◌≡◌, List, [], ◌∷◌, refl, Some, true, false}
use Rattle.ak_address.specs.Table.{merged_tables}
use Rattle.ak_address.specs.Unique.{UniqueModel}
use Rattle.ak_address.specs.Uniques.{union}
use Rattle.ak_clock.specs.Version.{covers}
use Rattle.ak_member.specs.declared.effect.Effect.TheVariants.{Joined, Rise}
use Rattle.ak_member.specs.declared.standing.Standing.TheVariants.{Member}
use Rattle.ak_member.specs.declared.status.Status.TheVariants.{Joining, Up}
use Rattle.ak_gossip.specs.Gossip.{GossipState}
use Rattle.ak_membership.specs.declared.change.Reply.TheVariants.{Nothing}
use Rattle.ak_membership.specs.declared.state.MembershipState.{MembershipState}
use Rattle.ak_singleton.specs.declared.phase.Phase.TheVariants as phase
use Rattle.ak_wire.specs.declared.envelope.Envelope.{Envelope}
use Rattle.ak_wire.specs.declared.envelope.Message.TheVariants as message
use Rattle.ak_wire.specs.declared.action.Action.{Action}
use Rattle.ak_wire.specs.declared.action.Action.TheVariants.{Send, Update, View, Settled, Active, Host, Entity, Deliver, Buffer}
use Rattle.ak_node.specs.declared.node.State.{State}
use Rattle.ak_node.specs.declared.node.NodeEvent.TheVariants as event
use Rattle.ak_node.specs.Node.{started, step}
use Rattle.ak_sharding.specs.Coordinates.{begins_table}
use Rattle.ak_coordinator.specs.Entry.{unplaced}
use Rattle.ak_entity.specs.Entities.{after_delivery}
use Rattle.ak_region.specs.Slot.{untold}
use Rattle.ak_world.specs.Worked.{at_a, a_1, b_1, c_1}
use Rattle.ak_meaning.specs.Moved.{spread, cart, cup, tea}
use Rattle.ak_world.proofs.ListedTables.{listed, table, set}
use Rattle.ak_world.proofs.StepStages.{in_stages, in_ticks, in_going}
use Rattle.ak_world.proofs.WorkedLemmas.{gossip_of, settled_as, ballot, packet}
use Rattle.ak_meaning.proofs.MovedLemmas.{in_coordinating, in_starting, message_for, placed, shared, slot}

-- ---- 4: a founds
abbrev pub known_4 : List UniqueModel → GossipState
known_4 = gossip_of ((a_1, 1) ∷ []) ((a_1, Member Joining 0) ∷ [])

abbrev ruled_4 : State
ruled_4 = record (started a_1 spread) { membership = record (started a_1 spread).membership { gossip = known_4 (a_1 ∷ []); founder = true; moved = true }; steps = 1 }

abbrev pub a_4 : State
a_4 = record ruled_4 { membership = record ruled_4.membership { shown = table ((a_1, 1) ∷ []); moved = false } }

abbrev pub does_4 : List Action
does_4 = Update 1 (Joined a_1 ∷ []) ∷ View ∷ []

pub step_4 : step event.Found (started a_1 spread) ≡ (a_4, does_4)
unfolding covers merged_tables union
step_4 =
    in_stages event.Found (started a_1 spread) ruled_4 a_4 a_4 (Update 1 (Joined a_1 ∷ []) ∷ []) (View ∷ []) [] refl refl
    (simp listed)
    (simp listed)
    refl
    refl

-- ---- 5: b asks to join
abbrev pub packet_1 : Envelope
packet_1 = record { from = b_1; to = at_a; uid = 0; message = message.Join }

abbrev pub b_5 : State
b_5 = record (started b_1 spread) { membership = record (started b_1 spread).membership { target = Some at_a }; steps = 1 }

abbrev pub does_5 : List Action
does_5 = Send packet_1 ∷ []

pub step_5 : step (event.Join at_a) (started b_1 spread) ≡ (b_5, does_5)
unfolding covers merged_tables union
step_5 =
    in_stages (event.Join at_a) (started b_1 spread) b_5 b_5 b_5 (Send packet_1 ∷ []) [] [] refl refl
    (simp listed)
    (simp listed)
    refl
    refl

-- ---- 6: a hears it, and welcomes b
abbrev pub known_6 : List UniqueModel → GossipState
known_6 = gossip_of ((a_1, 2) ∷ []) ((a_1, Member Joining 0) ∷ (b_1, Member Joining 0) ∷ [])

abbrev ruled_6 : State
ruled_6 = record a_4 { membership = record a_4.membership { gossip = known_6 (a_1 ∷ []); moved = true }; steps = 2 }

abbrev pub a_6 : State
a_6 = record ruled_6 { membership = record ruled_6.membership { shown = table ((a_1, 2) ∷ []); moved = false; detector = table ((b_1, 0) ∷ []) } }

abbrev pub does_6 : List Action
does_6 = Update 2 (Joined b_1 ∷ []) ∷ Send (packet a_1 b_1 (message.Welcome (known_6 (a_1 ∷ [])))) ∷ View ∷ []

pub step_6 : step (event.Packet packet_1) a_4 ≡ (a_6, does_6)
unfolding covers merged_tables union
step_6 =
    in_stages (event.Packet packet_1) a_4 ruled_6 a_6 a_6 (Update 2 (Joined b_1 ∷ []) ∷ Send (packet a_1 b_1 (message.Welcome (known_6 (a_1 ∷ [])))) ∷ []) (View ∷ []) [] refl refl
    (simp listed)
    (simp listed)
    refl
    refl

-- ---- 7: c asks to join
abbrev pub packet_3 : Envelope
packet_3 = record { from = c_1; to = at_a; uid = 0; message = message.Join }

abbrev pub c_7 : State
c_7 = record (started c_1 spread) { membership = record (started c_1 spread).membership { target = Some at_a }; steps = 1 }

abbrev pub does_7 : List Action
does_7 = Send packet_3 ∷ []

pub step_7 : step (event.Join at_a) (started c_1 spread) ≡ (c_7, does_7)
unfolding covers merged_tables union
step_7 =
    in_stages (event.Join at_a) (started c_1 spread) c_7 c_7 c_7 (Send packet_3 ∷ []) [] [] refl refl
    (simp listed)
    (simp listed)
    refl
    refl

-- ---- 8: a tick of a: a and b come Up
abbrev pub known_8 : List UniqueModel → GossipState
known_8 = gossip_of ((a_1, 3) ∷ []) ((a_1, Member Up 1) ∷ (b_1, Member Up 2) ∷ [])

abbrev ticked_8 : MembershipState
ticked_8 = record a_6.membership { gossip = known_8 (a_1 ∷ []); ticks = 1; stable = 1; moved = true; detector = table ((b_1, 1) ∷ []) }

abbrev ruled_8 : State
ruled_8 = record a_6 { membership = ticked_8; steps = 3 }

abbrev pub a_8 : State
a_8 = record ruled_8 { membership = record ruled_8.membership { shown = table ((a_1, 3) ∷ []); stable = 0; moved = false } }

abbrev pub does_8 : List Action
does_8 = Send (packet a_1 b_1 message.Heartbeat) ∷ Update 3 (Rise a_1 Up 1 ∷ Rise b_1 Up 2 ∷ []) ∷ View ∷ []

pub step_8 : step (event.Tick 0) a_6 ≡ (a_8, does_8)
unfolding covers merged_tables union
step_8 =
    in_stages (event.Tick 0) a_6 ruled_8 a_8 a_8 (Send (packet a_1 b_1 message.Heartbeat) ∷ Update 3 (Rise a_1 Up 1 ∷ Rise b_1 Up 2 ∷ []) ∷ []) (View ∷ []) [] refl refl
    (in_ticks 0 (record a_6 { steps = 3 }) ruled_8 ticked_8 (record { number = Some 3; effects = Rise a_1 Up 1 ∷ Rise b_1 Up 2 ∷ []; reply = Nothing }) (Send (packet a_1 b_1 message.Heartbeat) ∷ []) [] (simp listed) (simp listed) (simp listed)
    (in_going 0 (record a_6 { membership = ticked_8; steps = 3 }) ruled_8 [] [] (simp listed) (simp listed) (simp listed) refl refl (simp listed)))
    (simp listed)
    refl
    refl

-- ---- 9: a hears c, and welcomes it
abbrev pub known_9 : List UniqueModel → GossipState
known_9 = gossip_of ((a_1, 4) ∷ []) ((a_1, Member Up 1) ∷ (b_1, Member Up 2) ∷ (c_1, Member Joining 0) ∷ [])

abbrev ruled_9 : State
ruled_9 = record a_8 { membership = record a_8.membership { gossip = known_9 (a_1 ∷ []); moved = true }; steps = 4 }

abbrev pub a_9 : State
a_9 = record ruled_9 { membership = record ruled_9.membership { shown = table ((a_1, 4) ∷ []); moved = false; detector = table ((b_1, 1) ∷ (c_1, 0) ∷ []) } }

abbrev pub does_9 : List Action
does_9 = Update 4 (Joined c_1 ∷ []) ∷ Send (packet a_1 c_1 (message.Welcome (known_9 (a_1 ∷ [])))) ∷ View ∷ []

pub step_9 : step (event.Packet packet_3) a_8 ≡ (a_9, does_9)
unfolding covers merged_tables union
step_9 =
    in_stages (event.Packet packet_3) a_8 ruled_9 a_9 a_9 (Update 4 (Joined c_1 ∷ []) ∷ Send (packet a_1 c_1 (message.Welcome (known_9 (a_1 ∷ [])))) ∷ []) (View ∷ []) [] refl refl
    (simp listed)
    (simp listed)
    refl
    refl

-- ---- 10: a hears once more that b joins, and welcomes it again
abbrev pub packet_6 : Envelope
packet_6 = packet a_1 b_1 (message.Welcome (known_9 (a_1 ∷ [])))

abbrev pub a_10 : State
a_10 = record a_9 { steps = 5 }

abbrev pub does_10 : List Action
does_10 = Send packet_6 ∷ []

pub step_10 : step (event.Packet packet_1) a_9 ≡ (a_10, does_10)
unfolding covers merged_tables union
step_10 =
    in_stages (event.Packet packet_1) a_9 a_10 a_10 a_10 (Send packet_6 ∷ []) [] [] refl refl
    (simp listed)
    (simp listed)
    refl
    refl

-- ---- 11: b hears it, and answers: its view is settled
abbrev pub packet_7 : Envelope
packet_7 = packet b_1 a_1 (message.Gossip (known_9 (a_1 ∷ b_1 ∷ [])))

abbrev ruled_11 : State
ruled_11 = record b_5 { membership = record b_5.membership { gossip = known_9 (a_1 ∷ b_1 ∷ []); moved = true }; steps = 2 }

abbrev pub b_11 : State
b_11 = record ruled_11 { membership = record ruled_11.membership { shown = table ((a_1, 4) ∷ []); moved = false; detector = table ((a_1, 0) ∷ (c_1, 0) ∷ []); settled = settled_as (known_9 []) } }

abbrev pub does_11 : List Action
does_11 = Send packet_7 ∷ View ∷ Settled ∷ []

pub step_11 : step (event.Packet packet_6) b_5 ≡ (b_11, does_11)
unfolding covers merged_tables union
step_11 =
    in_stages (event.Packet packet_6) b_5 ruled_11 b_11 b_11 (Send packet_7 ∷ []) (View ∷ Settled ∷ []) [] refl refl
    (simp listed)
    (simp listed)
    refl
    refl

-- ---- 12: so is that of a
abbrev ruled_12 : State
ruled_12 = record a_10 { membership = record a_10.membership { gossip = known_9 (a_1 ∷ b_1 ∷ []) }; steps = 6 }

abbrev pub a_12 : State
a_12 = record ruled_12 { membership = record ruled_12.membership { settled = settled_as (known_9 []) } }

abbrev pub does_12 : List Action
does_12 = Settled ∷ []

pub step_12 : step (event.Packet packet_7) a_10 ≡ (a_12, does_12)
unfolding covers merged_tables union
step_12 =
    in_stages (event.Packet packet_7) a_10 ruled_12 a_12 a_12 [] (Settled ∷ []) [] refl refl
    (simp listed)
    (simp listed)
    refl
    refl

-- ---- 13: a message for the cart waits
abbrev pub a_13 : State
a_13 = record a_12 { sharding = record a_12.sharding { region = record a_12.sharding.region { messages = message_for cart 1 ∷ [] } }; steps = 7 }

abbrev pub does_13 : List Action
does_13 = Buffer cart 1 ∷ []

pub step_13 : step (event.Offer cart 1) a_12 ≡ (a_13, does_13)
unfolding covers merged_tables union
step_13 =
    in_stages (event.Offer cart 1) a_12 a_13 a_13 a_13 (Buffer cart 1 ∷ []) [] [] refl refl
    (simp shared)
    (simp listed)
    refl
    refl

-- ---- 14: and one for the cup
abbrev pub a_14 : State
a_14 = record a_13 { sharding = record a_13.sharding { region = record a_13.sharding.region { messages = message_for cart 1 ∷ message_for cup 2 ∷ [] } }; steps = 8 }

abbrev pub does_14 : List Action
does_14 = Buffer cup 2 ∷ []

pub step_14 : step (event.Offer cup 2) a_13 ≡ (a_14, does_14)
unfolding covers merged_tables union
step_14 =
    in_stages (event.Offer cup 2) a_13 a_14 a_14 a_14 (Buffer cup 2 ∷ []) [] [] refl refl
    (simp shared)
    (simp listed)
    refl
    refl

-- ---- 15: and one for the tea
abbrev pub a_15 : State
a_15 = record a_14 { sharding = record a_14.sharding { region = record a_14.sharding.region { messages = message_for cart 1 ∷ message_for cup 2 ∷ message_for tea 3 ∷ [] } }; steps = 9 }

abbrev pub does_15 : List Action
does_15 = Buffer tea 3 ∷ []

pub step_15 : step (event.Offer tea 3) a_14 ≡ (a_15, does_15)
unfolding covers merged_tables union
step_15 =
    in_stages (event.Offer tea 3) a_14 a_15 a_15 a_15 (Buffer tea 3 ∷ []) [] [] refl refl
    (simp shared)
    (simp listed)
    refl
    refl

-- ---- 16: a tick of a: c comes Up, b is asked, and three homes
abbrev pub known_16 : List UniqueModel → GossipState
known_16 = gossip_of ((a_1, 5) ∷ []) ((a_1, Member Up 1) ∷ (b_1, Member Up 2) ∷ (c_1, Member Up 3) ∷ [])

abbrev pub packet_10 : Envelope
packet_10 = packet a_1 b_1 (message.Ask (ballot 1 a_1))

abbrev pub packet_11 : Envelope
packet_11 = packet a_1 a_1 (message.GetHome (ballot 1 a_1) 0)

abbrev pub packet_12 : Envelope
packet_12 = packet a_1 a_1 (message.GetHome (ballot 1 a_1) 1)

abbrev pub packet_13 : Envelope
packet_13 = packet a_1 a_1 (message.GetHome (ballot 1 a_1) 2)

abbrev pub packet_14 : Envelope
packet_14 = packet a_1 b_1 (message.Gossip (known_16 (a_1 ∷ [])))

abbrev ticked_16 : MembershipState
ticked_16 = record a_15.membership { gossip = known_16 (a_1 ∷ []); ticks = 2; stable = 1; moved = true; detector = table ((b_1, 2) ∷ (c_1, 1) ∷ []) }

abbrev ruled_16 : State
ruled_16 = record a_15 { membership = ticked_16; singleton = record a_15.singleton { promise = record { last = Some (ballot 1 a_1); released = false; floor = table [] }; phase = phase.Asking; live = Some (ballot 1 a_1); granted = set (a_1 ∷ []); floor = table ((a_1, 4) ∷ []) }; sharding = begins_table a_1 a_15.sharding; steps = 10 }

abbrev pub a_16 : State
a_16 = record ruled_16 { membership = record ruled_16.membership { shown = table ((a_1, 5) ∷ []); stable = 0; moved = false } }

abbrev pub does_16 : List Action
does_16 = Send (packet a_1 b_1 message.Heartbeat) ∷ Send (packet a_1 c_1 message.Heartbeat) ∷ Update 5 (Rise c_1 Up 3 ∷ []) ∷ Send packet_10 ∷ Send packet_11 ∷ Send packet_12 ∷ Send packet_13 ∷ Send packet_14 ∷ View ∷ []

pub step_16 : step (event.Tick 0) a_15 ≡ (a_16, does_16)
unfolding covers merged_tables union
step_16 =
    in_stages (event.Tick 0) a_15 ruled_16 a_16 a_16 (Send (packet a_1 b_1 message.Heartbeat) ∷ Send (packet a_1 c_1 message.Heartbeat) ∷ Update 5 (Rise c_1 Up 3 ∷ []) ∷ Send packet_10 ∷ Send packet_11 ∷ Send packet_12 ∷ Send packet_13 ∷ Send packet_14 ∷ []) (View ∷ []) [] refl refl
    (in_ticks 0 (record a_15 { steps = 10 }) ruled_16 ticked_16 (record { number = Some 5; effects = Rise c_1 Up 3 ∷ []; reply = Nothing }) (Send (packet a_1 b_1 message.Heartbeat) ∷ Send (packet a_1 c_1 message.Heartbeat) ∷ []) (Send packet_10 ∷ Send packet_11 ∷ Send packet_12 ∷ Send packet_13 ∷ Send packet_14 ∷ []) (simp listed) (simp listed) (simp listed)
    (in_coordinating 0 (record a_15 { membership = ticked_16; steps = 10 }) ruled_16 ruled_16 (Send packet_10 ∷ []) [] (Send packet_11 ∷ Send packet_12 ∷ Send packet_13 ∷ []) (Send packet_14 ∷ []) (simp listed) (simp listed) (simp listed) (simp listed) (simp listed) (simp listed)))
    (simp listed)
    refl
    (simp listed)

-- ---- 17: b grants
abbrev pub packet_15 : Envelope
packet_15 = packet b_1 a_1 (message.Granted (ballot 1 a_1) (table ((a_1, 4) ∷ [])) [])

abbrev pub b_17 : State
b_17 = record b_11 { singleton = record b_11.singleton { promise = record { last = Some (ballot 1 a_1); released = false; floor = table [] } }; steps = 3 }

abbrev pub does_17 : List Action
does_17 = Send packet_15 ∷ []

pub step_17 : step (event.Packet packet_10) b_11 ≡ (b_17, does_17)
unfolding covers merged_tables union
step_17 =
    in_stages (event.Packet packet_10) b_11 b_17 b_17 b_17 (Send packet_15 ∷ []) [] [] refl refl
    (simp listed)
    (simp listed)
    refl
    refl

-- ---- 18: a hears it, and is active
abbrev ruled_18 : State
ruled_18 = record a_16 { singleton = record a_16.singleton { granted = set (a_1 ∷ b_1 ∷ []) }; steps = 11 }

abbrev pub a_18 : State
a_18 = record ruled_18 { singleton = record ruled_18.singleton { phase = phase.Active } }

abbrev pub does_18 : List Action
does_18 = Active 1 ∷ []

pub step_18 : step (event.Packet packet_15) a_16 ≡ (a_18, does_18)
unfolding covers merged_tables union
step_18 =
    in_stages (event.Packet packet_15) a_16 ruled_18 ruled_18 a_18 [] [] (Active 1 ∷ []) refl refl
    (simp listed)
    (simp listed)
    refl
    (simp listed)

-- ---- 19: it places shard 0 at itself
abbrev pub packet_16 : Envelope
packet_16 = packet a_1 a_1 (message.HostShard (ballot 1 a_1) 0 1)

abbrev pub a_19 : State
a_19 = record a_18 { sharding = record a_18.sharding { table = Some (placed 1 a_1 ∷ unplaced ∷ unplaced ∷ []) }; steps = 12 }

abbrev pub does_19 : List Action
does_19 = Send packet_16 ∷ Send (packet a_1 a_1 (message.Home (ballot 1 a_1) 0 a_1)) ∷ []

pub step_19 : step (event.Packet packet_11) a_18 ≡ (a_19, does_19)
unfolding covers merged_tables union
step_19 =
    in_stages (event.Packet packet_11) a_18 a_19 a_19 a_19 (Send packet_16 ∷ Send (packet a_1 a_1 (message.Home (ballot 1 a_1) 0 a_1)) ∷ []) [] [] refl refl
    (simp listed)
    (simp listed)
    refl
    refl

-- ---- 20: shard 1 at b
abbrev pub a_20 : State
a_20 = record a_19 { sharding = record a_19.sharding { table = Some (placed 1 a_1 ∷ placed 1 b_1 ∷ unplaced ∷ []) }; steps = 13 }

abbrev pub does_20 : List Action
does_20 = Send (packet a_1 b_1 (message.HostShard (ballot 1 a_1) 1 1)) ∷ Send (packet a_1 a_1 (message.Home (ballot 1 a_1) 1 b_1)) ∷ []

pub step_20 : step (event.Packet packet_12) a_19 ≡ (a_20, does_20)
unfolding covers merged_tables union
step_20 =
    in_stages (event.Packet packet_12) a_19 a_20 a_20 a_20 (Send (packet a_1 b_1 (message.HostShard (ballot 1 a_1) 1 1)) ∷ Send (packet a_1 a_1 (message.Home (ballot 1 a_1) 1 b_1)) ∷ []) [] [] refl refl
    (simp listed)
    (simp listed)
    refl
    refl

-- ---- 21: and shard 2 at itself
abbrev pub a_21 : State
a_21 = record a_20 { sharding = record a_20.sharding { table = Some (placed 1 a_1 ∷ placed 1 b_1 ∷ placed 1 a_1 ∷ []) }; steps = 14 }

abbrev pub does_21 : List Action
does_21 = Send (packet a_1 a_1 (message.HostShard (ballot 1 a_1) 2 1)) ∷ Send (packet a_1 a_1 (message.Home (ballot 1 a_1) 2 a_1)) ∷ []

pub step_21 : step (event.Packet packet_13) a_20 ≡ (a_21, does_21)
unfolding covers merged_tables union
step_21 =
    in_stages (event.Packet packet_13) a_20 a_21 a_21 a_21 (Send (packet a_1 a_1 (message.HostShard (ballot 1 a_1) 2 1)) ∷ Send (packet a_1 a_1 (message.Home (ballot 1 a_1) 2 a_1)) ∷ []) [] [] refl refl
    (simp listed)
    (simp listed)
    refl
    refl

-- ---- 22: it hosts shard 0, and the cart starts
abbrev pub a_22 : State
a_22 = record a_21 { sharding = record a_21.sharding { region = record a_21.sharding.region { slots = slot (Some 1) 1 false (Some a_1) ∷ untold ∷ untold ∷ []; messages = message_for cup 2 ∷ message_for tea 3 ∷ [] }; entities = after_delivery a_21.sharding.entities 0 cart 1 }; steps = 15 }

abbrev pub does_22 : List Action
does_22 = Host 0 1 ∷ Entity cart ∷ Deliver cart 1 ∷ Send (packet a_1 a_1 (message.ShardStarted (ballot 1 a_1) 0 1)) ∷ []

pub step_22 : step (event.Packet packet_16) a_21 ≡ (a_22, does_22)
unfolding covers merged_tables union
step_22 =
    in_stages (event.Packet packet_16) a_21 a_22 a_22 a_22 (Host 0 1 ∷ Entity cart ∷ Deliver cart 1 ∷ Send (packet a_1 a_1 (message.ShardStarted (ballot 1 a_1) 0 1)) ∷ []) [] [] refl refl
    (in_starting a_1 (message.HostShard (ballot 1 a_1) 0 1) (record a_21 { steps = 15 }) a_22 (Host 0 1 ∷ []) (Send (packet a_1 a_1 (message.ShardStarted (ballot 1 a_1) 0 1)) ∷ []) cart 1 (simp listed) refl)
    (simp listed)
    (simp listed)
    refl
