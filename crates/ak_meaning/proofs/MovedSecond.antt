-- The run in which a shard moves, up to its second home: what nodes make of its events, as the definitions have it.
use Rattle.std.proofs.Common.{◌≡◌, List, [], ◌∷◌, refl, Some, None, true, false}
use Rattle.ak_address.specs.Table.{merged_tables}
use Rattle.ak_address.specs.Uniques.{union}
use Rattle.ak_clock.specs.Version.{covers}
use Rattle.ak_membership.specs.declared.change.Reply.TheVariants.{Nothing}
use Rattle.ak_membership.specs.declared.state.MembershipState.{MembershipState}
use Rattle.ak_wire.specs.declared.envelope.Envelope.{Envelope}
use Rattle.ak_wire.specs.declared.envelope.Message.TheVariants as message
use Rattle.ak_wire.specs.declared.action.Action.{Action}
use Rattle.ak_wire.specs.declared.action.Action.TheVariants.{Send, View, Settled, Host, Gone, Entity, Deliver}
use Rattle.ak_node.specs.declared.node.State.{State}
use Rattle.ak_node.specs.declared.node.NodeEvent.TheVariants as event
use Rattle.ak_node.specs.Node.{step}
use Rattle.ak_coordinator.specs.declared.entry.Stage.TheVariants as stages
use Rattle.ak_entity.specs.Entities.{after_delivery, without_shard}
use Rattle.ak_region.specs.Slot.{untold}
use Rattle.ak_world.specs.Worked.{a_1, b_1, c_1}
use Rattle.ak_meaning.specs.Moved.{cart}
use Rattle.ak_world.proofs.ListedTables.{listed, table, set}
use Rattle.ak_world.proofs.StepStages.{in_stages, in_ticks}
use Rattle.ak_world.proofs.WorkedLemmas.{settled_as, ballot, packet}
use Rattle.ak_meaning.proofs.MovedLemmas.{in_coordinating, leaves, placed, shared, slot}
use Rattle.ak_meaning.proofs.MovedFirst.{a_22, b_17, c_7, known_16, packet_3, packet_14}

-- ---- 23: b hears that c is Up, and answers
abbrev pub packet_23 : Envelope
packet_23 = packet b_1 a_1 (message.Gossip (known_16 (a_1 ∷ b_1 ∷ [])))

abbrev ruled_23 : State
ruled_23 = record b_17 { membership = record b_17.membership { gossip = known_16 (a_1 ∷ b_1 ∷ []); moved = true }; steps = 4 }

abbrev pub b_23 : State
b_23 = record ruled_23 { membership = record ruled_23.membership { shown = table ((a_1, 5) ∷ []); moved = false } }

abbrev pub does_23 : List Action
does_23 = Send packet_23 ∷ View ∷ []

pub step_23 : step (event.Packet packet_14) b_17 ≡ (b_23, does_23)
unfolding covers merged_tables union
step_23 =
    in_stages (event.Packet packet_14) b_17 ruled_23 b_23 b_23 (Send packet_23 ∷ []) (View ∷ []) [] refl refl
    (simp listed)
    (simp listed)
    refl
    refl

-- ---- 24: a hears the answer
abbrev pub a_24 : State
a_24 = record a_22 { membership = record a_22.membership { gossip = known_16 (a_1 ∷ b_1 ∷ []) }; steps = 16 }

abbrev pub does_24 : List Action
does_24 = []

pub step_24 : step (event.Packet packet_23) a_22 ≡ (a_24, does_24)
unfolding covers merged_tables union
step_24 =
    in_stages (event.Packet packet_23) a_22 a_24 a_24 a_24 [] [] [] refl refl
    (simp listed)
    (simp listed)
    (simp listed)
    refl

-- ---- 25: a hears once more that c joins, and welcomes it again
abbrev pub packet_24 : Envelope
packet_24 = packet a_1 c_1 (message.Welcome (known_16 (a_1 ∷ b_1 ∷ [])))

abbrev pub a_25 : State
a_25 = record a_24 { steps = 17 }

abbrev pub does_25 : List Action
does_25 = Send packet_24 ∷ []

pub step_25 : step (event.Packet packet_3) a_24 ≡ (a_25, does_25)
unfolding covers merged_tables union
step_25 =
    in_stages (event.Packet packet_3) a_24 a_25 a_25 a_25 (Send packet_24 ∷ []) [] [] refl refl
    (simp listed)
    (simp listed)
    (simp listed)
    refl

-- ---- 26: c hears it, and answers: its view is settled
abbrev pub packet_25 : Envelope
packet_25 = packet c_1 a_1 (message.Gossip (known_16 (a_1 ∷ b_1 ∷ c_1 ∷ [])))

abbrev ruled_26 : State
ruled_26 = record c_7 { membership = record c_7.membership { gossip = known_16 (a_1 ∷ b_1 ∷ c_1 ∷ []); moved = true }; steps = 2 }

abbrev pub c_26 : State
c_26 = record ruled_26 { membership = record ruled_26.membership { shown = table ((a_1, 5) ∷ []); moved = false; detector = table ((a_1, 0) ∷ (b_1, 0) ∷ []); settled = settled_as (known_16 []) } }

abbrev pub does_26 : List Action
does_26 = Send packet_25 ∷ View ∷ Settled ∷ []

pub step_26 : step (event.Packet packet_24) c_7 ≡ (c_26, does_26)
unfolding covers merged_tables union
step_26 =
    in_stages (event.Packet packet_24) c_7 ruled_26 c_26 c_26 (Send packet_25 ∷ []) (View ∷ Settled ∷ []) [] refl refl
    (simp listed)
    (simp listed)
    refl
    refl

-- ---- 27: so is that of a
abbrev ruled_27 : State
ruled_27 = record a_25 { membership = record a_25.membership { gossip = known_16 (a_1 ∷ b_1 ∷ c_1 ∷ []) }; steps = 18 }

abbrev pub a_27 : State
a_27 = record ruled_27 { membership = record ruled_27.membership { settled = settled_as (known_16 []) } }

abbrev pub does_27 : List Action
does_27 = Settled ∷ []

pub step_27 : step (event.Packet packet_25) a_25 ≡ (a_27, does_27)
unfolding covers merged_tables union
step_27 =
    in_stages (event.Packet packet_25) a_25 ruled_27 a_27 a_27 [] (Settled ∷ []) [] refl refl
    (simp listed)
    (simp listed)
    (simp listed)
    refl

-- ---- 28: a tick of a: c is asked, and the orders are given again
abbrev pub packet_28 : Envelope
packet_28 = packet a_1 c_1 (message.Ask (ballot 1 a_1))

abbrev ticked_28 : MembershipState
ticked_28 = record a_27.membership { ticks = 3; stable = 1; detector = table ((b_1, 3) ∷ (c_1, 2) ∷ []) }

abbrev pub a_28 : State
a_28 = record a_27 { membership = ticked_28; steps = 19 }

abbrev pub does_28 : List Action
does_28 = Send (packet a_1 b_1 message.Heartbeat) ∷ Send (packet a_1 c_1 message.Heartbeat) ∷ Send packet_28 ∷ Send (packet a_1 a_1 (message.HostShard (ballot 1 a_1) 0 1)) ∷ Send (packet a_1 b_1 (message.HostShard (ballot 1 a_1) 1 1)) ∷ Send (packet a_1 a_1 (message.HostShard (ballot 1 a_1) 2 1)) ∷ Send (packet a_1 a_1 (message.GetHome (ballot 1 a_1) 1)) ∷ Send (packet a_1 a_1 (message.GetHome (ballot 1 a_1) 2)) ∷ Send (packet a_1 b_1 (message.Gossip (known_16 (a_1 ∷ b_1 ∷ c_1 ∷ [])))) ∷ []

pub step_28 : step (event.Tick 0) a_27 ≡ (a_28, does_28)
unfolding covers merged_tables union
step_28 =
    in_stages (event.Tick 0) a_27 a_28 a_28 a_28 (Send (packet a_1 b_1 message.Heartbeat) ∷ Send (packet a_1 c_1 message.Heartbeat) ∷ Send packet_28 ∷ Send (packet a_1 a_1 (message.HostShard (ballot 1 a_1) 0 1)) ∷ Send (packet a_1 b_1 (message.HostShard (ballot 1 a_1) 1 1)) ∷ Send (packet a_1 a_1 (message.HostShard (ballot 1 a_1) 2 1)) ∷ Send (packet a_1 a_1 (message.GetHome (ballot 1 a_1) 1)) ∷ Send (packet a_1 a_1 (message.GetHome (ballot 1 a_1) 2)) ∷ Send (packet a_1 b_1 (message.Gossip (known_16 (a_1 ∷ b_1 ∷ c_1 ∷ [])))) ∷ []) [] [] refl refl
    (in_ticks 0 (record a_27 { steps = 19 }) a_28 ticked_28 (record { number = None; effects = []; reply = Nothing }) (Send (packet a_1 b_1 message.Heartbeat) ∷ Send (packet a_1 c_1 message.Heartbeat) ∷ []) (Send packet_28 ∷ Send (packet a_1 a_1 (message.HostShard (ballot 1 a_1) 0 1)) ∷ Send (packet a_1 b_1 (message.HostShard (ballot 1 a_1) 1 1)) ∷ Send (packet a_1 a_1 (message.HostShard (ballot 1 a_1) 2 1)) ∷ Send (packet a_1 a_1 (message.GetHome (ballot 1 a_1) 1)) ∷ Send (packet a_1 a_1 (message.GetHome (ballot 1 a_1) 2)) ∷ Send (packet a_1 b_1 (message.Gossip (known_16 (a_1 ∷ b_1 ∷ c_1 ∷ [])))) ∷ []) (simp listed) (simp listed) (simp listed)
    (in_coordinating 0 (record a_27 { membership = ticked_28; steps = 19 }) a_28 a_28 (Send packet_28 ∷ []) (Send (packet a_1 a_1 (message.HostShard (ballot 1 a_1) 0 1)) ∷ Send (packet a_1 b_1 (message.HostShard (ballot 1 a_1) 1 1)) ∷ Send (packet a_1 a_1 (message.HostShard (ballot 1 a_1) 2 1)) ∷ []) (Send (packet a_1 a_1 (message.GetHome (ballot 1 a_1) 1)) ∷ Send (packet a_1 a_1 (message.GetHome (ballot 1 a_1) 2)) ∷ []) (Send (packet a_1 b_1 (message.Gossip (known_16 (a_1 ∷ b_1 ∷ c_1 ∷ [])))) ∷ []) (simp listed) (simp listed) (simp listed) (simp listed) (simp listed) (simp listed)))
    (simp listed)
    (simp listed)
    refl

-- ---- 29: c grants
abbrev pub packet_35 : Envelope
packet_35 = packet c_1 a_1 (message.Granted (ballot 1 a_1) (table ((a_1, 5) ∷ [])) [])

abbrev pub c_29 : State
c_29 = record c_26 { singleton = record c_26.singleton { promise = record { last = Some (ballot 1 a_1); released = false; floor = table [] } }; steps = 3 }

abbrev pub does_29 : List Action
does_29 = Send packet_35 ∷ []

pub step_29 : step (event.Packet packet_28) c_26 ≡ (c_29, does_29)
unfolding covers merged_tables union
step_29 =
    in_stages (event.Packet packet_28) c_26 c_29 c_29 c_29 (Send packet_35 ∷ []) [] [] refl refl
    (simp listed)
    (simp listed)
    refl
    refl

-- ---- 30: a hears it
abbrev pub a_30 : State
a_30 = record a_28 { singleton = record a_28.singleton { granted = set (a_1 ∷ b_1 ∷ c_1 ∷ []); floor = table ((a_1, 5) ∷ []) }; steps = 20 }

abbrev pub does_30 : List Action
does_30 = []

pub step_30 : step (event.Packet packet_35) a_28 ≡ (a_30, does_30)
unfolding covers merged_tables union
step_30 =
    in_stages (event.Packet packet_35) a_28 a_30 a_30 a_30 [] [] [] refl refl
    (simp listed)
    (simp listed)
    (simp listed)
    refl

-- ---- 31: a tick of a: shard 0 begins to move
abbrev pub packet_38 : Envelope
packet_38 = packet a_1 a_1 (message.BeginHandOff (ballot 1 a_1) 0 1)

abbrev pub packet_39 : Envelope
packet_39 = packet a_1 b_1 (message.BeginHandOff (ballot 1 a_1) 0 1)

abbrev pub packet_40 : Envelope
packet_40 = packet a_1 c_1 (message.BeginHandOff (ballot 1 a_1) 0 1)

abbrev ticked_31 : MembershipState
ticked_31 = record a_30.membership { ticks = 4; stable = 2; detector = table ((b_1, 4) ∷ (c_1, 3) ∷ []) }

abbrev pub a_31 : State
a_31 = record a_30 { membership = ticked_31; sharding = record a_30.sharding { table = Some (leaves 1 a_1 stages.Holding (a_1 ∷ b_1 ∷ c_1 ∷ []) ∷ placed 1 b_1 ∷ placed 1 a_1 ∷ []) }; steps = 21 }

abbrev pub does_31 : List Action
does_31 = Send (packet a_1 b_1 message.Heartbeat) ∷ Send (packet a_1 c_1 message.Heartbeat) ∷ Send packet_38 ∷ Send packet_39 ∷ Send packet_40 ∷ Send (packet a_1 b_1 (message.HostShard (ballot 1 a_1) 1 1)) ∷ Send (packet a_1 a_1 (message.HostShard (ballot 1 a_1) 2 1)) ∷ Send (packet a_1 a_1 (message.GetHome (ballot 1 a_1) 1)) ∷ Send (packet a_1 a_1 (message.GetHome (ballot 1 a_1) 2)) ∷ []

abbrev asked_31 : State
asked_31 = record a_30 { membership = ticked_31; steps = 21 }

pub step_31 : step (event.Tick 0) a_30 ≡ (a_31, does_31)
unfolding covers merged_tables union
step_31 =
    in_stages (event.Tick 0) a_30 a_31 a_31 a_31 (Send (packet a_1 b_1 message.Heartbeat) ∷ Send (packet a_1 c_1 message.Heartbeat) ∷ Send packet_38 ∷ Send packet_39 ∷ Send packet_40 ∷ Send (packet a_1 b_1 (message.HostShard (ballot 1 a_1) 1 1)) ∷ Send (packet a_1 a_1 (message.HostShard (ballot 1 a_1) 2 1)) ∷ Send (packet a_1 a_1 (message.GetHome (ballot 1 a_1) 1)) ∷ Send (packet a_1 a_1 (message.GetHome (ballot 1 a_1) 2)) ∷ []) [] [] refl refl
    (in_ticks 0 (record a_30 { steps = 21 }) a_31 ticked_31 (record { number = None; effects = []; reply = Nothing }) (Send (packet a_1 b_1 message.Heartbeat) ∷ Send (packet a_1 c_1 message.Heartbeat) ∷ []) (Send packet_38 ∷ Send packet_39 ∷ Send packet_40 ∷ Send (packet a_1 b_1 (message.HostShard (ballot 1 a_1) 1 1)) ∷ Send (packet a_1 a_1 (message.HostShard (ballot 1 a_1) 2 1)) ∷ Send (packet a_1 a_1 (message.GetHome (ballot 1 a_1) 1)) ∷ Send (packet a_1 a_1 (message.GetHome (ballot 1 a_1) 2)) ∷ []) (simp listed) (simp listed) (simp listed)
    (in_coordinating 0 (record a_30 { membership = ticked_31; steps = 21 }) asked_31 a_31 [] (Send packet_38 ∷ Send packet_39 ∷ Send packet_40 ∷ Send (packet a_1 b_1 (message.HostShard (ballot 1 a_1) 1 1)) ∷ Send (packet a_1 a_1 (message.HostShard (ballot 1 a_1) 2 1)) ∷ []) (Send (packet a_1 a_1 (message.GetHome (ballot 1 a_1) 1)) ∷ Send (packet a_1 a_1 (message.GetHome (ballot 1 a_1) 2)) ∷ []) [] (simp listed) (simp listed) (simp listed) (simp listed) (simp listed) (simp listed)))
    (simp listed)
    (simp listed)
    refl

-- ---- 32: a holds it
abbrev pub packet_45 : Envelope
packet_45 = packet a_1 a_1 (message.BeginHandOffAck (ballot 1 a_1) 0 1)

abbrev pub a_32 : State
a_32 = record a_31 { sharding = record a_31.sharding { region = record a_31.sharding.region { slots = slot (Some 1) 1 true None ∷ untold ∷ untold ∷ [] } }; steps = 22 }

abbrev pub does_32 : List Action
does_32 = Send packet_45 ∷ []

pub step_32 : step (event.Packet packet_38) a_31 ≡ (a_32, does_32)
unfolding covers merged_tables union
step_32 =
    in_stages (event.Packet packet_38) a_31 a_32 a_32 a_32 (Send packet_45 ∷ []) [] [] refl refl
    (simp listed)
    (simp listed)
    refl
    refl

-- ---- 33: b holds it
abbrev pub packet_46 : Envelope
packet_46 = packet b_1 a_1 (message.BeginHandOffAck (ballot 1 a_1) 0 1)

abbrev pub b_33 : State
b_33 = record b_23 { sharding = record b_23.sharding { region = record b_23.sharding.region { slots = slot None 0 true None ∷ untold ∷ untold ∷ [] } }; steps = 5 }

abbrev pub does_33 : List Action
does_33 = Send packet_46 ∷ []

pub step_33 : step (event.Packet packet_39) b_23 ≡ (b_33, does_33)
unfolding covers merged_tables union
step_33 =
    in_stages (event.Packet packet_39) b_23 b_33 b_33 b_33 (Send packet_46 ∷ []) [] [] refl refl
    (simp listed)
    (simp listed)
    refl
    refl

-- ---- 34: c holds it
abbrev pub packet_47 : Envelope
packet_47 = packet c_1 a_1 (message.BeginHandOffAck (ballot 1 a_1) 0 1)

abbrev pub c_34 : State
c_34 = record c_29 { sharding = record c_29.sharding { region = record c_29.sharding.region { slots = slot None 0 true None ∷ untold ∷ untold ∷ [] } }; steps = 4 }

abbrev pub does_34 : List Action
does_34 = Send packet_47 ∷ []

pub step_34 : step (event.Packet packet_40) c_29 ≡ (c_34, does_34)
unfolding covers merged_tables union
step_34 =
    in_stages (event.Packet packet_40) c_29 c_34 c_34 c_34 (Send packet_47 ∷ []) [] [] refl refl
    (simp listed)
    (simp listed)
    refl
    refl

-- ---- 35: a has answered
abbrev pub a_35 : State
a_35 = record a_32 { sharding = record a_32.sharding { table = Some (leaves 1 a_1 stages.Holding (b_1 ∷ c_1 ∷ []) ∷ placed 1 b_1 ∷ placed 1 a_1 ∷ []) }; steps = 23 }

abbrev pub does_35 : List Action
does_35 = []

pub step_35 : step (event.Packet packet_45) a_32 ≡ (a_35, does_35)
unfolding covers merged_tables union
step_35 =
    in_stages (event.Packet packet_45) a_32 a_35 a_35 a_35 [] [] [] refl refl
    (simp shared)
    (simp listed)
    refl
    refl

-- ---- 36: b has answered
abbrev pub a_36 : State
a_36 = record a_35 { sharding = record a_35.sharding { table = Some (leaves 1 a_1 stages.Holding (c_1 ∷ []) ∷ placed 1 b_1 ∷ placed 1 a_1 ∷ []) }; steps = 24 }

abbrev pub does_36 : List Action
does_36 = []

pub step_36 : step (event.Packet packet_46) a_35 ≡ (a_36, does_36)
unfolding covers merged_tables union
step_36 =
    in_stages (event.Packet packet_46) a_35 a_36 a_36 a_36 [] [] [] refl refl
    (simp shared)
    (simp listed)
    refl
    refl

-- ---- 37: c has answered, and a is to hand it off
abbrev pub packet_48 : Envelope
packet_48 = packet a_1 a_1 (message.HandOff (ballot 1 a_1) 0 1)

abbrev pub a_37 : State
a_37 = record a_36 { sharding = record a_36.sharding { table = Some (leaves 1 a_1 stages.Leaving [] ∷ placed 1 b_1 ∷ placed 1 a_1 ∷ []) }; steps = 25 }

abbrev pub does_37 : List Action
does_37 = Send packet_48 ∷ []

pub step_37 : step (event.Packet packet_47) a_36 ≡ (a_37, does_37)
unfolding covers merged_tables union
step_37 =
    in_stages (event.Packet packet_47) a_36 a_37 a_37 a_37 (Send packet_48 ∷ []) [] [] refl refl
    (simp shared)
    (simp listed)
    refl
    refl

-- ---- 38: a hands it off, and the cart ends
abbrev pub packet_49 : Envelope
packet_49 = packet a_1 a_1 (message.ShardStopped (ballot 1 a_1) 0 1)

abbrev pub a_38 : State
a_38 = record a_37 { sharding = record a_37.sharding { region = record a_37.sharding.region { slots = slot None 1 true None ∷ untold ∷ untold ∷ [] }; entities = without_shard a_37.sharding.entities 0 }; steps = 26 }

abbrev pub does_38 : List Action
does_38 = Gone 0 ∷ Send packet_49 ∷ []

pub step_38 : step (event.Packet packet_48) a_37 ≡ (a_38, does_38)
unfolding covers merged_tables union
step_38 =
    in_stages (event.Packet packet_48) a_37 a_38 a_38 a_38 (Gone 0 ∷ Send packet_49 ∷ []) [] [] refl refl
    (simp listed)
    (simp listed)
    refl
    refl

-- ---- 39: the shard is placed at c
abbrev pub packet_50 : Envelope
packet_50 = packet a_1 c_1 (message.HostShard (ballot 1 a_1) 0 2)

abbrev pub a_39 : State
a_39 = record a_38 { sharding = record a_38.sharding { table = Some (placed 2 c_1 ∷ placed 1 b_1 ∷ placed 1 a_1 ∷ []) }; steps = 27 }

abbrev pub does_39 : List Action
does_39 = Send packet_50 ∷ []

pub step_39 : step (event.Packet packet_49) a_38 ≡ (a_39, does_39)
unfolding covers merged_tables union
step_39 =
    in_stages (event.Packet packet_49) a_38 a_39 a_39 a_39 (Send packet_50 ∷ []) [] [] refl refl
    (simp listed)
    (simp listed)
    refl
    refl

-- ---- 40: c hosts it
abbrev pub c_40 : State
c_40 = record c_34 { sharding = record c_34.sharding { region = record c_34.sharding.region { slots = slot (Some 2) 2 false (Some c_1) ∷ untold ∷ untold ∷ [] } }; steps = 5 }

abbrev pub does_40 : List Action
does_40 = Host 0 2 ∷ Send (packet c_1 a_1 (message.ShardStarted (ballot 1 a_1) 0 2)) ∷ []

pub step_40 : step (event.Packet packet_50) c_34 ≡ (c_40, does_40)
unfolding covers merged_tables union
step_40 =
    in_stages (event.Packet packet_50) c_34 c_40 c_40 c_40 (Host 0 2 ∷ Send (packet c_1 a_1 (message.ShardStarted (ballot 1 a_1) 0 2)) ∷ []) [] [] refl refl
    (simp listed)
    (simp listed)
    (simp listed)
    refl

-- ---- 41: the cart starts there
abbrev pub c_41 : State
c_41 = record c_40 { sharding = record c_40.sharding { entities = after_delivery c_40.sharding.entities 0 cart 4 }; steps = 6 }

abbrev pub does_41 : List Action
does_41 = Entity cart ∷ Deliver cart 4 ∷ []

pub step_41 : step (event.Offer cart 4) c_40 ≡ (c_41, does_41)
unfolding covers merged_tables union
step_41 =
    in_stages (event.Offer cart 4) c_40 c_41 c_41 c_41 (Entity cart ∷ Deliver cart 4 ∷ []) [] [] refl refl
    (simp shared)
    (simp listed)
    (simp listed)
    refl
