-- The run in which an activity passes, up to the second: what nodes make of its events, as the definitions have it.
use Rattle.std.proofs.Common.{◌≡◌, List, [], ◌∷◌, refl, Some, None, true, false}
use Rattle.ak_address.specs.Table.{merged_tables}
use Rattle.ak_address.specs.Unique.{UniqueModel}
use Rattle.ak_address.specs.Uniques.{union}
use Rattle.ak_clock.specs.Version.{covers}
use Rattle.ak_member.specs.declared.effect.Effect.TheVariants.{Rise, Removed}
use Rattle.ak_member.specs.declared.standing.Standing.TheVariants.{Member, Buried}
use Rattle.ak_member.specs.declared.status.Status.TheVariants.{Up, Leaving, Exiting}
use Rattle.ak_gossip.specs.Gossip.{GossipState}
use Rattle.ak_membership.specs.declared.change.Reply.TheVariants.{Nothing}
use Rattle.ak_membership.specs.declared.state.MembershipState.{MembershipState}
use Rattle.ak_singleton.specs.declared.phase.Phase.TheVariants as phase
use Rattle.ak_wire.specs.declared.envelope.Envelope.{Envelope}
use Rattle.ak_wire.specs.declared.envelope.Message.TheVariants as message
use Rattle.ak_wire.specs.declared.action.Action.{Action}
use Rattle.ak_wire.specs.declared.action.Action.TheVariants.{Send, Update, View, Settled, Active, Ended, Stopped}
use Rattle.ak_node.specs.declared.node.State.{State}
use Rattle.ak_node.specs.declared.node.NodeEvent.TheVariants as event
use Rattle.ak_node.specs.Node.{step}
use Rattle.ak_sharding.specs.Coordinates.{begins_table, ends_table}
use Rattle.ak_world.specs.Worked.{a_1, b_1, c_1}
use Rattle.ak_world.proofs.WorkedFirst.{a_7, b_15, c_14, packet_3}
use Rattle.ak_world.proofs.ListedTables.{listed, table, set}
use Rattle.ak_world.proofs.StepStages.{in_stages, in_ticks, in_going, in_leaving}
use Rattle.ak_world.proofs.WorkedLemmas.{gossip_of, settled_as, ballot, packet}

-- ---- 16: b leaves
abbrev known_16 : List UniqueModel → GossipState
known_16 = gossip_of ((b_1, 6) ∷ []) ((a_1, Member Up 3) ∷ (b_1, Member Leaving 1) ∷ (c_1, Member Up 2) ∷ [])

abbrev ruled_16 : State
ruled_16 = record b_15 { membership = record b_15.membership { gossip = known_16 (b_1 ∷ []); moved = true }; steps = 9 }

abbrev pub b_16 : State
b_16 = record ruled_16 { membership = record ruled_16.membership { shown = table ((b_1, 6) ∷ []); moved = false } }

abbrev pub does_16 : List Action
does_16 = Update 6 (Rise b_1 Leaving 0 ∷ []) ∷ View ∷ []

pub step_16 : step (event.Leave b_1) b_15 ≡ (b_16, does_16)
unfolding covers merged_tables union
step_16 =
    in_stages (event.Leave b_1) b_15 ruled_16 b_16 b_16 (Update 6 (Rise b_1 Leaving 0 ∷ []) ∷ []) (View ∷ []) [] refl refl
    (simp listed)
    (simp listed)
    refl
    refl

-- ---- 17: a tick of b: it gossips to c
abbrev pub packet_17 : Envelope
packet_17 = packet b_1 c_1 (message.Gossip (known_16 (b_1 ∷ [])))

abbrev ticked_17 : MembershipState
ticked_17 = record b_16.membership { ticks = 4; stable = 1; detector = table ((a_1, 3) ∷ (c_1, 4) ∷ []) }

abbrev pub b_17 : State
b_17 = record b_16 { membership = ticked_17; steps = 10 }

abbrev pub does_17 : List Action
does_17 = Send (packet b_1 a_1 message.Heartbeat) ∷ Send (packet b_1 c_1 message.Heartbeat) ∷ Send packet_17 ∷ []

pub step_17 : step (event.Tick 1) b_16 ≡ (b_17, does_17)
unfolding covers merged_tables union
step_17 =
    in_stages (event.Tick 1) b_16 b_17 b_17 b_17 (Send (packet b_1 a_1 message.Heartbeat) ∷ Send (packet b_1 c_1 message.Heartbeat) ∷ Send packet_17 ∷ []) [] [] refl refl
    (in_ticks 1 (record b_16 { steps = 10 }) b_17 ticked_17 (record { number = None; effects = []; reply = Nothing }) (Send (packet b_1 a_1 message.Heartbeat) ∷ Send (packet b_1 c_1 message.Heartbeat) ∷ []) (Send packet_17 ∷ []) (simp listed) (simp listed) (simp listed)
    (in_going 1 (record b_16 { membership = ticked_17; steps = 10 }) b_17 [] (Send packet_17 ∷ []) (simp listed) (simp listed) (simp listed) (simp listed) refl (simp listed)))
    (simp listed)
    refl
    refl

-- ---- 18: c hears it, and answers
abbrev pub packet_18 : Envelope
packet_18 = packet c_1 b_1 (message.Gossip (known_16 (b_1 ∷ c_1 ∷ [])))

abbrev ruled_18 : State
ruled_18 = record c_14 { membership = record c_14.membership { gossip = known_16 (b_1 ∷ c_1 ∷ []); moved = true }; steps = 4 }

abbrev pub c_18 : State
c_18 = record ruled_18 { membership = record ruled_18.membership { shown = table ((b_1, 6) ∷ []); moved = false } }

abbrev pub does_18 : List Action
does_18 = Send packet_18 ∷ View ∷ []

pub step_18 : step (event.Packet packet_17) c_14 ≡ (c_18, does_18)
unfolding covers merged_tables union
step_18 =
    in_stages (event.Packet packet_17) c_14 ruled_18 c_18 c_18 (Send packet_18 ∷ []) (View ∷ []) [] refl refl
    (simp listed)
    (simp listed)
    refl
    refl

-- ---- 19: b hears the answer
abbrev pub b_19 : State
b_19 = record b_17 { membership = record b_17.membership { gossip = known_16 (b_1 ∷ c_1 ∷ []) }; steps = 11 }

abbrev pub does_19 : List Action
does_19 = []

pub step_19 : step (event.Packet packet_18) b_17 ≡ (b_19, does_19)
unfolding covers merged_tables union
step_19 =
    in_stages (event.Packet packet_18) b_17 b_19 b_19 b_19 [] [] [] refl refl
    (simp listed)
    (simp listed)
    refl
    refl

-- ---- 20: b hears once more that a joins, and welcomes it again
abbrev pub packet_19 : Envelope
packet_19 = packet b_1 a_1 (message.Welcome (known_16 (b_1 ∷ c_1 ∷ [])))

abbrev pub b_20 : State
b_20 = record b_19 { steps = 12 }

abbrev pub does_20 : List Action
does_20 = Send packet_19 ∷ []

pub step_20 : step (event.Packet packet_3) b_19 ≡ (b_20, does_20)
unfolding covers merged_tables union
step_20 =
    in_stages (event.Packet packet_3) b_19 b_20 b_20 b_20 (Send packet_19 ∷ []) [] [] refl refl
    (simp listed)
    (simp listed)
    refl
    refl

-- ---- 21: a hears it: its view is settled
abbrev ruled_21 : State
ruled_21 = record a_7 { membership = record a_7.membership { gossip = known_16 (a_1 ∷ b_1 ∷ c_1 ∷ []); moved = true }; steps = 2 }

abbrev pub a_21 : State
a_21 = record ruled_21 { membership = record ruled_21.membership { shown = table ((b_1, 6) ∷ []); moved = false; detector = table ((b_1, 0) ∷ (c_1, 0) ∷ []); settled = settled_as (known_16 []) } }

abbrev pub does_21 : List Action
does_21 = Send (packet a_1 b_1 (message.Gossip (known_16 (a_1 ∷ b_1 ∷ c_1 ∷ [])))) ∷ View ∷ Settled ∷ []

pub step_21 : step (event.Packet packet_19) a_7 ≡ (a_21, does_21)
unfolding covers merged_tables union
step_21 =
    in_stages (event.Packet packet_19) a_7 ruled_21 a_21 a_21 (Send (packet a_1 b_1 (message.Gossip (known_16 (a_1 ∷ b_1 ∷ c_1 ∷ [])))) ∷ []) (View ∷ Settled ∷ []) [] refl refl
    (simp listed)
    (simp listed)
    refl
    refl

-- ---- 22: a tick of a, which leads: b exits
abbrev known_22 : List UniqueModel → GossipState
known_22 = gossip_of ((a_1, 1) ∷ (b_1, 6) ∷ []) ((a_1, Member Up 3) ∷ (b_1, Member Exiting 1) ∷ (c_1, Member Up 2) ∷ [])

abbrev pub packet_23 : Envelope
packet_23 = packet a_1 b_1 (message.Gossip (known_22 (a_1 ∷ [])))

abbrev ticked_22 : MembershipState
ticked_22 = record a_21.membership { gossip = known_22 (a_1 ∷ []); ticks = 1; stable = 1; moved = true; detector = table ((b_1, 1) ∷ (c_1, 1) ∷ []) }

abbrev ruled_22 : State
ruled_22 = record a_21 { membership = ticked_22; steps = 3 }

abbrev pub a_22 : State
a_22 = record ruled_22 { membership = record ruled_22.membership { shown = table ((a_1, 1) ∷ (b_1, 6) ∷ []); stable = 0; moved = false } }

abbrev pub does_22 : List Action
does_22 = Send (packet a_1 b_1 message.Heartbeat) ∷ Send (packet a_1 c_1 message.Heartbeat) ∷ Update 1 (Rise b_1 Exiting 0 ∷ []) ∷ Send packet_23 ∷ View ∷ []

pub step_22 : step (event.Tick 0) a_21 ≡ (a_22, does_22)
unfolding covers merged_tables union
step_22 =
    in_stages (event.Tick 0) a_21 ruled_22 a_22 a_22 (Send (packet a_1 b_1 message.Heartbeat) ∷ Send (packet a_1 c_1 message.Heartbeat) ∷ Update 1 (Rise b_1 Exiting 0 ∷ []) ∷ Send packet_23 ∷ []) (View ∷ []) [] refl refl
    (in_ticks 0 (record a_21 { steps = 3 }) ruled_22 ticked_22 (record { number = Some 1; effects = Rise b_1 Exiting 0 ∷ []; reply = Nothing }) (Send (packet a_1 b_1 message.Heartbeat) ∷ Send (packet a_1 c_1 message.Heartbeat) ∷ []) (Send packet_23 ∷ []) (simp listed) (simp listed) (simp listed)
    (in_going 0 (record a_21 { membership = ticked_22; steps = 3 }) ruled_22 [] (Send packet_23 ∷ []) (simp listed) (simp listed) (simp listed) refl refl (simp listed)))
    (simp listed)
    refl
    refl

-- ---- 23: b hears it
abbrev ruled_23 : State
ruled_23 = record b_20 { membership = record b_20.membership { gossip = known_22 (a_1 ∷ b_1 ∷ []); moved = true }; steps = 13 }

abbrev pub b_23 : State
b_23 = record ruled_23 { membership = record ruled_23.membership { shown = table ((a_1, 1) ∷ (b_1, 6) ∷ []); stable = 0; moved = false } }

abbrev pub does_23 : List Action
does_23 = Send (packet b_1 a_1 (message.Gossip (known_22 (a_1 ∷ b_1 ∷ [])))) ∷ View ∷ []

pub step_23 : step (event.Packet packet_23) b_20 ≡ (b_23, does_23)
unfolding covers merged_tables union
step_23 =
    in_stages (event.Packet packet_23) b_20 ruled_23 b_23 b_23 (Send (packet b_1 a_1 (message.Gossip (known_22 (a_1 ∷ b_1 ∷ [])))) ∷ []) (View ∷ []) [] refl refl
    (simp listed)
    (simp listed)
    refl
    refl

-- ---- 24: a tick of b: it ends its activity, says that it stops, and stops
abbrev pub packet_28 : Envelope
packet_28 = packet b_1 a_1 message.ExitingConfirmed

abbrev ticked_24 : MembershipState
ticked_24 = record b_23.membership { ticks = 5; stable = 1; detector = table ((a_1, 4) ∷ (c_1, 5) ∷ []) }

abbrev pub b_24 : State
b_24 = record b_23 { membership = ticked_24; singleton = record b_23.singleton { promise = record { last = Some (ballot 1 b_1); released = true; floor = table ((b_1, 4) ∷ []) }; phase = phase.Ended; live = None; granted = set []; floor = table [] }; sharding = ends_table b_23.sharding; runs = false; steps = 14 }

abbrev pub does_24 : List Action
does_24 = Send (packet b_1 a_1 message.Heartbeat) ∷ Send (packet b_1 c_1 message.Heartbeat) ∷ Ended 1 ∷ Send (packet b_1 c_1 (message.Release (ballot 1 b_1) (table ((b_1, 4) ∷ [])))) ∷ Send packet_28 ∷ Send (packet b_1 c_1 message.ExitingConfirmed) ∷ Stopped ∷ []

abbrev ended_24 : State
ended_24 = record b_23 { membership = ticked_24; singleton = record b_23.singleton { promise = record { last = Some (ballot 1 b_1); released = true; floor = table ((b_1, 4) ∷ []) }; phase = phase.Ended; live = None; granted = set []; floor = table [] }; sharding = ends_table b_23.sharding; steps = 14 }

pub step_24 : step (event.Tick 0) b_23 ≡ (b_24, does_24)
unfolding covers merged_tables union
step_24 =
    in_stages (event.Tick 0) b_23 b_24 b_24 b_24 (Send (packet b_1 a_1 message.Heartbeat) ∷ Send (packet b_1 c_1 message.Heartbeat) ∷ Ended 1 ∷ Send (packet b_1 c_1 (message.Release (ballot 1 b_1) (table ((b_1, 4) ∷ [])))) ∷ Send packet_28 ∷ Send (packet b_1 c_1 message.ExitingConfirmed) ∷ []) (Stopped ∷ []) [] refl refl
    (in_ticks 0 (record b_23 { steps = 14 }) b_24 ticked_24 (record { number = None; effects = []; reply = Nothing }) (Send (packet b_1 a_1 message.Heartbeat) ∷ Send (packet b_1 c_1 message.Heartbeat) ∷ []) (Ended 1 ∷ Send (packet b_1 c_1 (message.Release (ballot 1 b_1) (table ((b_1, 4) ∷ [])))) ∷ Send packet_28 ∷ Send (packet b_1 c_1 message.ExitingConfirmed) ∷ []) (simp listed) (simp listed) (simp listed)
    (in_leaving 0 (record b_23 { membership = ticked_24; steps = 14 }) ended_24 b_24 (Ended 1 ∷ Send (packet b_1 c_1 (message.Release (ballot 1 b_1) (table ((b_1, 4) ∷ [])))) ∷ []) (Send packet_28 ∷ Send (packet b_1 c_1 message.ExitingConfirmed) ∷ []) (simp listed) (simp listed) (simp listed) refl (simp listed)))
    (simp listed)
    refl
    refl

-- ---- 25: a hears that b stops
abbrev pub a_25 : State
a_25 = record a_22 { membership = record a_22.membership { confirmed = set (b_1 ∷ []) }; steps = 4 }

abbrev pub does_25 : List Action
does_25 = []

pub step_25 : step (event.Packet packet_28) a_22 ≡ (a_25, does_25)
unfolding covers merged_tables union
step_25 =
    in_stages (event.Packet packet_28) a_22 a_25 a_25 a_25 [] [] [] refl refl
    (simp listed)
    (simp listed)
    refl
    refl

-- ---- 26: a tick of a: it gossips to c
abbrev pub packet_32 : Envelope
packet_32 = packet a_1 c_1 (message.Gossip (known_22 (a_1 ∷ [])))

abbrev ticked_26 : MembershipState
ticked_26 = record a_25.membership { ticks = 2; stable = 1; detector = table ((b_1, 2) ∷ (c_1, 2) ∷ []) }

abbrev pub a_26 : State
a_26 = record a_25 { membership = ticked_26; steps = 5 }

abbrev pub does_26 : List Action
does_26 = Send (packet a_1 b_1 message.Heartbeat) ∷ Send (packet a_1 c_1 message.Heartbeat) ∷ Send packet_32 ∷ []

pub step_26 : step (event.Tick 1) a_25 ≡ (a_26, does_26)
unfolding covers merged_tables union
step_26 =
    in_stages (event.Tick 1) a_25 a_26 a_26 a_26 (Send (packet a_1 b_1 message.Heartbeat) ∷ Send (packet a_1 c_1 message.Heartbeat) ∷ Send packet_32 ∷ []) [] [] refl refl
    (in_ticks 1 (record a_25 { steps = 5 }) a_26 ticked_26 (record { number = None; effects = []; reply = Nothing }) (Send (packet a_1 b_1 message.Heartbeat) ∷ Send (packet a_1 c_1 message.Heartbeat) ∷ []) (Send packet_32 ∷ []) (simp listed) (simp listed) (simp listed)
    (in_going 1 (record a_25 { membership = ticked_26; steps = 5 }) a_26 [] (Send packet_32 ∷ []) (simp listed) (simp listed) (simp listed) refl refl (simp listed)))
    (simp listed)
    refl
    refl

-- ---- 27: c hears it, and answers
abbrev pub packet_33 : Envelope
packet_33 = packet c_1 a_1 (message.Gossip (known_22 (a_1 ∷ c_1 ∷ [])))

abbrev ruled_27 : State
ruled_27 = record c_18 { membership = record c_18.membership { gossip = known_22 (a_1 ∷ c_1 ∷ []); moved = true }; steps = 5 }

abbrev pub c_27 : State
c_27 = record ruled_27 { membership = record ruled_27.membership { shown = table ((a_1, 1) ∷ (b_1, 6) ∷ []); moved = false; settled = settled_as (known_22 []) } }

abbrev pub does_27 : List Action
does_27 = Send packet_33 ∷ View ∷ Settled ∷ []

pub step_27 : step (event.Packet packet_32) c_18 ≡ (c_27, does_27)
unfolding covers merged_tables union
step_27 =
    in_stages (event.Packet packet_32) c_18 ruled_27 c_27 c_27 (Send packet_33 ∷ []) (View ∷ Settled ∷ []) [] refl refl
    (simp listed)
    (simp listed)
    refl
    refl

-- ---- 28: a hears the answer: its view is settled
abbrev ruled_28 : State
ruled_28 = record a_26 { membership = record a_26.membership { gossip = known_22 (a_1 ∷ c_1 ∷ []) }; steps = 6 }

abbrev pub a_28 : State
a_28 = record ruled_28 { membership = record ruled_28.membership { settled = settled_as (known_22 []) } }

abbrev pub does_28 : List Action
does_28 = Settled ∷ []

pub step_28 : step (event.Packet packet_33) a_26 ≡ (a_28, does_28)
unfolding covers merged_tables union
step_28 =
    in_stages (event.Packet packet_33) a_26 ruled_28 a_28 a_28 [] (Settled ∷ []) [] refl refl
    (simp listed)
    (simp listed)
    refl
    refl

-- ---- 29: a tick of a: b is removed
abbrev known_29 : List UniqueModel → GossipState
known_29 = gossip_of ((a_1, 2) ∷ (b_1, 6) ∷ []) ((a_1, Member Up 3) ∷ (b_1, Buried true) ∷ (c_1, Member Up 2) ∷ [])

abbrev pub packet_36 : Envelope
packet_36 = packet a_1 c_1 (message.Gossip (known_29 (a_1 ∷ [])))

abbrev ticked_29 : MembershipState
ticked_29 = record a_28.membership { gossip = known_29 (a_1 ∷ []); ticks = 3; stable = 2; moved = true; detector = table ((b_1, 3) ∷ (c_1, 3) ∷ []) }

abbrev ruled_29 : State
ruled_29 = record a_28 { membership = ticked_29; steps = 7 }

abbrev pub a_29 : State
a_29 = record ruled_29 { membership = record ruled_29.membership { shown = table ((a_1, 2) ∷ (b_1, 6) ∷ []); stable = 0; moved = false; detector = table ((c_1, 3) ∷ []) } }

abbrev pub does_29 : List Action
does_29 = Send (packet a_1 b_1 message.Heartbeat) ∷ Send (packet a_1 c_1 message.Heartbeat) ∷ Update 2 (Removed b_1 true ∷ []) ∷ Send packet_36 ∷ View ∷ []

pub step_29 : step (event.Tick 0) a_28 ≡ (a_29, does_29)
unfolding covers merged_tables union
step_29 =
    in_stages (event.Tick 0) a_28 ruled_29 a_29 a_29 (Send (packet a_1 b_1 message.Heartbeat) ∷ Send (packet a_1 c_1 message.Heartbeat) ∷ Update 2 (Removed b_1 true ∷ []) ∷ Send packet_36 ∷ []) (View ∷ []) [] refl refl
    (in_ticks 0 (record a_28 { steps = 7 }) ruled_29 ticked_29 (record { number = Some 2; effects = Removed b_1 true ∷ []; reply = Nothing }) (Send (packet a_1 b_1 message.Heartbeat) ∷ Send (packet a_1 c_1 message.Heartbeat) ∷ []) (Send packet_36 ∷ []) (simp listed) (simp listed) (simp listed)
    (in_going 0 (record a_28 { membership = ticked_29; steps = 7 }) ruled_29 [] (Send packet_36 ∷ []) (simp listed) (simp listed) (simp listed) refl refl (simp listed)))
    (simp listed)
    refl
    refl

-- ---- 30: c hears it: its view is settled
abbrev ruled_30 : State
ruled_30 = record c_27 { membership = record c_27.membership { gossip = known_29 (a_1 ∷ c_1 ∷ []); moved = true }; steps = 6 }

abbrev pub c_30 : State
c_30 = record ruled_30 { membership = record ruled_30.membership { shown = table ((a_1, 2) ∷ (b_1, 6) ∷ []); moved = false; detector = table ((a_1, 0) ∷ []); settled = settled_as (known_29 []) } }

abbrev pub does_30 : List Action
does_30 = Send (packet c_1 a_1 (message.Gossip (known_29 (a_1 ∷ c_1 ∷ [])))) ∷ View ∷ Settled ∷ []

pub step_30 : step (event.Packet packet_36) c_27 ≡ (c_30, does_30)
unfolding covers merged_tables union
step_30 =
    in_stages (event.Packet packet_36) c_27 ruled_30 c_30 c_30 (Send (packet c_1 a_1 (message.Gossip (known_29 (a_1 ∷ c_1 ∷ [])))) ∷ []) (View ∷ Settled ∷ []) [] refl refl
    (simp listed)
    (simp listed)
    refl
    refl

-- ---- 31: a tick of c: a is asked
abbrev pub packet_39 : Envelope
packet_39 = packet c_1 a_1 (message.Ask (ballot 2 c_1))

abbrev ticked_31 : MembershipState
ticked_31 = record c_30.membership { ticks = 1; stable = 1; detector = table ((a_1, 1) ∷ []) }

abbrev pub c_31 : State
c_31 = record c_30 { membership = ticked_31; singleton = record c_30.singleton { promise = record { last = Some (ballot 2 c_1); released = false; floor = table [] }; phase = phase.Asking; live = Some (ballot 2 c_1); granted = set (c_1 ∷ []); floor = table ((a_1, 2) ∷ (b_1, 6) ∷ []) }; sharding = begins_table c_1 c_30.sharding; steps = 7 }

abbrev pub does_31 : List Action
does_31 = Send (packet c_1 a_1 message.Heartbeat) ∷ Send packet_39 ∷ []

pub step_31 : step (event.Tick 0) c_30 ≡ (c_31, does_31)
unfolding covers merged_tables union
step_31 =
    in_stages (event.Tick 0) c_30 c_31 c_31 c_31 (Send (packet c_1 a_1 message.Heartbeat) ∷ Send packet_39 ∷ []) [] [] refl refl
    (in_ticks 0 (record c_30 { steps = 7 }) c_31 ticked_31 (record { number = None; effects = []; reply = Nothing }) (Send (packet c_1 a_1 message.Heartbeat) ∷ []) (Send packet_39 ∷ []) (simp listed) (simp listed) (simp listed)
    (in_going 0 (record c_30 { membership = ticked_31; steps = 7 }) c_31 (Send packet_39 ∷ []) [] (simp listed) (simp listed) (simp listed) refl refl (simp listed)))
    (simp listed)
    refl
    (simp listed)

-- ---- 32: a grants
abbrev pub packet_40 : Envelope
packet_40 = packet a_1 c_1 (message.Granted (ballot 2 c_1) (table ((a_1, 1) ∷ (b_1, 6) ∷ [])) [])

abbrev pub a_32 : State
a_32 = record a_29 { singleton = record a_29.singleton { promise = record { last = Some (ballot 2 c_1); released = false; floor = table [] } }; steps = 8 }

abbrev pub does_32 : List Action
does_32 = Send packet_40 ∷ []

pub step_32 : step (event.Packet packet_39) a_29 ≡ (a_32, does_32)
unfolding covers merged_tables union
step_32 =
    in_stages (event.Packet packet_39) a_29 a_32 a_32 a_32 (Send packet_40 ∷ []) [] [] refl refl
    (simp listed)
    (simp listed)
    refl
    refl

-- ---- 33: c hears it, and is active
abbrev ruled_33 : State
ruled_33 = record c_31 { singleton = record c_31.singleton { granted = set (a_1 ∷ c_1 ∷ []) }; steps = 8 }

abbrev pub c_33 : State
c_33 = record ruled_33 { singleton = record ruled_33.singleton { phase = phase.Active } }

abbrev pub does_33 : List Action
does_33 = Active 2 ∷ []

pub step_33 : step (event.Packet packet_40) c_31 ≡ (c_33, does_33)
unfolding covers merged_tables union
step_33 =
    in_stages (event.Packet packet_40) c_31 ruled_33 ruled_33 c_33 [] [] (Active 2 ∷ []) refl refl
    (simp listed)
    (simp listed)
    refl
    (simp listed)
