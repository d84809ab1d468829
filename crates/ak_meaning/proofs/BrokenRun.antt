-- The run whose margin is broken, event by event, as the definitions have it.
use Rattle.std.proofs.Common.{◌≡◌, ℕ, List, [], ◌∷◌, refl, Some, None, true, false, take, slice_get, ap, ◌∙◌, Ok}
use Rattle.ak_address.specs.Table.{merged_tables}
use Rattle.ak_address.specs.Unique.{UniqueModel}
use Rattle.ak_address.specs.Uniques.{union}
use Rattle.ak_clock.specs.Version.{covers}
use Rattle.ak_member.specs.declared.effect.Effect.TheVariants.{Joined, Rise, Removed, Observed}
use Rattle.ak_member.specs.declared.standing.Standing.{Standing}
use Rattle.ak_member.specs.declared.standing.Standing.TheVariants.{Member, Buried}
use Rattle.ak_member.specs.declared.status.Status.TheVariants.{Joining, Up, Down}
use Rattle.ak_gossip.specs.Gossip.{GossipState}
use Rattle.ak_membership.specs.declared.change.Reply.TheVariants.{Nothing}
use Rattle.ak_membership.specs.declared.state.MembershipState.{MembershipState}
use Rattle.ak_singleton.specs.declared.phase.Phase.TheVariants as phase
use Rattle.ak_settled.specs.SettledView.{SettledModel}
use Rattle.ak_wire.specs.declared.envelope.Envelope.{Envelope}
use Rattle.ak_wire.specs.declared.envelope.Message.TheVariants as message
use Rattle.ak_wire.specs.declared.action.Action.{Action}
use Rattle.ak_wire.specs.declared.action.Action.TheVariants.{Send, Update, View, Settled, Active, MarginEnd}
use Rattle.ak_node.specs.declared.node.State.{State}
use Rattle.ak_node.specs.declared.node.NodeEvent.TheVariants as event
use Rattle.ak_node.specs.Node.{started, step}
use Rattle.ak_schedule.specs.declared.event.Event.TheVariants.{Start, Found, Join, Tick, Deliver}
use Rattle.ak_schedule.specs.declared.event.Event.TheVariants as schedule
use Rattle.ak_sharding.specs.Coordinates.{begins_table}
use Rattle.ak_world.specs.Margin.{HasNumber, IsMargin, Runs}
use Rattle.ak_world.specs.Worked.{at_a, a_1, b_1}
use Rattle.ak_world.specs.World.{WorldState, Done, empty_world, starts, stepped, happens, run}
use Rattle.ak_world.specs.declared.margin.Margin.TheVariants.{Kept, Broken}
use Rattle.ak_world.proofs.ListedTables.{listed, table, set}
use Rattle.ak_world.proofs.MarginRuns.{mark_goes_on}
use Rattle.ak_world.proofs.StepStages.{in_stages, in_ticks, in_going}
use Rattle.ak_world.proofs.WorkedLemmas.{Comes, comes_first, comes_next, gossip_of, settled_as, ballot, packet}
use Rattle.ak_meaning.specs.Broken.{two, breaking}

-- what is known once a has found b silent
abbrev finding : List (UniqueModel × ℕ) → List (UniqueModel × Standing) → List UniqueModel → GossipState
finding counts standings seen =
    record {
      version = table counts;
      view = record { standings = table standings; rows = table ((a_1, record { number = 5; subjects = set (b_1 ∷ []) }) ∷ []) };
      seen = set seen;
    }

-- ---- 2: a founds
abbrev known_2 : List UniqueModel → GossipState
known_2 = gossip_of ((a_1, 1) ∷ []) ((a_1, Member Joining 0) ∷ [])

abbrev ruled_2 : State
ruled_2 = record (started a_1 two) { membership = record (started a_1 two).membership { gossip = known_2 (a_1 ∷ []); founder = true; moved = true }; steps = 1 }

abbrev a_2 : State
a_2 = record ruled_2 { membership = record ruled_2.membership { shown = table ((a_1, 1) ∷ []); moved = false } }

abbrev does_2 : List Action
does_2 = Update 1 (Joined a_1 ∷ []) ∷ View ∷ []

step_2 : step event.Found (started a_1 two) ≡ (a_2, does_2)
unfolding covers merged_tables union
step_2 =
    in_stages event.Found (started a_1 two) ruled_2 a_2 a_2 (Update 1 (Joined a_1 ∷ []) ∷ []) (View ∷ []) [] refl refl
    (simp listed)
    (simp listed)
    refl
    refl

-- ---- 3: a tick: it comes Up, and its view is settled
abbrev known_3 : List UniqueModel → GossipState
known_3 = gossip_of ((a_1, 2) ∷ []) ((a_1, Member Up 1) ∷ [])

abbrev ticked_3 : MembershipState
ticked_3 = record a_2.membership { gossip = known_3 (a_1 ∷ []); ticks = 1; stable = 1; moved = true }

abbrev ruled_3 : State
ruled_3 = record a_2 { membership = ticked_3; steps = 2 }

abbrev closed_3 : State
closed_3 = record ruled_3 { membership = record ruled_3.membership { shown = table ((a_1, 2) ∷ []); stable = 0; moved = false; settled = settled_as (known_3 []) } }

abbrev a_3 : State
a_3 = closed_3

abbrev does_3 : List Action
does_3 = Update 2 (Rise a_1 Up 1 ∷ []) ∷ View ∷ Settled ∷ []

step_3 : step (event.Tick 0) a_2 ≡ (a_3, does_3)
unfolding covers merged_tables union
step_3 =
    in_stages (event.Tick 0) a_2 ruled_3 closed_3 a_3 (Update 2 (Rise a_1 Up 1 ∷ []) ∷ []) (View ∷ Settled ∷ []) ([]) refl refl
    (in_ticks 0 (record a_2 { steps = 2 }) ruled_3 ticked_3 (record { number = Some 2; effects = Rise a_1 Up 1 ∷ []; reply = Nothing }) ([]) ([]) (simp listed) (simp listed) (simp listed)
    (in_going 0 (record a_2 { membership = ticked_3; steps = 2 }) ruled_3 ([]) [] (simp listed) (simp listed) (simp listed) refl refl (simp listed)))
    (simp listed)
    refl
    (simp listed)

-- ---- 5: b asks to join
abbrev packet_1 : Envelope
packet_1 = record { from = b_1; to = at_a; uid = 0; message = message.Join }

abbrev b_5 : State
b_5 = record (started b_1 two) { membership = record (started b_1 two).membership { target = Some at_a }; steps = 1 }

abbrev does_5 : List Action
does_5 = Send packet_1 ∷ []

step_5 : step (event.Join at_a) (started b_1 two) ≡ (b_5, does_5)
unfolding covers merged_tables union
step_5 =
    in_stages (event.Join at_a) (started b_1 two) b_5 b_5 b_5 (Send packet_1 ∷ []) [] [] refl refl
    (simp listed)
    (simp listed)
    refl
    refl

-- ---- 6: a hears it, and welcomes b
abbrev known_6 : List UniqueModel → GossipState
known_6 = gossip_of ((a_1, 3) ∷ []) ((a_1, Member Up 1) ∷ (b_1, Member Joining 0) ∷ [])

abbrev ruled_6 : State
ruled_6 = record a_3 { membership = record a_3.membership { gossip = known_6 (a_1 ∷ []); moved = true }; steps = 3 }

abbrev a_6 : State
a_6 = record ruled_6 { membership = record ruled_6.membership { shown = table ((a_1, 3) ∷ []); moved = false; detector = table ((b_1, 0) ∷ []); settled = settled_as (known_6 []) } }

abbrev does_6 : List Action
does_6 = Update 3 (Joined b_1 ∷ []) ∷ Send (packet a_1 b_1 (message.Welcome (known_6 (a_1 ∷ [])))) ∷ View ∷ Settled ∷ []

step_6 : step (event.Packet packet_1) a_3 ≡ (a_6, does_6)
unfolding covers merged_tables union
step_6 =
    in_stages (event.Packet packet_1) a_3 ruled_6 a_6 a_6 (Update 3 (Joined b_1 ∷ []) ∷ Send (packet a_1 b_1 (message.Welcome (known_6 (a_1 ∷ [])))) ∷ []) (View ∷ Settled ∷ []) [] refl refl
    (simp listed)
    (simp listed)
    refl
    refl

-- ---- 7: b is downed
abbrev known_7 : List UniqueModel → GossipState
known_7 = gossip_of ((a_1, 4) ∷ []) ((a_1, Member Up 1) ∷ (b_1, Member Down 0) ∷ [])

abbrev ruled_7 : State
ruled_7 = record a_6 { membership = record a_6.membership { gossip = known_7 (a_1 ∷ []); moved = true }; steps = 4 }

abbrev a_7 : State
a_7 = record ruled_7 { membership = record ruled_7.membership { shown = table ((a_1, 4) ∷ []); moved = false; settled = settled_as (known_7 []) } }

abbrev does_7 : List Action
does_7 = Update 4 (Rise b_1 Down 0 ∷ []) ∷ View ∷ Settled ∷ []

step_7 : step (event.Down b_1) a_6 ≡ (a_7, does_7)
unfolding covers merged_tables union
step_7 =
    in_stages (event.Down b_1) a_6 ruled_7 a_7 a_7 (Update 4 (Rise b_1 Down 0 ∷ []) ∷ []) (View ∷ Settled ∷ []) [] refl refl
    (simp listed)
    (simp listed)
    refl
    refl

-- ---- 8: a tick: a asks itself and b
abbrev ticked_8 : MembershipState
ticked_8 = record a_7.membership { ticks = 2; stable = 1; detector = table ((b_1, 1) ∷ []) }

abbrev ruled_8 : State
ruled_8 = record a_7 { membership = ticked_8; singleton = record a_7.singleton { promise = record { last = Some (ballot 1 a_1); released = false; floor = table [] }; phase = phase.Asking; live = Some (ballot 1 a_1); granted = set (a_1 ∷ []); floor = table ((a_1, 4) ∷ []) }; sharding = begins_table a_1 a_7.sharding; steps = 5 }

abbrev closed_8 : State
closed_8 = ruled_8

abbrev a_8 : State
a_8 = ruled_8

abbrev does_8 : List Action
does_8 = Send (packet a_1 b_1 message.Heartbeat) ∷ Send (packet a_1 b_1 (message.Ask (ballot 1 a_1))) ∷ []

step_8 : step (event.Tick 0) a_7 ≡ (a_8, does_8)
unfolding covers merged_tables union
step_8 =
    in_stages (event.Tick 0) a_7 ruled_8 closed_8 a_8 (Send (packet a_1 b_1 message.Heartbeat) ∷ Send (packet a_1 b_1 (message.Ask (ballot 1 a_1))) ∷ []) ([]) ([]) refl refl
    (in_ticks 0 (record a_7 { steps = 5 }) ruled_8 ticked_8 (record { number = None; effects = []; reply = Nothing }) (Send (packet a_1 b_1 message.Heartbeat) ∷ []) (Send (packet a_1 b_1 (message.Ask (ballot 1 a_1))) ∷ []) (simp listed) (simp listed) (simp listed)
    (in_going 0 (record a_7 { membership = ticked_8; steps = 5 }) ruled_8 (Send (packet a_1 b_1 (message.Ask (ballot 1 a_1))) ∷ []) [] (simp listed) (simp listed) (simp listed) refl refl (simp listed)))
    (simp listed)
    refl
    (simp listed)

-- ---- 9: a tick: it finds b silent
abbrev known_9 : List UniqueModel → GossipState
known_9 = finding ((a_1, 5) ∷ []) ((a_1, Member Up 1) ∷ (b_1, Member Down 0) ∷ [])

abbrev ticked_9 : MembershipState
ticked_9 = record a_8.membership { gossip = known_9 (a_1 ∷ []); ticks = 3; stable = 2; moved = true; detector = table ((b_1, 2) ∷ []) }

abbrev ruled_9 : State
ruled_9 = record a_8 { membership = ticked_9; steps = 6 }

abbrev closed_9 : State
closed_9 = record ruled_9 { membership = record ruled_9.membership { shown = table ((a_1, 5) ∷ []); stable = 0; moved = false; settled = settled_as (known_9 []) } }

abbrev a_9 : State
a_9 = closed_9

abbrev does_9 : List Action
does_9 = Send (packet a_1 b_1 message.Heartbeat) ∷ Update 5 (Observed (set (b_1 ∷ [])) ∷ []) ∷ Send (packet a_1 b_1 (message.Ask (ballot 1 a_1))) ∷ View ∷ Settled ∷ []

step_9 : step (event.Tick 0) a_8 ≡ (a_9, does_9)
unfolding covers merged_tables union
step_9 =
    in_stages (event.Tick 0) a_8 ruled_9 closed_9 a_9 (Send (packet a_1 b_1 message.Heartbeat) ∷ Update 5 (Observed (set (b_1 ∷ [])) ∷ []) ∷ Send (packet a_1 b_1 (message.Ask (ballot 1 a_1))) ∷ []) (View ∷ Settled ∷ []) ([]) refl refl
    (in_ticks 0 (record a_8 { steps = 6 }) ruled_9 ticked_9 (record { number = Some 5; effects = Observed (set (b_1 ∷ [])) ∷ []; reply = Nothing }) (Send (packet a_1 b_1 message.Heartbeat) ∷ []) (Send (packet a_1 b_1 (message.Ask (ballot 1 a_1))) ∷ []) (simp listed) (simp listed) (simp listed)
    (in_going 0 (record a_8 { membership = ticked_9; steps = 6 }) ruled_9 (Send (packet a_1 b_1 (message.Ask (ballot 1 a_1))) ∷ []) [] (simp listed) (simp listed) (simp listed) refl refl (simp listed)))
    (simp listed)
    refl
    (simp listed)

-- ---- 10: a tick: it removes b, and its view is settled
abbrev known_10 : List UniqueModel → GossipState
known_10 = finding ((a_1, 6) ∷ []) ((a_1, Member Up 1) ∷ (b_1, Buried false) ∷ [])

-- the settled view in which the tombstone of b has waited for so many ticks
abbrev waited : ℕ → List UniqueModel → SettledModel
waited ticks ended = record { view = Some (record { version = (known_10 []).version; standings = (known_10 []).view.standings; counters = table ((b_1, ticks) ∷ []) }); just_ended = ended }

abbrev ticked_10 : MembershipState
ticked_10 = record a_9.membership { gossip = known_10 (a_1 ∷ []); ticks = 4; stable = 1; moved = true }

abbrev ruled_10 : State
ruled_10 = record a_9 { membership = ticked_10; steps = 7 }

abbrev closed_10 : State
closed_10 = record ruled_10 { membership = record ruled_10.membership { shown = table ((a_1, 6) ∷ []); stable = 0; moved = false; detector = table []; settled = waited 0 [] } }

abbrev a_10 : State
a_10 = closed_10

abbrev does_10 : List Action
does_10 = Send (packet a_1 b_1 message.Heartbeat) ∷ Update 6 (Removed b_1 false ∷ []) ∷ Send (packet a_1 b_1 (message.Ask (ballot 1 a_1))) ∷ View ∷ Settled ∷ []

step_10 : step (event.Tick 0) a_9 ≡ (a_10, does_10)
unfolding covers merged_tables union
step_10 =
    in_stages (event.Tick 0) a_9 ruled_10 closed_10 a_10 (Send (packet a_1 b_1 message.Heartbeat) ∷ Update 6 (Removed b_1 false ∷ []) ∷ Send (packet a_1 b_1 (message.Ask (ballot 1 a_1))) ∷ []) (View ∷ Settled ∷ []) ([]) refl refl
    (in_ticks 0 (record a_9 { steps = 7 }) ruled_10 ticked_10 (record { number = Some 6; effects = Removed b_1 false ∷ []; reply = Nothing }) (Send (packet a_1 b_1 message.Heartbeat) ∷ []) (Send (packet a_1 b_1 (message.Ask (ballot 1 a_1))) ∷ []) (simp listed) (simp listed) (simp listed)
    (in_going 0 (record a_9 { membership = ticked_10; steps = 7 }) ruled_10 (Send (packet a_1 b_1 (message.Ask (ballot 1 a_1))) ∷ []) [] (simp listed) (simp listed) (simp listed) refl refl (simp listed)))
    (simp listed)
    refl
    (simp listed)

-- ---- 11: a tick: the margin of b ends, and a is active
abbrev ticked_11 : MembershipState
ticked_11 = record a_10.membership { ticks = 5; stable = 1; settled = waited 1 (b_1 ∷ []) }

abbrev ruled_11 : State
ruled_11 = record a_10 { membership = ticked_11; steps = 8 }

abbrev closed_11 : State
closed_11 = ruled_11

abbrev a_11 : State
a_11 = record ruled_11 { singleton = record ruled_11.singleton { phase = phase.Active } }

abbrev does_11 : List Action
does_11 = MarginEnd b_1 ∷ Active 1 ∷ []

step_11 : step (event.Tick 0) a_10 ≡ (a_11, does_11)
unfolding covers merged_tables union
step_11 =
    in_stages (event.Tick 0) a_10 ruled_11 closed_11 a_11 (MarginEnd b_1 ∷ []) ([]) (Active 1 ∷ []) refl refl
    (in_ticks 0 (record a_10 { steps = 8 }) ruled_11 ticked_11 (record { number = None; effects = []; reply = Nothing }) ([]) ([]) (simp listed) (simp listed) (simp listed)
    (in_going 0 (record a_10 { membership = ticked_11; steps = 8 }) ruled_11 ([]) [] (simp listed) (simp listed) (simp listed) refl refl (simp listed)))
    (simp listed)
    refl
    (simp listed)

-- ---- the worlds
abbrev world_1 : WorldState
world_1 = record empty_world { nodes = started a_1 two ∷ [] }

comes_1 : Comes two (take 1 breaking) world_1
comes_1 = comes_next two (take 0 breaking) empty_world (Start a_1) (starts two a_1 empty_world) refl refl (comes_first two)

abbrev done_2 : Done
done_2 = stepped 0 (a_2, does_2) (record world_1 { founded = true })

comes_2 : Comes two (take 2 breaking) done_2.world
comes_2 = comes_next two (take 1 breaking) world_1 (Found a_1) done_2 (ap (λ o. Ok (stepped 0 o (record world_1 { founded = true }))) step_2) refl comes_1

abbrev done_3 : Done
done_3 = stepped 0 (a_3, does_3) done_2.world

comes_3 : Comes two (take 3 breaking) done_3.world
comes_3 = comes_next two (take 2 breaking) done_2.world (Tick a_1 0) done_3 (ap (λ o. Ok (stepped 0 o done_2.world)) step_3) refl comes_2

abbrev world_4 : WorldState
world_4 = (starts two b_1 done_3.world).world

comes_4 : Comes two (take 4 breaking) world_4
comes_4 = comes_next two (take 3 breaking) done_3.world (Start b_1) (starts two b_1 done_3.world) refl refl comes_3

abbrev done_5 : Done
done_5 = stepped 1 (b_5, does_5) world_4

comes_5 : Comes two (take 5 breaking) done_5.world
comes_5 = comes_next two (take 4 breaking) world_4 (Join b_1 at_a) done_5 (ap (λ o. Ok (stepped 1 o world_4)) step_5) refl comes_4

abbrev done_6 : Done
done_6 = stepped 0 (a_6, does_6) done_5.world

comes_6 : Comes two (take 6 breaking) done_6.world
comes_6 = comes_next two (take 5 breaking) done_5.world (Deliver 1) done_6 (ap (λ o. Ok (stepped 0 o done_5.world)) step_6) refl comes_5

abbrev done_7 : Done
done_7 = stepped 0 (a_7, does_7) done_6.world

comes_7 : Comes two (take 7 breaking) done_7.world
comes_7 = comes_next two (take 6 breaking) done_6.world (schedule.Down a_1 b_1) done_7 (ap (λ o. Ok (stepped 0 o done_6.world)) step_7) refl comes_6

abbrev done_8 : Done
done_8 = stepped 0 (a_8, does_8) done_7.world

comes_8 : Comes two (take 8 breaking) done_8.world
comes_8 = comes_next two (take 7 breaking) done_7.world (Tick a_1 0) done_8 (ap (λ o. Ok (stepped 0 o done_7.world)) step_8) refl comes_7

abbrev done_9 : Done
done_9 = stepped 0 (a_9, does_9) done_8.world

comes_9 : Comes two (take 9 breaking) done_9.world
comes_9 = comes_next two (take 8 breaking) done_8.world (Tick a_1 0) done_9 (ap (λ o. Ok (stepped 0 o done_8.world)) step_9) refl comes_8

abbrev done_10 : Done
done_10 = stepped 0 (a_10, does_10) done_9.world

comes_10 : Comes two (take 10 breaking) done_10.world
comes_10 = comes_next two (take 9 breaking) done_9.world (Tick a_1 0) done_10 (ap (λ o. Ok (stepped 0 o done_9.world)) step_10) refl comes_9

abbrev done_11 : Done
done_11 = stepped 0 (a_11, does_11) done_10.world

did_11 : happens two (Tick a_1 0) (run two (take 10 breaking)) ≡ Ok done_11
did_11 = ap (happens two (Tick a_1 0)) comes_10.run_is ∙ ap (λ o. Ok (stepped 0 o done_10.world)) step_11

-- a finds the end of the margin of b, which runs
pub is_broken : IsMargin two breaking (Broken 11 0 1)
is_broken = mark_goes_on two (take 10 breaking) (Tick a_1 0) done_11 did_11 Kept comes_10.kept

-- who they are
pub finder_is : HasNumber (run two (take 10 breaking)).nodes 0 a_1
finder_is = record { node = a_10; at = ap (λ (w : WorldState). slice_get w.nodes 0) comes_10.run_is; is_who = refl }

pub member_is : HasNumber (run two (take 10 breaking)).nodes 1 b_1
member_is = record { node = b_5; at = ap (λ (w : WorldState). slice_get w.nodes 1) comes_10.run_is; is_who = refl }

pub member_runs : Runs (run two (take 10 breaking)).nodes b_1
member_runs = record { index = 1; node = b_5; at = ap (λ (w : WorldState). slice_get w.nodes 1) comes_10.run_is; is_who = refl; runs = refl }
