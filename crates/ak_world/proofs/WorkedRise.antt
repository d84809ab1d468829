-- The run in which a process becomes active alone, event by event, as the definitions have it.
use Rattle.std.proofs.Common.{◌≡◌, List, [], ◌∷◌, refl, Some, None, true, false, take, ap, Ok}
use Rattle.ak_address.specs.Table.{merged_tables}
use Rattle.ak_address.specs.Unique.{UniqueModel}
use Rattle.ak_address.specs.Uniques.{union}
use Rattle.ak_clock.specs.Version.{covers}
use Rattle.ak_member.specs.declared.effect.Effect.TheVariants.{Joined, Rise}
use Rattle.ak_member.specs.declared.standing.Standing.TheVariants.{Member}
use Rattle.ak_member.specs.declared.status.Status.TheVariants.{Joining, Up}
use Rattle.ak_gossip.specs.Gossip.{GossipState}
use Rattle.ak_membership.specs.declared.change.Reply.TheVariants.{Nothing}
use Rattle.ak_membership.specs.declared.state.MembershipState.{MembershipState}
use Rattle.ak_singleton.specs.declared.phase.Phase.TheVariants as phase
use Rattle.ak_wire.specs.declared.action.Action.{Action}
use Rattle.ak_wire.specs.declared.action.Action.TheVariants.{Update, View, Settled, Active}
use Rattle.ak_node.specs.declared.node.State.{State}
use Rattle.ak_node.specs.declared.node.NodeEvent.TheVariants as event
use Rattle.ak_node.specs.Node.{started, step}
use Rattle.ak_sharding.specs.Coordinates.{begins_table}
use Rattle.ak_schedule.specs.declared.event.Event.TheVariants.{Start, Found, Tick}
use Rattle.ak_world.specs.Worked.{a_1, alone, rise}
use Rattle.ak_world.specs.World.{WorldState, Done, empty_world, starts, stepped}
use Rattle.ak_world.proofs.WorkedLemmas.{Comes, comes_first, comes_next, gossip_of, settled_as, ballot}
use Rattle.ak_world.proofs.ListedTables.{listed, table, set}
use Rattle.ak_world.proofs.StepStages.{in_stages, in_ticks, in_going}

-- ---- 2: it founds
abbrev known_2 : List UniqueModel → GossipState
known_2 = gossip_of ((a_1, 1) ∷ []) ((a_1, Member Joining 0) ∷ [])

abbrev ruled_2 : State
ruled_2 = record (started a_1 alone) { membership = record (started a_1 alone).membership { gossip = known_2 (a_1 ∷ []); founder = true; moved = true }; steps = 1 }

abbrev pub a_2 : State
a_2 = record ruled_2 { membership = record ruled_2.membership { shown = table ((a_1, 1) ∷ []); moved = false } }

abbrev pub does_2 : List Action
does_2 = Update 1 (Joined a_1 ∷ []) ∷ View ∷ []

pub step_2 : step event.Found (started a_1 alone) ≡ (a_2, does_2)
unfolding covers merged_tables union
step_2 =
    in_stages event.Found (started a_1 alone) ruled_2 a_2 a_2 (Update 1 (Joined a_1 ∷ []) ∷ []) (View ∷ []) [] refl refl
    (simp listed)
    (simp listed)
    refl
    refl

-- ---- 3: a tick: it comes Up, and its view is settled
abbrev known_3 : List UniqueModel → GossipState
known_3 = gossip_of ((a_1, 2) ∷ []) ((a_1, Member Up 1) ∷ [])

abbrev ticked_3 : MembershipState
ticked_3 = record a_2.membership { gossip = known_3 (a_1 ∷ []); ticks = 1; stable = 1; moved = true }

abbrev ruled_3 : State
ruled_3 = record a_2 { membership = ticked_3; steps = 2 }

abbrev pub a_3 : State
a_3 = record ruled_3 { membership = record ruled_3.membership { shown = table ((a_1, 2) ∷ []); stable = 0; moved = false; settled = settled_as (known_3 []) } }

abbrev pub does_3 : List Action
does_3 = Update 2 (Rise a_1 Up 1 ∷ []) ∷ View ∷ Settled ∷ []

pub step_3 : step (event.Tick 0) a_2 ≡ (a_3, does_3)
unfolding covers merged_tables union
step_3 =
    in_stages (event.Tick 0) a_2 ruled_3 a_3 a_3 (Update 2 (Rise a_1 Up 1 ∷ []) ∷ []) (View ∷ Settled ∷ []) [] refl refl
    (in_ticks 0 (record a_2 { steps = 2 }) ruled_3 ticked_3 (record { number = Some 2; effects = Rise a_1 Up 1 ∷ []; reply = Nothing }) [] [] (simp listed) (simp listed) (simp listed)
    (in_going 0 (record a_2 { membership = ticked_3; steps = 2 }) ruled_3 [] [] (simp listed) (simp listed) (simp listed) refl refl (simp listed)))
    (simp listed)
    refl
    refl

-- ---- 4: a tick: it asks itself alone, and is active
abbrev ticked_4 : MembershipState
ticked_4 = record a_3.membership { ticks = 2; stable = 1 }

abbrev ruled_4 : State
ruled_4 = record a_3 { membership = ticked_4; singleton = record a_3.singleton { promise = record { last = Some (ballot 1 a_1); released = false; floor = table [] }; phase = phase.Asking; live = Some (ballot 1 a_1); granted = set (a_1 ∷ []); floor = table ((a_1, 2) ∷ []) }; sharding = begins_table a_1 a_3.sharding; steps = 3 }

abbrev pub a_4 : State
a_4 = record ruled_4 { singleton = record ruled_4.singleton { phase = phase.Active } }

abbrev pub does_4 : List Action
does_4 = Active 1 ∷ []

pub step_4 : step (event.Tick 0) a_3 ≡ (a_4, does_4)
unfolding covers merged_tables union
step_4 =
    in_stages (event.Tick 0) a_3 ruled_4 ruled_4 a_4 [] [] (Active 1 ∷ []) refl refl
    (in_ticks 0 (record a_3 { steps = 3 }) ruled_4 ticked_4 (record { number = None; effects = []; reply = Nothing }) [] [] (simp listed) (simp listed) (simp listed)
    (in_going 0 (record a_3 { membership = ticked_4; steps = 3 }) ruled_4 [] [] (simp listed) (simp listed) (simp listed) refl refl (simp listed)))
    (simp listed)
    refl
    (simp listed)

-- ---- the worlds
abbrev pub world_0 : WorldState
world_0 = record empty_world { nodes = started a_1 alone ∷ [] }

comes_1 : Comes alone (take 1 rise) world_0
comes_1 =
    comes_next alone (take 0 rise) empty_world (Start a_1) (starts alone a_1 empty_world) refl refl
    (comes_first alone)

-- 2
abbrev done_2 : Done
done_2 = stepped 0 (a_2, does_2) (record world_0 { founded = true })

comes_2 : Comes alone (take 2 rise) done_2.world
comes_2 = comes_next alone (take 1 rise) world_0 (Found a_1) done_2 (ap (λ o. Ok (stepped 0 o (record world_0 { founded = true }))) step_2) refl comes_1

-- 3
abbrev done_3 : Done
done_3 = stepped 0 (a_3, does_3) done_2.world

comes_3 : Comes alone (take 3 rise) done_3.world
comes_3 = comes_next alone (take 2 rise) done_2.world (Tick a_1 0) done_3 (ap (λ o. Ok (stepped 0 o done_2.world)) step_3) refl comes_2

-- 4
abbrev pub done_4 : Done
done_4 = stepped 0 (a_4, does_4) done_3.world

pub comes_4 : Comes alone (take 4 rise) done_4.world
comes_4 = comes_next alone (take 3 rise) done_3.world (Tick a_1 0) done_4 (ap (λ o. Ok (stepped 0 o done_3.world)) step_4) refl comes_3
