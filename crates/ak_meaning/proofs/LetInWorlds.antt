-- The worlds of the run in which a member is let in.
use Rattle.std.proofs.Common.{[], ◌∷◌, refl, true, take, ap, Ok}
use Rattle.ak_schedule.specs.declared.event.Event.TheVariants.{Start, Found, Join, Tick, Deliver}
use Rattle.ak_node.specs.Node.{started}
use Rattle.ak_world.specs.Worked.{at_a, a_1, b_1, c_1}
use Rattle.ak_world.specs.World.{WorldState, Done, empty_world, starts, stepped}
use Rattle.ak_world.proofs.WorkedLemmas.{Comes, comes_first, comes_next}
use Rattle.ak_meaning.specs.LetIn.{lenient, letting_in}
use Rattle.ak_meaning.proofs.LetInSteps.{a_4, does_4, step_4, b_5, does_5, step_5, a_6, does_6, step_6, a_7, does_7, step_7, c_8, does_8, step_8, a_9, does_9, step_9, a_10, does_10, step_10, b_11, does_11, step_11, b_12, does_12, step_12, a_13, does_13, step_13, a_14, does_14, step_14}

abbrev world_0 : WorldState
world_0 = record empty_world { nodes = started a_1 lenient ∷ started b_1 lenient ∷ started c_1 lenient ∷ [] }

comes_3 : Comes lenient (take 3 letting_in) world_0
comes_3 =
    comes_next lenient (take 2 letting_in) (record empty_world { nodes = started a_1 lenient ∷ started b_1 lenient ∷ [] }) (Start c_1) (starts lenient c_1 (record empty_world { nodes = started a_1 lenient ∷ started b_1 lenient ∷ [] })) refl refl
    (comes_next lenient (take 1 letting_in) (record empty_world { nodes = started a_1 lenient ∷ [] }) (Start b_1) (starts lenient b_1 (record empty_world { nodes = started a_1 lenient ∷ [] })) refl refl
    (comes_next lenient (take 0 letting_in) empty_world (Start a_1) (starts lenient a_1 empty_world) refl refl
    (comes_first lenient)))

-- ---- 4: a founds
abbrev done_4 : Done
done_4 = stepped 0 (a_4, does_4) (record world_0 { founded = true })

comes_4 : Comes lenient (take 4 letting_in) done_4.world
comes_4 = comes_next lenient (take 3 letting_in) world_0 (Found a_1) done_4 (ap (λ o. Ok (stepped 0 o (record world_0 { founded = true }))) step_4) refl comes_3

-- ---- 5: b asks to join
abbrev done_5 : Done
done_5 = stepped 1 (b_5, does_5) done_4.world

comes_5 : Comes lenient (take 5 letting_in) done_5.world
comes_5 = comes_next lenient (take 4 letting_in) done_4.world (Join b_1 at_a) done_5 (ap (λ o. Ok (stepped 1 o done_4.world)) step_5) refl comes_4

-- ---- 6: a hears it, and welcomes b
abbrev done_6 : Done
done_6 = stepped 0 (a_6, does_6) done_5.world

comes_6 : Comes lenient (take 6 letting_in) done_6.world
comes_6 = comes_next lenient (take 5 letting_in) done_5.world (Deliver 1) done_6 (ap (λ o. Ok (stepped 0 o done_5.world)) step_6) refl comes_5

-- ---- 7: a tick of a: a and b come Up
abbrev done_7 : Done
done_7 = stepped 0 (a_7, does_7) done_6.world

comes_7 : Comes lenient (take 7 letting_in) done_7.world
comes_7 = comes_next lenient (take 6 letting_in) done_6.world (Tick a_1 0) done_7 (ap (λ o. Ok (stepped 0 o done_6.world)) step_7) refl comes_6

-- ---- 8: c asks to join
abbrev done_8 : Done
done_8 = stepped 2 (c_8, does_8) done_7.world

comes_8 : Comes lenient (take 8 letting_in) done_8.world
comes_8 = comes_next lenient (take 7 letting_in) done_7.world (Join c_1 at_a) done_8 (ap (λ o. Ok (stepped 2 o done_7.world)) step_8) refl comes_7

-- ---- 9: a hears it, and welcomes c
abbrev pub done_9 : Done
done_9 = stepped 0 (a_9, does_9) done_8.world

pub comes_9 : Comes lenient (take 9 letting_in) done_9.world
comes_9 = comes_next lenient (take 8 letting_in) done_8.world (Deliver 4) done_9 (ap (λ o. Ok (stepped 0 o done_8.world)) step_9) refl comes_8

-- ---- 10: a tick of a, whose view is not settled: c is let in, and a gossips to b
abbrev pub done_10 : Done
done_10 = stepped 0 (a_10, does_10) done_9.world

pub comes_10 : Comes lenient (take 10 letting_in) done_10.world
comes_10 = comes_next lenient (take 9 letting_in) done_9.world (Tick a_1 0) done_10 (ap (λ o. Ok (stepped 0 o done_9.world)) step_10) refl comes_9

-- ---- 11: b hears the welcome, and answers
abbrev done_11 : Done
done_11 = stepped 1 (b_11, does_11) done_10.world

comes_11 : Comes lenient (take 11 letting_in) done_11.world
comes_11 = comes_next lenient (take 10 letting_in) done_10.world (Deliver 2) done_11 (ap (λ o. Ok (stepped 1 o done_10.world)) step_11) refl comes_10

-- ---- 12: b hears the gossip, and answers: its view is settled
abbrev done_12 : Done
done_12 = stepped 1 (b_12, does_12) done_11.world

comes_12 : Comes lenient (take 12 letting_in) done_12.world
comes_12 = comes_next lenient (take 11 letting_in) done_11.world (Deliver 8) done_12 (ap (λ o. Ok (stepped 1 o done_11.world)) step_12) refl comes_11

-- ---- 13: so is that of a
abbrev pub done_13 : Done
done_13 = stepped 0 (a_13, does_13) done_12.world

pub comes_13 : Comes lenient (take 13 letting_in) done_13.world
comes_13 = comes_next lenient (take 12 letting_in) done_12.world (Deliver 10) done_13 (ap (λ o. Ok (stepped 0 o done_12.world)) step_13) refl comes_12

-- ---- 14: a tick of a: c comes Up, and b and c are asked
abbrev pub done_14 : Done
done_14 = stepped 0 (a_14, does_14) done_13.world

pub comes_14 : Comes lenient (take 14 letting_in) done_14.world
comes_14 = comes_next lenient (take 13 letting_in) done_13.world (Tick a_1 0) done_14 (ap (λ o. Ok (stepped 0 o done_13.world)) step_14) refl comes_13
