-- The worlds of the run in which an activity passes.
use Rattle.std.proofs.Common.{[], ◌∷◌, refl, true, take, ap, Ok}
use Rattle.ak_schedule.specs.declared.event.Event.TheVariants.{Start, Found, Join, Tick, Deliver, Leave}
use Rattle.ak_node.specs.Node.{started}
use Rattle.ak_world.specs.Worked.{at_b, a_1, b_1, c_1, three, passing}
use Rattle.ak_world.specs.World.{WorldState, Done, empty_world, starts, stepped}
use Rattle.ak_world.proofs.WorkedFirst.{b_4, does_4, step_4, c_5, does_5, step_5, b_6, does_6, step_6, a_7, does_7, step_7, b_8, does_8, step_8, b_9, does_9, step_9, b_10, does_10, step_10, c_11, does_11, step_11, b_12, does_12, step_12, b_13, does_13, step_13, c_14, does_14, step_14, b_15, does_15, step_15}
use Rattle.ak_world.proofs.WorkedSecond.{b_16, does_16, step_16, b_17, does_17, step_17, c_18, does_18, step_18, b_19, does_19, step_19, b_20, does_20, step_20, a_21, does_21, step_21, a_22, does_22, step_22, b_23, does_23, step_23, b_24, does_24, step_24, a_25, does_25, step_25, a_26, does_26, step_26, c_27, does_27, step_27, a_28, does_28, step_28, a_29, does_29, step_29, c_30, does_30, step_30, c_31, does_31, step_31, a_32, does_32, step_32, c_33, does_33, step_33}
use Rattle.ak_world.proofs.WorkedLemmas.{Comes, comes_first, comes_next}

abbrev world_0 : WorldState
world_0 = record empty_world { nodes = started b_1 three ∷ started c_1 three ∷ started a_1 three ∷ [] }

comes_3 : Comes three (take 3 passing) world_0
comes_3 =
    comes_next three (take 2 passing) (record empty_world { nodes = started b_1 three ∷ started c_1 three ∷ [] }) (Start a_1) (starts three a_1 (record empty_world { nodes = started b_1 three ∷ started c_1 three ∷ [] })) refl refl
    (comes_next three (take 1 passing) (record empty_world { nodes = started b_1 three ∷ [] }) (Start c_1) (starts three c_1 (record empty_world { nodes = started b_1 three ∷ [] })) refl refl
    (comes_next three (take 0 passing) empty_world (Start b_1) (starts three b_1 empty_world) refl refl
    (comes_first three)))

-- ---- 4: b founds
abbrev done_4 : Done
done_4 = stepped 0 (b_4, does_4) (record world_0 { founded = true })

pub comes_4 : Comes three (take 4 passing) done_4.world
comes_4 = comes_next three (take 3 passing) world_0 (Found b_1) done_4 (ap (λ o. Ok (stepped 0 o (record world_0 { founded = true }))) step_4) refl comes_3

-- ---- 5: c asks to join
abbrev done_5 : Done
done_5 = stepped 1 (c_5, does_5) done_4.world

comes_5 : Comes three (take 5 passing) done_5.world
comes_5 = comes_next three (take 4 passing) done_4.world (Join c_1 at_b) done_5 (ap (λ o. Ok (stepped 1 o done_4.world)) step_5) refl comes_4

-- ---- 6: b hears it, and welcomes c
abbrev done_6 : Done
done_6 = stepped 0 (b_6, does_6) done_5.world

comes_6 : Comes three (take 6 passing) done_6.world
comes_6 = comes_next three (take 5 passing) done_5.world (Deliver 1) done_6 (ap (λ o. Ok (stepped 0 o done_5.world)) step_6) refl comes_5

-- ---- 7: a asks to join
abbrev done_7 : Done
done_7 = stepped 2 (a_7, does_7) done_6.world

comes_7 : Comes three (take 7 passing) done_7.world
comes_7 = comes_next three (take 6 passing) done_6.world (Join a_1 at_b) done_7 (ap (λ o. Ok (stepped 2 o done_6.world)) step_7) refl comes_6

-- ---- 8: a tick of b: b and c come Up
abbrev done_8 : Done
done_8 = stepped 0 (b_8, does_8) done_7.world

comes_8 : Comes three (take 8 passing) done_8.world
comes_8 = comes_next three (take 7 passing) done_7.world (Tick b_1 0) done_8 (ap (λ o. Ok (stepped 0 o done_7.world)) step_8) refl comes_7

-- ---- 9: b hears a, and welcomes it
abbrev done_9 : Done
done_9 = stepped 0 (b_9, does_9) done_8.world

comes_9 : Comes three (take 9 passing) done_9.world
comes_9 = comes_next three (take 8 passing) done_8.world (Deliver 3) done_9 (ap (λ o. Ok (stepped 0 o done_8.world)) step_9) refl comes_8

-- ---- 10: a tick of b: it gossips to c
abbrev done_10 : Done
done_10 = stepped 0 (b_10, does_10) done_9.world

comes_10 : Comes three (take 10 passing) done_10.world
comes_10 = comes_next three (take 9 passing) done_9.world (Tick b_1 1) done_10 (ap (λ o. Ok (stepped 0 o done_9.world)) step_10) refl comes_9

-- ---- 11: c hears it, and answers: its view is settled
abbrev done_11 : Done
done_11 = stepped 1 (c_11, does_11) done_10.world

comes_11 : Comes three (take 11 passing) done_11.world
comes_11 = comes_next three (take 10 passing) done_10.world (Deliver 8) done_11 (ap (λ o. Ok (stepped 1 o done_10.world)) step_11) refl comes_10

-- ---- 12: so is that of b
abbrev done_12 : Done
done_12 = stepped 0 (b_12, does_12) done_11.world

comes_12 : Comes three (take 12 passing) done_12.world
comes_12 = comes_next three (take 11 passing) done_11.world (Deliver 9) done_12 (ap (λ o. Ok (stepped 0 o done_11.world)) step_12) refl comes_11

-- ---- 13: a tick of b: a comes Up, and c is asked
abbrev done_13 : Done
done_13 = stepped 0 (b_13, does_13) done_12.world

comes_13 : Comes three (take 13 passing) done_13.world
comes_13 = comes_next three (take 12 passing) done_12.world (Tick b_1 0) done_13 (ap (λ o. Ok (stepped 0 o done_12.world)) step_13) refl comes_12

-- ---- 14: c grants
abbrev done_14 : Done
done_14 = stepped 1 (c_14, does_14) done_13.world

comes_14 : Comes three (take 14 passing) done_14.world
comes_14 = comes_next three (take 13 passing) done_13.world (Deliver 12) done_14 (ap (λ o. Ok (stepped 1 o done_13.world)) step_14) refl comes_13

-- ---- 15: b hears it, and is active
abbrev pub done_15 : Done
done_15 = stepped 0 (b_15, does_15) done_14.world

pub comes_15 : Comes three (take 15 passing) done_15.world
comes_15 = comes_next three (take 14 passing) done_14.world (Deliver 14) done_15 (ap (λ o. Ok (stepped 0 o done_14.world)) step_15) refl comes_14

-- ---- 16: b leaves
abbrev done_16 : Done
done_16 = stepped 0 (b_16, does_16) done_15.world

comes_16 : Comes three (take 16 passing) done_16.world
comes_16 = comes_next three (take 15 passing) done_15.world (Leave b_1 b_1) done_16 (ap (λ o. Ok (stepped 0 o done_15.world)) step_16) refl comes_15

-- ---- 17: a tick of b: it gossips to c
abbrev done_17 : Done
done_17 = stepped 0 (b_17, does_17) done_16.world

comes_17 : Comes three (take 17 passing) done_17.world
comes_17 = comes_next three (take 16 passing) done_16.world (Tick b_1 1) done_17 (ap (λ o. Ok (stepped 0 o done_16.world)) step_17) refl comes_16

-- ---- 18: c hears it, and answers
abbrev done_18 : Done
done_18 = stepped 1 (c_18, does_18) done_17.world

comes_18 : Comes three (take 18 passing) done_18.world
comes_18 = comes_next three (take 17 passing) done_17.world (Deliver 17) done_18 (ap (λ o. Ok (stepped 1 o done_17.world)) step_18) refl comes_17

-- ---- 19: b hears the answer
abbrev done_19 : Done
done_19 = stepped 0 (b_19, does_19) done_18.world

comes_19 : Comes three (take 19 passing) done_19.world
comes_19 = comes_next three (take 18 passing) done_18.world (Deliver 18) done_19 (ap (λ o. Ok (stepped 0 o done_18.world)) step_19) refl comes_18

-- ---- 20: b hears once more that a joins, and welcomes it again
abbrev done_20 : Done
done_20 = stepped 0 (b_20, does_20) done_19.world

comes_20 : Comes three (take 20 passing) done_20.world
comes_20 = comes_next three (take 19 passing) done_19.world (Deliver 3) done_20 (ap (λ o. Ok (stepped 0 o done_19.world)) step_20) refl comes_19

-- ---- 21: a hears it: its view is settled
abbrev done_21 : Done
done_21 = stepped 2 (a_21, does_21) done_20.world

comes_21 : Comes three (take 21 passing) done_21.world
comes_21 = comes_next three (take 20 passing) done_20.world (Deliver 19) done_21 (ap (λ o. Ok (stepped 2 o done_20.world)) step_21) refl comes_20

-- ---- 22: a tick of a, which leads: b exits
abbrev done_22 : Done
done_22 = stepped 2 (a_22, does_22) done_21.world

comes_22 : Comes three (take 22 passing) done_22.world
comes_22 = comes_next three (take 21 passing) done_21.world (Tick a_1 0) done_22 (ap (λ o. Ok (stepped 2 o done_21.world)) step_22) refl comes_21

-- ---- 23: b hears it
abbrev done_23 : Done
done_23 = stepped 0 (b_23, does_23) done_22.world

comes_23 : Comes three (take 23 passing) done_23.world
comes_23 = comes_next three (take 22 passing) done_22.world (Deliver 23) done_23 (ap (λ o. Ok (stepped 0 o done_22.world)) step_23) refl comes_22

-- ---- 24: a tick of b: it ends its activity, says that it stops, and stops
abbrev done_24 : Done
done_24 = stepped 0 (b_24, does_24) done_23.world

comes_24 : Comes three (take 24 passing) done_24.world
comes_24 = comes_next three (take 23 passing) done_23.world (Tick b_1 0) done_24 (ap (λ o. Ok (stepped 0 o done_23.world)) step_24) refl comes_23

-- ---- 25: a hears that b stops
abbrev done_25 : Done
done_25 = stepped 2 (a_25, does_25) done_24.world

comes_25 : Comes three (take 25 passing) done_25.world
comes_25 = comes_next three (take 24 passing) done_24.world (Deliver 28) done_25 (ap (λ o. Ok (stepped 2 o done_24.world)) step_25) refl comes_24

-- ---- 26: a tick of a: it gossips to c
abbrev done_26 : Done
done_26 = stepped 2 (a_26, does_26) done_25.world

comes_26 : Comes three (take 26 passing) done_26.world
comes_26 = comes_next three (take 25 passing) done_25.world (Tick a_1 1) done_26 (ap (λ o. Ok (stepped 2 o done_25.world)) step_26) refl comes_25

-- ---- 27: c hears it, and answers
abbrev done_27 : Done
done_27 = stepped 1 (c_27, does_27) done_26.world

comes_27 : Comes three (take 27 passing) done_27.world
comes_27 = comes_next three (take 26 passing) done_26.world (Deliver 32) done_27 (ap (λ o. Ok (stepped 1 o done_26.world)) step_27) refl comes_26

-- ---- 28: a hears the answer: its view is settled
abbrev done_28 : Done
done_28 = stepped 2 (a_28, does_28) done_27.world

comes_28 : Comes three (take 28 passing) done_28.world
comes_28 = comes_next three (take 27 passing) done_27.world (Deliver 33) done_28 (ap (λ o. Ok (stepped 2 o done_27.world)) step_28) refl comes_27

-- ---- 29: a tick of a: b is removed
abbrev done_29 : Done
done_29 = stepped 2 (a_29, does_29) done_28.world

comes_29 : Comes three (take 29 passing) done_29.world
comes_29 = comes_next three (take 28 passing) done_28.world (Tick a_1 0) done_29 (ap (λ o. Ok (stepped 2 o done_28.world)) step_29) refl comes_28

-- ---- 30: c hears it: its view is settled
abbrev done_30 : Done
done_30 = stepped 1 (c_30, does_30) done_29.world

comes_30 : Comes three (take 30 passing) done_30.world
comes_30 = comes_next three (take 29 passing) done_29.world (Deliver 36) done_30 (ap (λ o. Ok (stepped 1 o done_29.world)) step_30) refl comes_29

-- ---- 31: a tick of c: a is asked
abbrev done_31 : Done
done_31 = stepped 1 (c_31, does_31) done_30.world

comes_31 : Comes three (take 31 passing) done_31.world
comes_31 = comes_next three (take 30 passing) done_30.world (Tick c_1 0) done_31 (ap (λ o. Ok (stepped 1 o done_30.world)) step_31) refl comes_30

-- ---- 32: a grants
abbrev done_32 : Done
done_32 = stepped 2 (a_32, does_32) done_31.world

comes_32 : Comes three (take 32 passing) done_32.world
comes_32 = comes_next three (take 31 passing) done_31.world (Deliver 39) done_32 (ap (λ o. Ok (stepped 2 o done_31.world)) step_32) refl comes_31

-- ---- 33: c hears it, and is active
abbrev pub done_33 : Done
done_33 = stepped 1 (c_33, does_33) done_32.world

pub comes_33 : Comes three (take 33 passing) done_33.world
comes_33 = comes_next three (take 32 passing) done_32.world (Deliver 40) done_33 (ap (λ o. Ok (stepped 1 o done_32.world)) step_33) refl comes_32
