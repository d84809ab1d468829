-- The worlds of the run in which a shard moves.
use Rattle.std.proofs.Common.{[], ◌∷◌, refl, true, take, ap, Ok}
use Rattle.ak_schedule.specs.declared.event.Event.TheVariants.{Start, Found, Join, Tick, Deliver, Offer}
use Rattle.ak_node.specs.Node.{started}
use Rattle.ak_world.specs.Worked.{at_a, a_1, b_1, c_1}
use Rattle.ak_world.specs.World.{WorldState, Done, empty_world, starts, stepped}
use Rattle.ak_world.proofs.WorkedLemmas.{Comes, comes_first, comes_next}
use Rattle.ak_meaning.specs.Moved.{spread, cart, cup, tea, moving}
use Rattle.ak_meaning.proofs.MovedFirst.{a_4, does_4, step_4, b_5, does_5, step_5, a_6, does_6, step_6, c_7, does_7, step_7, a_8, does_8, step_8, a_9, does_9, step_9, a_10, does_10, step_10, b_11, does_11, step_11, a_12, does_12, step_12, a_13, does_13, step_13, a_14, does_14, step_14, a_15, does_15, step_15, a_16, does_16, step_16, b_17, does_17, step_17, a_18, does_18, step_18, a_19, does_19, step_19, a_20, does_20, step_20, a_21, does_21, step_21, a_22, does_22, step_22}
use Rattle.ak_meaning.proofs.MovedSecond.{b_23, does_23, step_23, a_24, does_24, step_24, a_25, does_25, step_25, c_26, does_26, step_26, a_27, does_27, step_27, a_28, does_28, step_28, c_29, does_29, step_29, a_30, does_30, step_30, a_31, does_31, step_31, a_32, does_32, step_32, b_33, does_33, step_33, c_34, does_34, step_34, a_35, does_35, step_35, a_36, does_36, step_36, a_37, does_37, step_37, a_38, does_38, step_38, a_39, does_39, step_39, c_40, does_40, step_40, c_41, does_41, step_41}

abbrev world_0 : WorldState
world_0 = record empty_world { nodes = started a_1 spread ∷ started b_1 spread ∷ started c_1 spread ∷ [] }

comes_3 : Comes spread (take 3 moving) world_0
comes_3 =
    comes_next spread (take 2 moving) (record empty_world { nodes = started a_1 spread ∷ started b_1 spread ∷ [] }) (Start c_1) (starts spread c_1 (record empty_world { nodes = started a_1 spread ∷ started b_1 spread ∷ [] })) refl refl
    (comes_next spread (take 1 moving) (record empty_world { nodes = started a_1 spread ∷ [] }) (Start b_1) (starts spread b_1 (record empty_world { nodes = started a_1 spread ∷ [] })) refl refl
    (comes_next spread (take 0 moving) empty_world (Start a_1) (starts spread a_1 empty_world) refl refl
    (comes_first spread)))

-- ---- 4: a founds
abbrev done_4 : Done
done_4 = stepped 0 (a_4, does_4) (record world_0 { founded = true })

comes_4 : Comes spread (take 4 moving) done_4.world
comes_4 = comes_next spread (take 3 moving) world_0 (Found a_1) done_4 (ap (λ o. Ok (stepped 0 o (record world_0 { founded = true }))) step_4) refl comes_3

-- ---- 5: b asks to join
abbrev done_5 : Done
done_5 = stepped 1 (b_5, does_5) done_4.world

comes_5 : Comes spread (take 5 moving) done_5.world
comes_5 = comes_next spread (take 4 moving) done_4.world (Join b_1 at_a) done_5 (ap (λ o. Ok (stepped 1 o done_4.world)) step_5) refl comes_4

-- ---- 6: a hears it, and welcomes b
abbrev done_6 : Done
done_6 = stepped 0 (a_6, does_6) done_5.world

comes_6 : Comes spread (take 6 moving) done_6.world
comes_6 = comes_next spread (take 5 moving) done_5.world (Deliver 1) done_6 (ap (λ o. Ok (stepped 0 o done_5.world)) step_6) refl comes_5

-- ---- 7: c asks to join
abbrev done_7 : Done
done_7 = stepped 2 (c_7, does_7) done_6.world

comes_7 : Comes spread (take 7 moving) done_7.world
comes_7 = comes_next spread (take 6 moving) done_6.world (Join c_1 at_a) done_7 (ap (λ o. Ok (stepped 2 o done_6.world)) step_7) refl comes_6

-- ---- 8: a tick of a: a and b come Up
abbrev done_8 : Done
done_8 = stepped 0 (a_8, does_8) done_7.world

comes_8 : Comes spread (take 8 moving) done_8.world
comes_8 = comes_next spread (take 7 moving) done_7.world (Tick a_1 0) done_8 (ap (λ o. Ok (stepped 0 o done_7.world)) step_8) refl comes_7

-- ---- 9: a hears c, and welcomes it
abbrev done_9 : Done
done_9 = stepped 0 (a_9, does_9) done_8.world

comes_9 : Comes spread (take 9 moving) done_9.world
comes_9 = comes_next spread (take 8 moving) done_8.world (Deliver 3) done_9 (ap (λ o. Ok (stepped 0 o done_8.world)) step_9) refl comes_8

-- ---- 10: a hears once more that b joins, and welcomes it again
abbrev done_10 : Done
done_10 = stepped 0 (a_10, does_10) done_9.world

comes_10 : Comes spread (take 10 moving) done_10.world
comes_10 = comes_next spread (take 9 moving) done_9.world (Deliver 1) done_10 (ap (λ o. Ok (stepped 0 o done_9.world)) step_10) refl comes_9

-- ---- 11: b hears it, and answers: its view is settled
abbrev done_11 : Done
done_11 = stepped 1 (b_11, does_11) done_10.world

comes_11 : Comes spread (take 11 moving) done_11.world
comes_11 = comes_next spread (take 10 moving) done_10.world (Deliver 6) done_11 (ap (λ o. Ok (stepped 1 o done_10.world)) step_11) refl comes_10

-- ---- 12: so is that of a
abbrev done_12 : Done
done_12 = stepped 0 (a_12, does_12) done_11.world

comes_12 : Comes spread (take 12 moving) done_12.world
comes_12 = comes_next spread (take 11 moving) done_11.world (Deliver 7) done_12 (ap (λ o. Ok (stepped 0 o done_11.world)) step_12) refl comes_11

-- ---- 13: a message for the cart waits
abbrev done_13 : Done
done_13 = stepped 0 (a_13, does_13) done_12.world

comes_13 : Comes spread (take 13 moving) done_13.world
comes_13 = comes_next spread (take 12 moving) done_12.world (Offer a_1 cart 1) done_13 (ap (λ o. Ok (stepped 0 o done_12.world)) step_13) refl comes_12

-- ---- 14: and one for the cup
abbrev done_14 : Done
done_14 = stepped 0 (a_14, does_14) done_13.world

comes_14 : Comes spread (take 14 moving) done_14.world
comes_14 = comes_next spread (take 13 moving) done_13.world (Offer a_1 cup 2) done_14 (ap (λ o. Ok (stepped 0 o done_13.world)) step_14) refl comes_13

-- ---- 15: and one for the tea
abbrev done_15 : Done
done_15 = stepped 0 (a_15, does_15) done_14.world

comes_15 : Comes spread (take 15 moving) done_15.world
comes_15 = comes_next spread (take 14 moving) done_14.world (Offer a_1 tea 3) done_15 (ap (λ o. Ok (stepped 0 o done_14.world)) step_15) refl comes_14

-- ---- 16: a tick of a: c comes Up, b is asked, and three homes
abbrev done_16 : Done
done_16 = stepped 0 (a_16, does_16) done_15.world

comes_16 : Comes spread (take 16 moving) done_16.world
comes_16 = comes_next spread (take 15 moving) done_15.world (Tick a_1 0) done_16 (ap (λ o. Ok (stepped 0 o done_15.world)) step_16) refl comes_15

-- ---- 17: b grants
abbrev done_17 : Done
done_17 = stepped 1 (b_17, does_17) done_16.world

comes_17 : Comes spread (take 17 moving) done_17.world
comes_17 = comes_next spread (take 16 moving) done_16.world (Deliver 10) done_17 (ap (λ o. Ok (stepped 1 o done_16.world)) step_17) refl comes_16

-- ---- 18: a hears it, and is active
abbrev done_18 : Done
done_18 = stepped 0 (a_18, does_18) done_17.world

comes_18 : Comes spread (take 18 moving) done_18.world
comes_18 = comes_next spread (take 17 moving) done_17.world (Deliver 15) done_18 (ap (λ o. Ok (stepped 0 o done_17.world)) step_18) refl comes_17

-- ---- 19: it places shard 0 at itself
abbrev done_19 : Done
done_19 = stepped 0 (a_19, does_19) done_18.world

comes_19 : Comes spread (take 19 moving) done_19.world
comes_19 = comes_next spread (take 18 moving) done_18.world (Deliver 11) done_19 (ap (λ o. Ok (stepped 0 o done_18.world)) step_19) refl comes_18

-- ---- 20: shard 1 at b
abbrev done_20 : Done
done_20 = stepped 0 (a_20, does_20) done_19.world

comes_20 : Comes spread (take 20 moving) done_20.world
comes_20 = comes_next spread (take 19 moving) done_19.world (Deliver 12) done_20 (ap (λ o. Ok (stepped 0 o done_19.world)) step_20) refl comes_19

-- ---- 21: and shard 2 at itself
abbrev done_21 : Done
done_21 = stepped 0 (a_21, does_21) done_20.world

comes_21 : Comes spread (take 21 moving) done_21.world
comes_21 = comes_next spread (take 20 moving) done_20.world (Deliver 13) done_21 (ap (λ o. Ok (stepped 0 o done_20.world)) step_21) refl comes_20

-- ---- 22: it hosts shard 0, and the cart starts
abbrev pub done_22 : Done
done_22 = stepped 0 (a_22, does_22) done_21.world

pub comes_22 : Comes spread (take 22 moving) done_22.world
comes_22 = comes_next spread (take 21 moving) done_21.world (Deliver 16) done_22 (ap (λ o. Ok (stepped 0 o done_21.world)) step_22) refl comes_21

-- ---- 23: b hears that c is Up, and answers
abbrev done_23 : Done
done_23 = stepped 1 (b_23, does_23) done_22.world

comes_23 : Comes spread (take 23 moving) done_23.world
comes_23 = comes_next spread (take 22 moving) done_22.world (Deliver 14) done_23 (ap (λ o. Ok (stepped 1 o done_22.world)) step_23) refl comes_22

-- ---- 24: a hears the answer
abbrev done_24 : Done
done_24 = stepped 0 (a_24, does_24) done_23.world

comes_24 : Comes spread (take 24 moving) done_24.world
comes_24 = comes_next spread (take 23 moving) done_23.world (Deliver 23) done_24 (ap (λ o. Ok (stepped 0 o done_23.world)) step_24) refl comes_23

-- ---- 25: a hears once more that c joins, and welcomes it again
abbrev done_25 : Done
done_25 = stepped 0 (a_25, does_25) done_24.world

comes_25 : Comes spread (take 25 moving) done_25.world
comes_25 = comes_next spread (take 24 moving) done_24.world (Deliver 3) done_25 (ap (λ o. Ok (stepped 0 o done_24.world)) step_25) refl comes_24

-- ---- 26: c hears it, and answers: its view is settled
abbrev done_26 : Done
done_26 = stepped 2 (c_26, does_26) done_25.world

comes_26 : Comes spread (take 26 moving) done_26.world
comes_26 = comes_next spread (take 25 moving) done_25.world (Deliver 24) done_26 (ap (λ o. Ok (stepped 2 o done_25.world)) step_26) refl comes_25

-- ---- 27: so is that of a
abbrev done_27 : Done
done_27 = stepped 0 (a_27, does_27) done_26.world

comes_27 : Comes spread (take 27 moving) done_27.world
comes_27 = comes_next spread (take 26 moving) done_26.world (Deliver 25) done_27 (ap (λ o. Ok (stepped 0 o done_26.world)) step_27) refl comes_26

-- ---- 28: a tick of a: c is asked, and the orders are given again
abbrev done_28 : Done
done_28 = stepped 0 (a_28, does_28) done_27.world

comes_28 : Comes spread (take 28 moving) done_28.world
comes_28 = comes_next spread (take 27 moving) done_27.world (Tick a_1 0) done_28 (ap (λ o. Ok (stepped 0 o done_27.world)) step_28) refl comes_27

-- ---- 29: c grants
abbrev done_29 : Done
done_29 = stepped 2 (c_29, does_29) done_28.world

comes_29 : Comes spread (take 29 moving) done_29.world
comes_29 = comes_next spread (take 28 moving) done_28.world (Deliver 28) done_29 (ap (λ o. Ok (stepped 2 o done_28.world)) step_29) refl comes_28

-- ---- 30: a hears it
abbrev done_30 : Done
done_30 = stepped 0 (a_30, does_30) done_29.world

comes_30 : Comes spread (take 30 moving) done_30.world
comes_30 = comes_next spread (take 29 moving) done_29.world (Deliver 35) done_30 (ap (λ o. Ok (stepped 0 o done_29.world)) step_30) refl comes_29

-- ---- 31: a tick of a: shard 0 begins to move
abbrev done_31 : Done
done_31 = stepped 0 (a_31, does_31) done_30.world

comes_31 : Comes spread (take 31 moving) done_31.world
comes_31 = comes_next spread (take 30 moving) done_30.world (Tick a_1 0) done_31 (ap (λ o. Ok (stepped 0 o done_30.world)) step_31) refl comes_30

-- ---- 32: a holds it
abbrev done_32 : Done
done_32 = stepped 0 (a_32, does_32) done_31.world

comes_32 : Comes spread (take 32 moving) done_32.world
comes_32 = comes_next spread (take 31 moving) done_31.world (Deliver 38) done_32 (ap (λ o. Ok (stepped 0 o done_31.world)) step_32) refl comes_31

-- ---- 33: b holds it
abbrev done_33 : Done
done_33 = stepped 1 (b_33, does_33) done_32.world

comes_33 : Comes spread (take 33 moving) done_33.world
comes_33 = comes_next spread (take 32 moving) done_32.world (Deliver 39) done_33 (ap (λ o. Ok (stepped 1 o done_32.world)) step_33) refl comes_32

-- ---- 34: c holds it
abbrev done_34 : Done
done_34 = stepped 2 (c_34, does_34) done_33.world

comes_34 : Comes spread (take 34 moving) done_34.world
comes_34 = comes_next spread (take 33 moving) done_33.world (Deliver 40) done_34 (ap (λ o. Ok (stepped 2 o done_33.world)) step_34) refl comes_33

-- ---- 35: a has answered
abbrev done_35 : Done
done_35 = stepped 0 (a_35, does_35) done_34.world

comes_35 : Comes spread (take 35 moving) done_35.world
comes_35 = comes_next spread (take 34 moving) done_34.world (Deliver 45) done_35 (ap (λ o. Ok (stepped 0 o done_34.world)) step_35) refl comes_34

-- ---- 36: b has answered
abbrev done_36 : Done
done_36 = stepped 0 (a_36, does_36) done_35.world

comes_36 : Comes spread (take 36 moving) done_36.world
comes_36 = comes_next spread (take 35 moving) done_35.world (Deliver 46) done_36 (ap (λ o. Ok (stepped 0 o done_35.world)) step_36) refl comes_35

-- ---- 37: c has answered, and a is to hand it off
abbrev done_37 : Done
done_37 = stepped 0 (a_37, does_37) done_36.world

comes_37 : Comes spread (take 37 moving) done_37.world
comes_37 = comes_next spread (take 36 moving) done_36.world (Deliver 47) done_37 (ap (λ o. Ok (stepped 0 o done_36.world)) step_37) refl comes_36

-- ---- 38: a hands it off, and the cart ends
abbrev done_38 : Done
done_38 = stepped 0 (a_38, does_38) done_37.world

comes_38 : Comes spread (take 38 moving) done_38.world
comes_38 = comes_next spread (take 37 moving) done_37.world (Deliver 48) done_38 (ap (λ o. Ok (stepped 0 o done_37.world)) step_38) refl comes_37

-- ---- 39: the shard is placed at c
abbrev done_39 : Done
done_39 = stepped 0 (a_39, does_39) done_38.world

comes_39 : Comes spread (take 39 moving) done_39.world
comes_39 = comes_next spread (take 38 moving) done_38.world (Deliver 49) done_39 (ap (λ o. Ok (stepped 0 o done_38.world)) step_39) refl comes_38

-- ---- 40: c hosts it
abbrev done_40 : Done
done_40 = stepped 2 (c_40, does_40) done_39.world

comes_40 : Comes spread (take 40 moving) done_40.world
comes_40 = comes_next spread (take 39 moving) done_39.world (Deliver 50) done_40 (ap (λ o. Ok (stepped 2 o done_39.world)) step_40) refl comes_39

-- ---- 41: the cart starts there
abbrev pub done_41 : Done
done_41 = stepped 2 (c_41, does_41) done_40.world

pub comes_41 : Comes spread (take 41 moving) done_41.world
comes_41 = comes_next spread (take 40 moving) done_40.world (Offer c_1 cart 4) done_41 (ap (λ o. Ok (stepped 2 o done_40.world)) step_41) refl comes_40
