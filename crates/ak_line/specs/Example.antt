-- Two runs. In the first, of one process, it becomes active, hosts a shard, hands it off to itself and hosts it again. In the second,
-- of two, the first becomes active and gives a shard to the second; it ends and hands over, and the second becomes active.
use Rattle.std.specs.Prelude.{◌≡◌, ℕ, max, true, if◌then◌else◌, List, [], ◌∷◌, ◌++◌, Some, None}
use Rattle.ak_promise.specs.Ballot.{BallotModel}
use Rattle.ak_line.specs.Name.{Name, is_name}
use Rattle.ak_line.specs.Shards.{Mark, Home, Placement, unmarked, unplaced, put_at, own_placement, yielded}
use Rattle.ak_line.specs.Moves.{Trial, Phase, Move}
use Rattle.ak_line.specs.Numbers.{Ages, cluster_after}

abbrev pub me : Name
me = record { address = record { host = []; port = 0 }; uid = 0 }

-- this process alone ages, with version 1, and none is removed
abbrev pub alone : Ages
alone = record { aged = λ i. if is_name i me then Some 1 else None; removed = λ i. None }

abbrev pub first_ballot : BallotModel
first_ballot = record { term = 1; unique = me }

abbrev pub asking : Trial ℕ
asking = record { ballot = first_ballot; granted = me ∷ []; floor = max 0 1; opened = 1 }

abbrev pub here : ℕ → Home
here n = record { node = me; number = n }

abbrev pub moves : List (Move ℕ)
moves =
    Move.Start me ∷ Move.Note me 1 ∷ Move.Open me first_ballot ∷ Move.Activate me asking
    ∷ Move.Assign me asking 5 me ∷ Move.Order me asking 5 (here 1) ∷ Move.Host me first_ballot 5 1
    ∷ Move.Recall me asking 5 (here 1) ∷ Move.Yield me first_ballot 5 1 ∷ Move.Confirm me first_ballot 5 1 ∷ Move.Free me asking 5 (here 1)
    ∷ Move.Assign me asking 5 me ∷ Move.Order me asking 5 (here 2) ∷ Move.Host me first_ballot 5 2 ∷ []

-- ---- two processes
abbrev pub other : Name
other = record { address = record { host = []; port = 1 }; uid = 0 }

-- both age with version 1, and the first is removed with version 2
abbrev pub both : Ages
both = record {
  aged = λ i. if is_name i me then Some 1 else (if is_name i other then Some 1 else None);
  removed = λ i. if is_name i me then Some 2 else None;
}

-- the first's asking, once the other has granted
abbrev pub granted : Trial ℕ
granted = record { ballot = first_ballot; granted = other ∷ me ∷ []; floor = 1; opened = 1 }

abbrev pub there : ℕ → Home
there n = record { node = other; number = n }

-- the first asks, and becomes active with the other's grant
abbrev pub rise : List (Move ℕ)
rise =
    Move.Start me ∷ Move.Start other ∷ Move.Note me 1 ∷ Move.Note other 1
    ∷ Move.Open me first_ballot ∷ Move.Solicit me asking ∷ Move.Promise other first_ballot ∷ Move.Repeat other first_ballot
    ∷ Move.Accept me asking other 1 unmarked unplaced ∷ Move.Activate me granted ∷ []

-- a shard is hosted at the first, stops there, and is hosted at the other
abbrev pub hand_off : List (Move ℕ)
hand_off =
    Move.Assign me granted 5 me ∷ Move.Order me granted 5 (here 1) ∷ Move.Host me first_ballot 5 1
    ∷ Move.Recall me granted 5 (here 1) ∷ Move.Yield me first_ballot 5 1 ∷ Move.Confirm me first_ballot 5 1 ∷ Move.Free me granted 5 (here 1)
    ∷ Move.Assign me granted 5 other ∷ Move.Order me granted 5 (there 2) ∷ Move.Host other first_ballot 5 2 ∷ []

abbrev pub second_ballot : BallotModel
second_ballot = record { term = 2; unique = other }

-- the other's asking, before and after the first's grant
abbrev pub asking_next : Trial ℕ
asking_next = record { ballot = second_ballot; granted = other ∷ []; floor = 1; opened = 1 }

abbrev pub granted_next : Trial ℕ
granted_next = record { ballot = second_ballot; granted = me ∷ other ∷ []; floor = 1; opened = 1 }

-- what the first reports of shards: it was told number 1 of this one, and has stopped it
abbrev pub reported : ℕ → Mark
reported = put_at 5 (yielded 1 (record { number = 1; hosts = true })) (put_at 5 (record { number = 1; hosts = true }) unmarked)

-- the other's table, of its own marks; that report teaches it nothing
abbrev pub own_table : ℕ → Placement
own_table s = own_placement other (put_at 5 (record { number = 2; hosts = true }) unmarked s)

-- the first ends, is asked to hand over, and does; the other passes that on, is free of its promise, asks, and becomes active
abbrev pub hand_over : List (Move ℕ)
hand_over =
    Move.Close me granted Phase.Ended ∷ Move.Say other first_ballot ∷ Move.HandOver me first_ballot
    ∷ Move.Pass other first_ballot 1 ∷ Move.Release other first_ballot 1
    ∷ Move.Open other second_ballot ∷ Move.Solicit other asking_next ∷ Move.Promise me second_ballot
    ∷ Move.Accept other asking_next me 1 reported own_table ∷ Move.Activate other granted_next ∷ []

-- the first stops, is removed, and is found finished
abbrev pub farewell : List (Move ℕ)
farewell = Move.Stop me ∷ Move.Note other 2 ∷ Move.Find other me ∷ []

abbrev pub passing : List (Move ℕ)
passing = rise ++ hand_off ++ hand_over ++ farewell

-- the process runs and is active after these moves
abbrev pub IsActiveAfter : Ages → List (Move ℕ) → Name → Type 0
IsActiveAfter ages moves x = (((cluster_after ages moves).node x).runs ≡ true) × (t : Trial ℕ) × (((cluster_after ages moves).node x).phase ≡ Phase.Active t)
