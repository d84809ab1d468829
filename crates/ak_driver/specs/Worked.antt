-- Two schedules and their texts, as they are worked by hand.
use Rattle.std.specs.Prelude.{ℕ, List, [], ◌∷◌, ◌++◌, codes}

-- lines with their ends
abbrev pub text_of : List (List ℕ) → List ℕ
text_of [] = []
text_of (line ∷ lines) = line ++ 10 ∷ text_of lines

-- the headers after the first two
abbrev pub and_limits : List (List ℕ) → List (List ℕ)
and_limits rest =
    codes "margin 2" ∷ codes "deadline 9" ∷ codes "stable 9" ∷ codes "shards 10" ∷ codes "buffer 2" ∷ codes "threshold 1" ∷ codes "limit 1" ∷ rest

-- no event
abbrev pub empty_schedule : List ℕ
empty_schedule = text_of (codes "listed a:1" ∷ codes "strategy static-quorum 1" ∷ and_limits [])

abbrev pub empty_text : List ℕ
empty_text = text_of (codes "steps 0" ∷ codes "packets 0" ∷ codes "history 0" ∷ codes "margin kept" ∷ codes "doubles none" ∷ [])

-- two nodes start, and one founds the cluster
abbrev pub founding_schedule : List ℕ
founding_schedule =
    text_of (codes "listed a:1 b:1" ∷ codes "strategy static-quorum 2"
    ∷ and_limits (codes "start a:1#1" ∷ codes "start b:1#1" ∷ codes "found a:1#1" ∷ []))

abbrev pub founding_text : List ℕ
founding_text =
    text_of (codes "1 start a:1#1" ∷ codes "2 start b:1#1"
    ∷ codes "3 found a:1#1" ∷ codes "  update 1 joined a:1#1" ∷ codes "  view a:1#1=1 | a:1#1 joining | -"
    ∷ codes "steps 3" ∷ codes "packets 0" ∷ codes "history 1" ∷ codes "margin kept" ∷ codes "doubles none" ∷ [])
