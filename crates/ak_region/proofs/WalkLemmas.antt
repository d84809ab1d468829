-- Steps of walks over shards and over the messages that wait.
use Rattle.std.proofs.Common.{◌≡◌, ℕ, Bool, true, false, cond, not, ◌+◌, ◌<◌, List, [], ◌∷◌, ◌++◌, length, take, drop, drop-cons, get_or, sym, ap, ◌∙◌, append_assoc, append-nil, add-one}
use Rattle.ak_shard_id.proofs.Walks.{take_more, filter_append}
use Rattle.ak_shard_id.specs.Division.{DivisionModel}
use Rattle.ak_region.specs.RegionModel.{Message}
use Rattle.ak_region.specs.Region.{is_for, those_for, others_than_for}
use Rattle.ak_region.specs.Turns.{turn_left, turn_gone}

-- a turn of the message at an index of those that waited at first
pub next_gone : (division : DivisionModel) (shard i : ℕ) (xs now : List Message) (d : Message) → i < length xs → now ≡ drop i xs ++ others_than_for division shard (take i xs)
    → those_for division shard (take i xs) ++ turn_gone division shard now ≡ those_for division shard (take (i + 1) xs)
next_gone division shard i xs now d lt is =
    ap (λ l. those_for division shard (take i xs) ++ turn_gone division shard l) (is ∙ ap (λ l. l ++ others_than_for division shard (take i xs)) (drop-cons xs i d lt))
    ∙ sym (filter_append (is_for division shard) (take i xs) (get_or xs i d ∷ []))
    ∙ ap (those_for division shard) (sym (take_more xs i d lt))

pub next_left : (division : DivisionModel) (shard i : ℕ) (xs now : List Message) (d : Message) → i < length xs → now ≡ drop i xs ++ others_than_for division shard (take i xs)
    → turn_left division shard now ≡ drop (i + 1) xs ++ others_than_for division shard (take (i + 1) xs)
next_left division shard i xs now d lt is =
    ap (turn_left division shard) (is ∙ ap (λ l. l ++ others_than_for division shard (take i xs)) (drop-cons xs i d lt ∙ ap (λ n. get_or xs i d ∷ drop n xs) (sym (add-one i))))
    ∙ go (is_for division shard (get_or xs i d))
    ∙ ap (λ l. drop (i + 1) xs ++ l) (
    sym (filter_append (λ m. not (is_for division shard m)) (take i xs) (get_or xs i d ∷ []))
    ∙ ap (others_than_for division shard) (sym (take_more xs i d lt))
    )
  where
    go : (b : Bool) → cond b (drop (i + 1) xs ++ others_than_for division shard (take i xs)) ((drop (i + 1) xs ++ others_than_for division shard (take i xs)) ++ get_or xs i d ∷ [])
        ≡ drop (i + 1) xs ++ (others_than_for division shard (take i xs) ++ cond (not b) (get_or xs i d ∷ []) [])
    go true = ap (λ l. drop (i + 1) xs ++ l) (sym (append-nil (others_than_for division shard (take i xs))))
    go false = append_assoc (drop (i + 1) xs) (others_than_for division shard (take i xs)) (get_or xs i d ∷ [])
