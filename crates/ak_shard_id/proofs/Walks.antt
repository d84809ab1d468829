-- Steps of walks along lists: an element is written, one more is taken, and a filter of two lists.
use Rattle.std.proofs.Common.{◌≡◌, ℕ, zero, suc, Bool, true, false, cond, ◌+◌, ◌<◌, List, [], ◌∷◌, ◌++◌, map, length, take, drop, set, get_or, refl, ap, ◌∙◌, add-one, arith}
use Rattle.std.specs.List.{filter}

-- the next one is written
written_next : {X : Type 0} (f : X → X) (xs : List X) (i : ℕ) (d : X) → i < length xs
    → set (map f (take i xs) ++ drop i xs) i (f (get_or (map f (take i xs) ++ drop i xs) i d)) ≡ map f (take (suc i) xs) ++ drop (suc i) xs
written_next f [] i d lt = absurd (omega arith)
written_next f (x ∷ xs) zero d lt = refl
written_next f (x ∷ xs) (suc i) d lt = ap (λ l. f x ∷ l) (written_next f xs i d (omega arith))

pub written : {X : Type 0} (f : X → X) (xs : List X) (i : ℕ) (now : List X) (d e : X) → i < length xs → now ≡ map f (take i xs) ++ drop i xs → e ≡ f (get_or now i d)
    → set now i e ≡ map f (take (i + 1) xs) ++ drop (i + 1) xs
written f xs i now d e lt is new =
    let next : suc i ≡ i + 1 = omega arith in
    ap (set now i) new
    ∙ ap (λ l. set l i (f (get_or l i d))) is
    ∙ written_next f xs i d lt
    ∙ ap (λ n. map f (take n xs) ++ drop n xs) next

take_next : {X : Type 0} (xs : List X) (i : ℕ) (d : X) → i < length xs → take (suc i) xs ≡ take i xs ++ get_or xs i d ∷ []
take_next [] i d lt = absurd (omega arith)
take_next (x ∷ xs) zero d lt = refl
take_next (x ∷ xs) (suc i) d lt = ap (λ l. x ∷ l) (take_next xs i d (omega arith))

-- the first i + 1 of a list, one after the first i
pub take_more : {X : Type 0} (xs : List X) (i : ℕ) (d : X) → i < length xs → take (i + 1) xs ≡ take i xs ++ get_or xs i d ∷ []
take_more xs i d lt = ap (λ n. take n xs) (add-one i) ∙ take_next xs i d lt

pub filter_append : {X : Type 0} (p : X → Bool) (xs ys : List X) → filter p (xs ++ ys) ≡ filter p xs ++ filter p ys
filter_append p [] ys = refl
filter_append p (x ∷ xs) ys = go (p x) (filter_append p xs ys)
  where
    go : (b : Bool) → filter p (xs ++ ys) ≡ filter p xs ++ filter p ys → cond b (x ∷ filter p (xs ++ ys)) (filter p (xs ++ ys)) ≡ cond b (x ∷ filter p xs) (filter p xs) ++ filter p ys
    go true rest = ap (λ l. x ∷ l) rest
    go false rest = rest
