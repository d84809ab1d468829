use Rattle.std.proofs.Common.{◌≡◌, ℕ, zero, suc, ◌+◌, ◌<◌, List, [], ◌∷◌, ◌++◌, map, length, take, drop, set, get_or, refl, ap, ◌∙◌, arith}
use Rattle.ak_address.proofs.table.raise_each.Goals as goal

-- the next one is written
written_next : {X : Type 0} (f : X → X) (xs : List X) (i : ℕ) (d : X) → i < length xs
    → set (map f (take i xs) ++ drop i xs) i (f (get_or (map f (take i xs) ++ drop i xs) i d)) ≡ map f (take (suc i) xs) ++ drop (suc i) xs
written_next f [] i d lt = absurd (omega arith)
written_next f (x ∷ xs) zero d lt = refl
written_next f (x ∷ xs) (suc i) d lt = ap (λ l. f x ∷ l) (written_next f xs i d (omega arith))

written : {X : Type 0} (f : X → X) (xs : List X) (i : ℕ) (now : List X) (d e : X) → i < length xs → now ≡ map f (take i xs) ++ drop i xs → e ≡ f (get_or now i d)
    → set now i e ≡ map f (take (i + 1) xs) ++ drop (i + 1) xs
written f xs i now d e lt is new =
    let next : suc i ≡ i + 1 = omega arith in
    ap (set now i) new
    ∙ ap (λ l. set l i (f (get_or l i d))) is
    ∙ written_next f xs i d lt
    ∙ ap (λ n. map f (take n xs) ++ drop n xs) next

pub entries-preserved : goal.entries-preserved
entries-preserved g c =
    written (λ e. (e.0, g.V.Raise.raised c.args.most e.1)) _ c.entries.entry-index c.entries.entries c.entry-item.result _ (omega arith) c.entries.invariant
    (ap (λ v. ((get_or c.entries.entries c.entries.entry-index c.entry-item.result).0, v)) c.raise.ensures)
