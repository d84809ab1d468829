-- Each number once, in the order of the first places: one number more.
use Rattle.std.proofs.Common.{◌≡◌, ℕ, Bool, true, false, cond, not, ◌||◌, ◌==◌, List, [], ◌∷◌, ◌++◌, append-nil, refl, sym, ap, ◌∙◌, true≢false}
use Rattle.std.specs.List.{filter, list_any}
use Rattle.std.proofs.lemmas.Bool.{eqb-true, eq-eqb}
use Rattle.ak_region.specs.Region.{firsts}
use Rattle.ak_shard_id.proofs.Walks.{filter_append}

abbrev pub has_number : List ℕ → ℕ → Bool
has_number ns n = list_any (λ m. m == n) ns

abbrev but : ℕ → List ℕ → List ℕ
but k ns = filter (λ m. not (m == k)) ns

same_turned : (k n : ℕ) (b : Bool) → (k == n) ≡ b → (n == k) ≡ b
same_turned k n true is = eq-eqb n k (sym (eqb-true k n is))
same_turned k n false is = go (n == k) refl
  where
    go : (b : Bool) → (n == k) ≡ b → (n == k) ≡ false
    go true same = absurd (true≢false (sym (eq-eqb k n (sym (eqb-true n k same))) ∙ is))
    go false same = same

-- another number is there as before
has_but : (k n : ℕ) → (k == n) ≡ false → (ns : List ℕ) → has_number (but k ns) n ≡ has_number ns n
has_but k n apart [] = refl
has_but k n apart (m ∷ ns) = go (m == k) refl (has_but k n apart ns)
  where
    go : (b : Bool) → (m == k) ≡ b → has_number (but k ns) n ≡ has_number ns n → has_number (cond (not b) (m ∷ but k ns) (but k ns)) n ≡ has_number (m ∷ ns) n
    go true same rest = rest ∙ ap (λ b. b || has_number ns n) (sym (ap (λ j. j == n) (eqb-true m k same) ∙ apart))
    go false other rest = ap (λ b. (m == n) || b) rest

pub firsts_have : (ns : List ℕ) (n : ℕ) → has_number (firsts ns) n ≡ has_number ns n
firsts_have [] n = refl
firsts_have (k ∷ ns) n = go (k == n) refl (firsts_have ns n)
  where
    go : (b : Bool) → (k == n) ≡ b → has_number (firsts ns) n ≡ has_number ns n → ((k == n) || has_number (but k (firsts ns)) n) ≡ ((k == n) || has_number ns n)
    go true same rest = ap (λ b. b || has_number (but k (firsts ns)) n) same ∙ ap (λ b. b || has_number ns n) (sym same)
    go false other rest = ap (λ b. (k == n) || b) (has_but k n other (firsts ns) ∙ rest)

pub firsts_more : (ns : List ℕ) (n : ℕ) → firsts (ns ++ n ∷ []) ≡ cond (has_number ns n) (firsts ns) (firsts ns ++ n ∷ [])
firsts_more [] n = refl
firsts_more (k ∷ ns) n = ap (λ xs. k ∷ but k xs) (firsts_more ns n) ∙ go (k == n) refl (has_number ns n)
  where
    go : (b : Bool) → (k == n) ≡ b → (c : Bool) → k ∷ but k (cond c (firsts ns) (firsts ns ++ n ∷ [])) ≡ cond ((k == n) || c) (k ∷ but k (firsts ns)) ((k ∷ but k (firsts ns)) ++ n ∷ [])
    go true same true = ap (λ b. cond (b || true) (k ∷ but k (firsts ns)) ((k ∷ but k (firsts ns)) ++ n ∷ [])) (sym same)
    go true same false =
        ap (λ xs. k ∷ xs) (
        filter_append (λ m. not (m == k)) (firsts ns) (n ∷ [])
        ∙ ap (λ b. but k (firsts ns) ++ cond (not b) (n ∷ []) []) (same_turned k n true same)
        ∙ append-nil (but k (firsts ns))
        )
        ∙ ap (λ b. cond (b || false) (k ∷ but k (firsts ns)) ((k ∷ but k (firsts ns)) ++ n ∷ [])) (sym same)
    go false other true = ap (λ b. cond (b || true) (k ∷ but k (firsts ns)) ((k ∷ but k (firsts ns)) ++ n ∷ [])) (sym other)
    go false other false =
        ap (λ xs. k ∷ xs) (
        filter_append (λ m. not (m == k)) (firsts ns) (n ∷ [])
        ∙ ap (λ b. but k (firsts ns) ++ cond (not b) (n ∷ []) []) (same_turned k n false other)
        )
        ∙ ap (λ b. cond (b || false) (k ∷ but k (firsts ns)) ((k ∷ but k (firsts ns)) ++ n ∷ [])) (sym other)
