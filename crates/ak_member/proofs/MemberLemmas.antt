-- Walks along the pairs of a table that count, or look for, the pairs of one kind: `rows_of` gives those of a list. And
-- a walk that keeps the last that it finds.
use Rattle.std.proofs.Common.{◌≡◌, ℕ, zero, suc, ◌+◌, ◌-◌, ◌≤◌, List, [], ◌∷◌, ◌++◌, map, length, drop, T, slice_get, Option, Some, None, ◌≢◌, Bool, cond, is_some, option_map, option_to_list, ◌⊎◌, inl, inr, true, false, refl, sym, ap, ◌∙◌, subst, arith, true≢false}
use Rattle.std.proofs.lemmas.List.{drop_all}
use Rattle.std.specs.List.{filter}
use Rattle.std.specs.FinMap.{is_sorted}
use Rattle.std.specs.FinMap.Entries.{below_all}
use Rattle.ak_address.specs.Unique.{UniqueModel, unique_cmp}
use Rattle.ak_address.proofs.Pairs.{first, second, less}
use Rattle.ak_address.proofs.DistinctLaws.{IsBelow, AreRising}
use Rattle.ak_member.specs.declared.standing.Standing.{Standing}
use Rattle.ak_member.specs.declared.standing.Standing.TheVariants.{Member, Buried}
use Rattle.ak_member.specs.Standing.{member_pairs, tombstone_pairs}

-- a list is the pair at an index, and the rest, from there on
drop_prefix : {X : Type 0} (xs : List X) (i : ℕ) → drop i xs ≡ option_to_list (slice_get xs i) ++ drop (suc i) xs
drop_prefix [] zero = refl
drop_prefix [] (suc i) = refl
drop_prefix (x ∷ xs) zero = refl
drop_prefix (x ∷ xs) (suc i) = drop_prefix xs i

next_of : (i : ℕ) → suc i ≡ i + 1
next_of i = omega arith

pub drop_from : {X : Type 0} (xs : List X) (i : ℕ) → drop i xs ≡ option_to_list (slice_get xs i) ++ drop (i + 1) xs
drop_from xs i = drop_prefix xs i ∙ ap (λ n. option_to_list (slice_get xs i) ++ drop n xs) (next_of i)

-- what was found so far counts only where something later is found
abbrev pub last_of : {X : Type 0} → Option X → Option X → Option X
last_of found None = found
last_of found (Some later) = Some later

pub one_there : {X : Type 0} (o : Option X) → true ≡ is_some o → length (option_to_list o) ≡ 1
one_there None e = absurd (true≢false e)
one_there (Some x) e = refl

pub none_there : {X : Type 0} (o : Option X) → false ≡ is_some o → length (option_to_list o) ≡ 0
none_there None e = refl
none_there (Some x) e = absurd (true≢false (sym e))

module _ {X Y : Type 0} where
  -- what is kept of a list, pair by pair
  pub record KeepsPairs (kept : List X → List Y) : Type 0 where
    pub none : kept [] ≡ []
    pub more : (x : X) (xs : List X) → kept (x ∷ xs) ≡ kept (x ∷ []) ++ kept xs

  module _ (kept : List X → List Y) (k : KeepsPairs kept) where
    pub kept_append : (o : Option X) (xs : List X) → kept (option_to_list o ++ xs) ≡ kept (option_to_list o) ++ kept xs
    kept_append None xs = ap (λ l. l ++ kept xs) (sym k.none)
    kept_append (Some x) xs = k.more x xs

    -- what is kept from a pair on is what is kept of the pair, and then of the rest
    pub kept_from : (xs : List X) (i : ℕ) → kept (drop i xs) ≡ kept (option_to_list (slice_get xs i)) ++ kept (drop (i + 1) xs)
    kept_from xs i = ap kept (drop_from xs i) ∙ kept_append (slice_get xs i) (drop (i + 1) xs)

    pub kept_at_end : (xs : List X) (i : ℕ) → length xs ≤ i → kept (drop i xs) ≡ []
    kept_at_end xs i past = ap kept (drop_all i xs past) ∙ k.none

    -- where a pair is kept, and where not
    pub kept_pair : (xs : List X) (i : ℕ) (o : Option Y) → option_to_list o ≡ kept (option_to_list (slice_get xs i)) → kept (drop i xs) ≡ option_to_list o ++ kept (drop (i + 1) xs)
    kept_pair xs i o is = kept_from xs i ∙ ap (λ l. l ++ kept (drop (i + 1) xs)) (sym is)

    -- a count so far, and that of the pairs that are left
    counted_pair : {Z : Type 0} (v : Z → Y) (r : Option Z) (ys rest : List Y) (n total : ℕ) → ys ≡ option_to_list (option_map v r) ++ rest → n + length ys ≡ total → n + length (option_to_list r) + length rest ≡ total
    counted_pair v None ys rest n total is so_far = let e = ap length is in omega arith
    counted_pair v (Some z) ys rest n total is so_far = let e = ap length is in omega arith

    pub counted_more : {Z : Type 0} (v : Z → Y) (r : Option Z) (xs : List X) (i n total : ℕ) → option_to_list (option_map v r) ≡ kept (option_to_list (slice_get xs i)) → n + length (kept (drop i xs)) ≡ total → n + length (option_to_list r) + length (kept (drop (i + 1) xs)) ≡ total
    counted_more v r xs i n total is so_far = counted_pair v r _ _ n total (kept_pair xs i (option_map v r) is) so_far

    -- the pair that is wanted, and how many are left to pass
    wanted_pair : {Z : Type 0} (v : Z → Y) (z : Z) (ys rest : List Y) → ys ≡ v z ∷ rest → option_map v (Some z) ≡ slice_get ys 0
    wanted_pair v z ys rest is = ap (λ l. slice_get l 0) (sym is)

    pub wanted_here : {Z : Type 0} (v : Z → Y) (r : Option Z) (xs : List X) (i left : ℕ) (o : Option Y) → is_some r ≡ true → left ≡ 0 → option_to_list (option_map v r) ≡ kept (option_to_list (slice_get xs i)) → slice_get (kept (drop i xs)) left ≡ o → option_map v r ≡ o
    wanted_here v None xs i left o some first is so_far = absurd (true≢false (sym some))
    wanted_here v (Some z) xs i left o some first is so_far = wanted_pair v z _ _ (kept_pair xs i (Some (v z)) is) ∙ ap (slice_get (kept (drop i xs))) (sym first) ∙ so_far

    pub wanted_later : {Z : Type 0} (v : Z → Y) (r : Option Z) (xs : List X) (i left : ℕ) (o : Option Y) → is_some r ≡ true → left ≢ 0 → option_to_list (option_map v r) ≡ kept (option_to_list (slice_get xs i)) → slice_get (kept (drop i xs)) left ≡ o → slice_get (kept (drop (i + 1) xs)) (left - 1) ≡ o
    wanted_later v None xs i left o some more is so_far = absurd (true≢false (sym some))
    wanted_later v (Some z) xs i zero o some more is so_far = absurd (more refl)
    wanted_later v (Some z) xs i (suc left) o some more is so_far =
        let less : suc left - 1 ≡ left = omega arith in
        ap (slice_get (kept (drop (i + 1) xs))) less ∙ sym (ap (λ l. slice_get l (suc left)) (kept_pair xs i (Some (v z)) is)) ∙ so_far

    pub wanted_past : {Z : Type 0} (v : Z → Y) (r : Option Z) (xs : List X) (i left : ℕ) (o : Option Y) → is_some r ≡ false → option_to_list (option_map v r) ≡ kept (option_to_list (slice_get xs i)) → slice_get (kept (drop i xs)) left ≡ o → slice_get (kept (drop (i + 1) xs)) left ≡ o
    wanted_past v None xs i left o none is so_far = sym (ap (λ l. slice_get l left) (kept_pair xs i None is)) ∙ so_far
    wanted_past v (Some z) xs i left o none is so_far = absurd (true≢false none)

    pub none_left : (xs : List X) (i left : ℕ) (o : Option Y) → length xs ≤ i → slice_get (kept (drop i xs)) left ≡ o → None ≡ o
    none_left xs i left o past so_far = sym (ap (λ l. slice_get l left) (kept_at_end xs i past)) ∙ so_far

    pub all_counted : (xs : List X) (i n total : ℕ) → length xs ≤ i → n + length (kept (drop i xs)) ≡ total → n ≡ total
    all_counted xs i n total past so_far = let e = ap length (kept_at_end xs i past) in omega arith

pub keeps_members : KeepsPairs member_pairs
keeps_members = record { none = refl; more = members_more }
  where
    members_more : (x : UniqueModel × Standing) (xs : List (UniqueModel × Standing)) → member_pairs (x ∷ xs) ≡ member_pairs (x ∷ []) ++ member_pairs xs
    members_more (who, Member status number) xs = refl
    members_more (who, Buried confirmed) xs = refl

pub keeps_tombstones : KeepsPairs tombstone_pairs
keeps_tombstones = record { none = refl; more = tombstones_more }
  where
    tombstones_more : (x : UniqueModel × Standing) (xs : List (UniqueModel × Standing)) → tombstone_pairs (x ∷ xs) ≡ tombstone_pairs (x ∷ []) ++ tombstone_pairs xs
    tombstones_more (who, Member status number) xs = refl
    tombstones_more (who, Buried confirmed) xs = refl

-- what becomes of each that is kept
pub keeps_mapped : {X Y Z : Type 0} (kept : List X → List Y) → KeepsPairs kept → (f : Y → Z) → KeepsPairs (λ xs. map f (kept xs))
keeps_mapped kept k f = record { none = ap (map f) k.none; more = λ x xs. ap (map f) (k.more x xs) ∙ mapped_append f (kept (x ∷ [])) (kept xs) }
  where
    mapped_append : {Y Z : Type 0} (f : Y → Z) (xs ys : List Y) → map f (xs ++ ys) ≡ map f xs ++ map f ys
    mapped_append f [] ys = refl
    mapped_append f (x ∷ xs) ys = ap (λ l. f x ∷ l) (mapped_append f xs ys)

-- and those of them that pass a test
pub keeps_filtered : {X Y : Type 0} (kept : List X → List Y) → KeepsPairs kept → (p : Y → Bool) → KeepsPairs (λ xs. filter p (kept xs))
keeps_filtered kept k p = record { none = ap (filter p) k.none; more = λ x xs. ap (filter p) (k.more x xs) ∙ filtered_append p (kept (x ∷ [])) (kept xs) }
  where
    filtered_append : {Y : Type 0} (p : Y → Bool) (xs ys : List Y) → filter p (xs ++ ys) ≡ filter p xs ++ filter p ys
    filtered_append p [] ys = refl
    filtered_append p (x ∷ xs) ys = next (p x) (filtered_append p xs ys)
      where
        next : (b : Bool) → filter p (xs ++ ys) ≡ filter p xs ++ filter p ys → cond b (x ∷ filter p (xs ++ ys)) (filter p (xs ++ ys)) ≡ cond b (x ∷ filter p xs) (filter p xs) ++ filter p ys
        next true h = ap (λ l. x ∷ l) h
        next false h = h

-- the processes of some pairs in order are in order
module _ {X : Type 0} (kept : List (UniqueModel × X) → List UniqueModel) (k : KeepsPairs kept) (own : (pair : UniqueModel × X) → (kept (pair ∷ []) ≡ []) ⊎ (kept (pair ∷ []) ≡ pair.0 ∷ [])) where
  kept_below : (u : UniqueModel) (es : List (UniqueModel × X)) → T (below_all unique_cmp u es) → IsBelow u (kept es)
  kept_below u [] h = subst (IsBelow u) (sym k.none) tt
  kept_below u (e ∷ es) h = elim (own e) [
    | inl none ↦ subst (IsBelow u) (sym (k.more e es ∙ ap (λ l. l ++ kept es) none)) (kept_below u es (second _ _ h))
    | inr one ↦ subst (IsBelow u) (sym (k.more e es ∙ ap (λ l. l ++ kept es) one)) (less _ (first _ _ h), kept_below u es (second _ _ h))
  ]

  pub kept_rising : (es : List (UniqueModel × X)) → T (is_sorted unique_cmp es) → AreRising (kept es)
  kept_rising [] h = subst AreRising (sym k.none) tt
  kept_rising (e ∷ es) h = elim (own e) [
    | inl none ↦ subst AreRising (sym (k.more e es ∙ ap (λ l. l ++ kept es) none)) (kept_rising es (second _ _ h))
    | inr one ↦ subst AreRising (sym (k.more e es ∙ ap (λ l. l ++ kept es) one)) (kept_below e.0 es (first _ _ h), kept_rising es (second _ _ h))
  ]
