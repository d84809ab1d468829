-- The walk along two lists of counts answers whether the first covers the second.
use Rattle.std.proofs.Common.{◌≡◌, ◌≢◌, ℕ, zero, suc, ◌+◌, ◌<◌, ◌≤◌, leb, Bool, true, false, cond, not, ◌&&◌, T, List, [], ◌∷◌, drop, Option, Some, None, is_some, is_none, drop_of_length-le, unwrap_or, option_map, slice_get, refl, sym, ap, ◌∙◌, subst, arith, true≢false, leb-true, le-leb, length}
use Rattle.std.specs.declared.cmp.Ordering.{Ordering}
use Rattle.std.specs.declared.cmp.Ordering.TheVariants.{Less, Equal, Greater}
use Rattle.std.specs.List.{list_all}
use Rattle.std.specs.Ordering.{is_lt, is_eq, is_gt, ordering_reverse}
use Rattle.std.specs.Cmp.{tied_back}
use Rattle.std.specs.FinMap as map
use Rattle.std.specs.FinMap.Entries.{by_order, below_all, find}
use Rattle.ak_address.specs.Unique.{UniqueModel, unique_cmp}
use Rattle.ak_address.proofs.OrderLemmas.{unique_total}
use Rattle.ak_address.proofs.Pairs.{both, first, second, same_Some, below_less, below_tied, find_below}
use Rattle.ak_address.proofs.TableLaws.{get_at}
use Rattle.ak_clock.specs.Version.{Counts, count, IsVersion, covers}
use Rattle.ak_clock.specs.Walk.{reached}

-- whether a count is at most the one of its process in a list
abbrev within : List (UniqueModel × ℕ) → UniqueModel × ℕ → Bool
within xs pair = leb pair.1 (unwrap_or (find unique_cmp pair.0 xs) 0)

abbrev NoZero : List (UniqueModel × ℕ) → Type 0
NoZero [] = Unit {0}
NoZero (y ∷ ys) = (y.1 ≢ 0) × NoZero ys

no_zero_pairs : (ys : List (UniqueModel × ℕ)) → ((i : ℕ) (pair : UniqueModel × ℕ) → slice_get ys i ≡ Some pair → pair.1 ≢ 0) → NoZero ys
no_zero_pairs [] each = tt
no_zero_pairs (y ∷ ys) each = (each 0 y refl, no_zero_pairs ys (λ i pair is. each (suc i) pair is))

less : (o : Ordering) → T (is_lt o) → o ≡ Less
less Less p = refl
less Equal p = absurd p
less Greater p = absurd p

-- a pair below the others is found by none of them
skip_pair : (x : UniqueModel × ℕ) (xs ys : List (UniqueModel × ℕ)) → T (below_all unique_cmp x.0 ys) → list_all (within (x ∷ xs)) ys ≡ list_all (within xs) ys
skip_pair x xs [] h = refl
skip_pair x xs (y ∷ ys) h =
    let above : unique_cmp y.0 x.0 ≡ Greater = unique_total.antisymm y.0 x.0 ∙ ap ordering_reverse (less _ (first _ _ h)) in
    λ i. leb y.1 (unwrap_or (cond (is_eq (above i)) (Some x.1) (find unique_cmp y.0 xs)) 0) && skip_pair x xs ys (second _ _ h) i

leb_short : (m n : ℕ) → m < n → leb n m ≡ false
leb_short m n short = elim (leb n m) as (λ b. leb n m ≡ b → b ≡ false) [ true ↦ λ is. absurd (omega (arith, leb-true n m is)) | false ↦ λ _. refl ] refl

above_nothing : (n : ℕ) → n ≢ 0 → leb n 0 ≡ false
above_nothing n h = elim (leb n 0) as (λ b. leb n 0 ≡ b → b ≡ false) [ true ↦ λ is. absurd (h (omega (arith, leb-true n 0 is))) | false ↦ λ _. refl ] refl

pub reached_within : (xs ys : List (UniqueModel × ℕ)) → T (map.is_sorted unique_cmp xs) → T (map.is_sorted unique_cmp ys) → NoZero ys → reached xs ys ≡ list_all (within xs) ys
reached_within [] [] g h z = refl
reached_within [] (y ∷ ys) g h z = ap (λ b. b && list_all (within []) ys) (sym (above_nothing y.1 z.0))
reached_within (x ∷ xs) [] g h z = refl
reached_within (x ∷ xs) (y ∷ ys) g h z =
    elim (unique_cmp x.0 y.0) as (λ r. unique_cmp x.0 y.0 ≡ r → by_order r (reached xs (y ∷ ys)) (leb y.1 x.1 && reached xs ys) false ≡ list_all (within (x ∷ xs)) (y ∷ ys)) [
      | Less ↦ λ below.
          reached_within xs (y ∷ ys) (second _ _ g) h z
          ∙ sym (skip_pair x xs (y ∷ ys) (both _ _ (subst (λ r. T (is_lt r)) (sym below) tt) (below_less unique_cmp unique_total x.0 y.0 ys below (first _ _ h))))
      | Equal ↦ λ tied.
          let back : unique_cmp y.0 x.0 ≡ Equal = tied_back unique_total x.0 y.0 tied in
          let rest : reached xs ys ≡ list_all (within (x ∷ xs)) ys = reached_within xs ys (second _ _ g) (second _ _ h) z.1 ∙ sym (skip_pair x xs ys (below_tied unique_cmp unique_total x.0 y.0 ys tied (first _ _ h))) in
          λ i. leb y.1 (unwrap_or (cond (is_eq (sym back i)) (Some x.1) (find unique_cmp y.0 xs)) 0) && rest i
      | Greater ↦ λ above.
          let below : unique_cmp y.0 x.0 ≡ Less = unique_total.antisymm y.0 x.0 ∙ ap ordering_reverse above in
          let none : find unique_cmp y.0 (x ∷ xs) ≡ None = find_below unique_cmp unique_total y.0 (x ∷ xs) (both _ _ (subst (λ r. T (is_lt r)) (sym below) tt) (below_less unique_cmp unique_total y.0 x.0 xs below (first _ _ g))) in
          ap (λ b. b && list_all (within (x ∷ xs)) ys) (sym (above_nothing y.1 z.0) ∙ ap (λ o. leb y.1 (unwrap_or o 0)) (sym none))
    ] refl

within_pairs : (v : Counts) (ys : List (UniqueModel × ℕ)) → list_all (within (map.entries v)) ys ≡ list_all (λ pair. leb pair.1 (count v pair.0)) ys
within_pairs v [] = refl
within_pairs v (y ∷ ys) = λ i. leb y.1 (unwrap_or (sym (map.get-entries v y.0) i) 0) && within_pairs v ys i

pub walk_covers : (v w : Counts) → IsVersion w → reached (map.entries v) (map.entries w) ≡ covers v w
unfolding covers
walk_covers v w q =
    reached_within (map.entries v) (map.entries w) (map.entries_sorted v) (map.entries_sorted w) (no_zero_pairs (map.entries w) (λ i pair is zeros. q.no_zero pair.0 (get_at w i pair is ∙ ap Some zeros)))
    ∙ within_pairs v (map.entries w)

-- ---- by indices
drop_pair : {A : Type 0} (xs : List A) (i : ℕ) (x : A) → slice_get xs i ≡ Some x → drop i xs ≡ x ∷ drop (suc i) xs
drop_pair [] i x is = absurd (true≢false (ap is_some (sym is)))
drop_pair (y ∷ xs) zero x is = ap (λ z. z ∷ xs) (ap (λ o. unwrap_or o y) is)
drop_pair (y ∷ xs) (suc i) x is = drop_pair xs i x is

drop_none : {A : Type 0} (xs : List A) (i : ℕ) → slice_get xs i ≡ None → drop i xs ≡ []
drop_none [] zero is = refl
drop_none [] (suc i) is = refl
drop_none (y ∷ xs) zero is = absurd (true≢false (ap is_some is))
drop_none (y ∷ xs) (suc i) is = drop_none xs i is

reached_all : (xs : List (UniqueModel × ℕ)) → reached xs [] ≡ true
reached_all [] = refl
reached_all (x ∷ xs) = refl

module _ (xs ys : List (UniqueModel × ℕ)) (i j : ℕ) where
  -- no count is left to be reached
  pub reached_end : slice_get ys j ≡ None → reached (drop i xs) (drop j ys) ≡ true
  reached_end is = ap (reached (drop i xs)) (drop_none ys j is) ∙ reached_all (drop i xs)

  -- nothing is left to reach one with
  pub reached_nothing : (y : UniqueModel × ℕ) → slice_get xs i ≡ None → slice_get ys j ≡ Some y → reached (drop i xs) (drop j ys) ≡ false
  reached_nothing y is js k = reached (drop_none xs i is k) (drop_pair ys j y js k)

  module _ (x y : UniqueModel × ℕ) (is : slice_get xs i ≡ Some x) (js : slice_get ys j ≡ Some y) where
    reached_pair : (r : Ordering) → unique_cmp x.0 y.0 ≡ r → reached (drop i xs) (drop j ys) ≡ by_order r (reached (drop (suc i) xs) (y ∷ drop (suc j) ys)) (leb y.1 x.1 && reached (drop (suc i) xs) (drop (suc j) ys)) false
    reached_pair r order = (λ k. reached (drop_pair xs i x is k) (drop_pair ys j y js k)) ∙ ap (λ o. by_order o (reached (drop (suc i) xs) (y ∷ drop (suc j) ys)) (leb y.1 x.1 && reached (drop (suc i) xs) (drop (suc j) ys)) false) order

    pub reached_less : unique_cmp x.0 y.0 ≡ Less → reached (drop i xs) (drop j ys) ≡ reached (drop (i + 1) xs) (drop j ys)
    reached_less order = reached_pair Less order ∙ (λ k. reached (drop (later k) xs) (sym (drop_pair ys j y js) k))
      where
        later : suc i ≡ i + 1
        later = omega arith

    pub reached_equal : unique_cmp x.0 y.0 ≡ Equal → y.1 ≤ x.1 → reached (drop i xs) (drop j ys) ≡ reached (drop (i + 1) xs) (drop (j + 1) ys)
    reached_equal order enough = reached_pair Equal order ∙ (λ k. le-leb y.1 x.1 enough k && reached (drop (later i k) xs) (drop (later j k) ys))
      where
        later : (n : ℕ) → suc n ≡ n + 1
        later n = omega arith

    pub reached_short : unique_cmp x.0 y.0 ≡ Equal → x.1 < y.1 → reached (drop i xs) (drop j ys) ≡ false
    reached_short order short = reached_pair Equal order ∙ ap (λ b. b && reached (drop (suc i) xs) (drop (suc j) ys)) (leb_short x.1 y.1 short)

    pub reached_greater : unique_cmp x.0 y.0 ≡ Greater → reached (drop i xs) (drop j ys) ≡ false
    reached_greater order = reached_pair Greater order

none_mapped : {A B : Type 0} (f : A → B) (o : Option A) (b : Bool) → is_some o ≡ not b → b ≡ is_none (option_map f o)
none_mapped f None true e = refl
none_mapped f None false e = absurd (true≢false (sym e))
none_mapped f (Some x) true e = absurd (true≢false e)
none_mapped f (Some x) false e = refl

reached_by_nothing : (ys : List (UniqueModel × ℕ)) (j : ℕ) → is_none (slice_get ys j) ≡ reached [] (drop j ys)
reached_by_nothing [] zero = refl
reached_by_nothing [] (suc j) = refl
reached_by_nothing (y ∷ ys) zero = refl
reached_by_nothing (y ∷ ys) (suc j) = reached_by_nothing ys j

-- at the end of the first list, whether the second has ended too
pub reached_last : {A : Type 0} (f : A → UniqueModel × ℕ) (o : Option A) (b : Bool) (m n : Counts) (i j : ℕ) → map.len m ≤ i → option_map f o ≡ slice_get (map.entries n) j → is_some o ≡ not b → b ≡ reached (drop i (map.entries m)) (drop j (map.entries n))
reached_last f o b m n i j past is ends =
    none_mapped f o b ends ∙ ap is_none is ∙ reached_by_nothing (map.entries n) j ∙ ap (λ l. reached l (drop j (map.entries n))) (sym (drop_of_length-le (map.entries m) (omega (arith, map.len-entries m))))

-- ---- an answer of the order by its tests
pub is_greater : (o : Ordering) (b : Bool) → b ≡ is_gt o → b ≡ true → o ≡ Greater
is_greater Less b e t = absurd (true≢false (sym t ∙ e))
is_greater Equal b e t = absurd (true≢false (sym t ∙ e))
is_greater Greater b e t = refl

pub is_less : (o : Ordering) (a b : Bool) → a ≡ is_gt o → a ≡ false → b ≡ is_eq o → b ≡ false → o ≡ Less
is_less Less a b e f g h = refl
is_less Equal a b e f g h = absurd (true≢false (sym g ∙ h))
is_less Greater a b e f g h = absurd (true≢false (sym e ∙ f))

-- ---- the same pairs
pub same_pairs : (xs ys : List (UniqueModel × ℕ)) → length xs ≡ length ys → ((k : ℕ) → k < length xs → slice_get xs k ≡ slice_get ys k) → xs ≡ ys
same_pairs [] [] long each = refl
same_pairs [] (y ∷ ys) long each = absurd (omega (arith, long))
same_pairs (x ∷ xs) [] long each = absurd (omega (arith, long))
same_pairs (x ∷ xs) (y ∷ ys) long each = λ i. same_Some x y (each 0 (omega arith)) i ∷ same_pairs xs ys (omega (arith, long)) (λ k lt. each (suc k) (omega (arith, lt))) i
