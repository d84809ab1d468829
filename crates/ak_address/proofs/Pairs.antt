-- What is found in a list of pairs in order, at the index of a key and in two lists that are woven.
use Rattle.std.proofs.Common.{◌≡◌, ℕ, zero, suc, ◌+◌, ◌<◌, ◌≤◌, Bool, true, false, not, cond, ◌&&◌, T, List, [], ◌∷◌, ◌++◌, length, drop, set, insert, remove, get_or, slice_get, Option, Some, None, is_some, unwrap_or, ◌≢◌, option_map, Result, Ok, Err, MatchResult, ◌⊎◌, inl, inr, drop_of_length-le, append-nil, refl, sym, ap, ◌∙◌, subst, arith}
use Rattle.std.proofs.lemmas.Option.{slice_get_within}
use Rattle.std.proofs.lemmas.List.{at_drop_more}
use Rattle.std.specs.declared.cmp.Ordering.{Ordering}
use Rattle.std.specs.declared.cmp.Ordering.TheVariants.{Less, Equal, Greater}
use Rattle.std.specs.Ordering.{is_lt, is_gt, is_eq, ordering_reverse, eq_by_cmp}
use Rattle.std.specs.Cmp.{IsTotalOrder, alike_right, tied_itself}
use Rattle.std.specs.FinMap.{IsAntisymmetric, find, put, is_sorted}
use Rattle.std.specs.FinMap.Entries.{by_order, below_all, where_key}
use Rattle.ak_address.specs.Pairs.{next, index, woven}
use Rattle.ak_address.specs.Table.{merged_at}

-- ---- tests
pub both : (a b : Bool) → T a → T b → T (a && b)
both true b p q = q
both false b p q = p

pub first : (a b : Bool) → T (a && b) → T a
first true b p = tt
first false b p = p

pub second : (a b : Bool) → T (a && b) → T b
second true b p = p
second false b p = absurd p

pub less : (o : Ordering) → T (is_lt o) → o ≡ Less
less Less p = refl
less Equal p = absurd p
less Greater p = absurd p

pub same_Some : {A : Type 0} (x y : A) → Some x ≡ Some y → x ≡ y
same_Some x y e = ap (λ o. unwrap_or o x) e

pub not_None : {A : Type 0} (x : A) → Some x ≢ None
not_None x e = subst T (ap is_some e) tt

-- ---- orders
pub is_equal : (o : Ordering) (b : Bool) → b ≡ is_eq o → b ≡ true → o ≡ Equal
is_equal Less b e t = absurd (subst T (sym t ∙ e) tt)
is_equal Equal b e t = refl
is_equal Greater b e t = absurd (subst T (sym t ∙ e) tt)

pub is_less : (o : Ordering) (b : Bool) → b ≡ is_lt o → b ≡ true → o ≡ Less
is_less Less b e t = refl
is_less Equal b e t = absurd (subst T (sym t ∙ e) tt)
is_less Greater b e t = absurd (subst T (sym t ∙ e) tt)

pub is_neither : (o : Ordering) (a b : Bool) → a ≡ is_eq o → a ≡ false → b ≡ is_lt o → b ≡ false → o ≡ Greater
is_neither Less a b e f g h = absurd (subst T (sym g ∙ h) tt)
is_neither Equal a b e f g h = absurd (subst T (sym e ∙ f) tt)
is_neither Greater a b e f g h = refl

pub is_greater : (o : Ordering) (b : Bool) → b ≡ is_gt o → b ≡ true → o ≡ Greater
is_greater Less b e t = absurd (subst T (sym t ∙ e) tt)
is_greater Equal b e t = absurd (subst T (sym t ∙ e) tt)
is_greater Greater b e t = refl

-- ---- indices
pub before_or : (i m : ℕ) → i ≤ m → (i < m) ⊎ (i ≡ m)
before_or zero zero le = inr refl
before_or zero (suc m) le = inl (omega arith)
before_or (suc i) zero le = absurd (omega arith)
before_or (suc i) (suc m) le = elim (before_or i m (omega arith)) [ inl less ↦ inl (omega arith) | inr same ↦ inr (ap suc same) ]

module _ {K X : Type 0} (R : K → K → Ordering) where
  -- a key that a list has at index n
  pub record Stands (q : K) (es : List (K × X)) (n : ℕ) : Type 0 where
    pub in_range : n < length es
    pub held : (d : K × X) → (get_or es n d).0 ≡ q
    pub found : find R q es ≡ option_map (λ e. e.1) (slice_get es n)
    pub put_there : (v : X) → put R q v es ≡ set es n (q, v)
    pub without : where_key R (λ x. not (eq_by_cmp R q x)) es ≡ remove es n

  -- a key that a list has not, and that would go at index n
  pub record Goes (q : K) (es : List (K × X)) (n : ℕ) : Type 0 where
    pub in_range : n ≤ length es
    pub absent : find R q es ≡ None
    pub put_there : (v : X) → put R q v es ≡ insert es n (q, v)
    pub without : where_key R (λ x. not (eq_by_cmp R q x)) es ≡ es

  -- what a key that is above the first pair makes of the index among the others
  stands_later : (q : K) (e : K × X) (es : List (K × X)) (n : ℕ) → R q e.0 ≡ Greater → Stands q es n → Stands q (e ∷ es) (suc n)
  stands_later q e es n above s = record {
    in_range = omega (arith, s.in_range);
    held = λ d. s.held d;
    found = ap (λ r. cond (is_eq r) (Some e.1) (find R q es)) above ∙ s.found;
    put_there = λ v. ap (λ r. by_order r ((q, v) ∷ e ∷ es) ((e.0, v) ∷ es) (e ∷ put R q v es)) above ∙ ap (λ l. e ∷ l) (s.put_there v);
    without = ap (λ r. cond (not (is_eq r)) (e ∷ where_key R (λ x. not (eq_by_cmp R q x)) es) (where_key R (λ x. not (eq_by_cmp R q x)) es)) above ∙ ap (λ l. e ∷ l) s.without;
  }

  goes_later : (q : K) (e : K × X) (es : List (K × X)) (n : ℕ) → R q e.0 ≡ Greater → Goes q es n → Goes q (e ∷ es) (suc n)
  goes_later q e es n above s = record {
    in_range = omega (arith, s.in_range);
    absent = ap (λ r. cond (is_eq r) (Some e.1) (find R q es)) above ∙ s.absent;
    put_there = λ v. ap (λ r. by_order r ((q, v) ∷ e ∷ es) ((e.0, v) ∷ es) (e ∷ put R q v es)) above ∙ ap (λ l. e ∷ l) (s.put_there v);
    without = ap (λ r. cond (not (is_eq r)) (e ∷ where_key R (λ x. not (eq_by_cmp R q x)) es) (where_key R (λ x. not (eq_by_cmp R q x)) es)) above ∙ ap (λ l. e ∷ l) s.without;
  }

  indexed_later : (q : K) (e : K × X) (es : List (K × X)) (r : Result ℕ ℕ) → R q e.0 ≡ Greater → MatchResult r (Stands q es) (Goes q es) → MatchResult (next r) (Stands q (e ∷ es)) (Goes q (e ∷ es))
  indexed_later q e es (Ok n) above s = stands_later q e es n above s
  indexed_later q e es (Err n) above s = goes_later q e es n above s

  module _ (o : IsTotalOrder R) where
    pub below_less : (x y : K) (es : List (K × X)) → R x y ≡ Less → T (below_all R y es) → T (below_all R x es)
    below_less x y [] p h = tt
    below_less x y (e ∷ es) p h = both _ _ (subst (λ r. T (is_lt r)) (sym (o.trans x y e.0 p (less _ (first _ _ h)))) tt) (below_less x y es p (second _ _ h))

    pub below_tied : (x y : K) (es : List (K × X)) → R x y ≡ Equal → T (below_all R y es) → T (below_all R x es)
    below_tied x y [] p h = tt
    below_tied x y (e ∷ es) p h = both _ _ (subst (λ r. T (is_lt r)) (sym (o.congr x y e.0 p)) (first _ _ h)) (below_tied x y es p (second _ _ h))

    -- a key below each of the keys is not found
    pub find_below : (q : K) (es : List (K × X)) → T (below_all R q es) → find R q es ≡ None
    find_below q [] h = refl
    find_below q (e ∷ es) h = ap (λ r. cond (is_eq r) (Some e.1) (find R q es)) (less _ (first _ _ h)) ∙ find_below q es (second _ _ h)

    -- and nothing is taken out at it
    without_below : (q : K) (es : List (K × X)) → T (below_all R q es) → where_key R (λ x. not (eq_by_cmp R q x)) es ≡ es
    without_below q [] h = refl
    without_below q (e ∷ es) h =
        let rest = where_key R (λ x. not (eq_by_cmp R q x)) es in
        ap (λ r. cond (not (is_eq r)) (e ∷ rest) rest) (less _ (first _ _ h)) ∙ ap (λ l. e ∷ l) (without_below q es (second _ _ h))

    module _ (same : IsAntisymmetric R) where
      stands_first : (q : K) (e : K × X) (es : List (K × X)) → R q e.0 ≡ Equal → T (below_all R e.0 es) → Stands q (e ∷ es) zero
      stands_first q e es tied h =
          let rest = where_key R (λ x. not (eq_by_cmp R q x)) es in
          record {
            in_range = omega arith;
            held = λ d. sym (same q e.0 tied);
            found = ap (λ r. cond (is_eq r) (Some e.1) (find R q es)) tied;
            put_there = λ v. ap (λ r. by_order r ((q, v) ∷ e ∷ es) ((e.0, v) ∷ es) (e ∷ put R q v es)) tied ∙ ap (λ k. (k, v) ∷ es) (sym (same q e.0 tied));
            without = ap (λ r. cond (not (is_eq r)) (e ∷ rest) rest) tied ∙ without_below q es (below_tied q e.0 es tied h);
          }

      goes_first : (q : K) (e : K × X) (es : List (K × X)) → R q e.0 ≡ Less → T (below_all R e.0 es) → Goes q (e ∷ es) zero
      goes_first q e es below h =
          let all : T (below_all R q (e ∷ es)) = both _ _ (subst (λ r. T (is_lt r)) (sym below) tt) (below_less q e.0 es below h) in
          record {
            in_range = omega arith;
            absent = find_below q (e ∷ es) all;
            put_there = λ v. ap (λ r. by_order r ((q, v) ∷ e ∷ es) ((e.0, v) ∷ es) (e ∷ put R q v es)) below;
            without = without_below q (e ∷ es) all;
          }

      -- what the index of a key says of it
      pub indexed : (q : K) (es : List (K × X)) → T (is_sorted R es) → MatchResult (index R q es) (Stands q es) (Goes q es)
      indexed q [] h = record { in_range = omega arith; absent = refl; put_there = λ v. refl; without = refl }
      indexed q (e ∷ es) h =
          elim (R q e.0) as (λ r. R q e.0 ≡ r → MatchResult (by_order r (Err zero) (Ok zero) (next (index R q es))) (Stands q (e ∷ es)) (Goes q (e ∷ es))) [
            | Less ↦ λ below. goes_first q e es below (first _ _ h)
            | Equal ↦ λ tied. stands_first q e es tied (first _ _ h)
            | Greater ↦ λ above. indexed_later q e es _ above (indexed q es (second _ _ h))
          ] refl

      -- what a search told of a key
      pub known : (q : K) (es : List (K × X)) → T (is_sorted R es) → (r : Result ℕ ℕ) → r ≡ index R q es → MatchResult r (Stands q es) (Goes q es)
      known q es h r is = subst (λ r. MatchResult r (Stands q es) (Goes q es)) (sym is) (indexed q es h)

  -- ---- the pair at an index
  module _ (o : IsTotalOrder R) where
    -- a key below each of the keys is below the one at an index
    pub below_at : (k : K) (es : List (K × X)) (i : ℕ) (e : K × X) → T (below_all R k es) → slice_get es i ≡ Some e → R k e.0 ≡ Less
    below_at k [] i e h is = absurd (not_None e (sym is))
    below_at k (x ∷ es) zero e h is = subst (λ (y : K × X). R k y.0 ≡ Less) (same_Some x e is) (less _ (first _ _ h))
    below_at k (x ∷ es) (suc i) e h is = below_at k es i e (second _ _ h) is

    -- the pair at an index is what is found at its key
    pub find_at : (es : List (K × X)) (i : ℕ) (e : K × X) → T (is_sorted R es) → slice_get es i ≡ Some e → find R e.0 es ≡ Some e.1
    find_at [] i e h is = absurd (not_None e (sym is))
    find_at (x ∷ es) zero e h is = subst (λ (y : K × X). find R y.0 (x ∷ es) ≡ Some y.1) (same_Some x e is) (ap (λ r. cond (is_eq r) (Some x.1) (find R x.0 es)) (tied_itself o x.0))
    find_at (x ∷ es) (suc i) e h is = ap (λ r. cond (is_eq r) (Some x.1) (find R e.0 es)) (o.antisymm e.0 x.0 ∙ ap ordering_reverse (below_at x.0 es i e (first _ _ h) is)) ∙ find_at es i e (second _ _ h) is

    -- the keys of indices strictly rise
    pub rises : (es : List (K × X)) (i j : ℕ) (d e : K × X) → T (is_sorted R es) → i < j → slice_get es i ≡ Some d → slice_get es j ≡ Some e → R d.0 e.0 ≡ Less
    rises [] i j d e h lt is js = absurd (not_None d (sym is))
    rises (x ∷ es) i zero d e h lt is js = absurd (omega arith)
    rises (x ∷ es) zero (suc j) d e h lt is js = subst (λ (y : K × X). R y.0 e.0 ≡ Less) (same_Some x d is) (below_at x.0 es j e (first _ _ h) js)
    rises (x ∷ es) (suc i) (suc j) d e h lt is js = rises es i j d e (second _ _ h) (omega arith) is js

  -- ---- a search by halves
  module _ (q : K) where
    -- the key is above the pairs before an index, and below those from it on
    abbrev pub IsAboveBefore : List (K × X) → ℕ → Type 0
    IsAboveBefore es n = (i : ℕ) (e : K × X) → i < n → slice_get es i ≡ Some e → R q e.0 ≡ Greater

    abbrev pub IsBelowFrom : List (K × X) → ℕ → Type 0
    IsBelowFrom es n = (i : ℕ) (e : K × X) → n ≤ i → slice_get es i ≡ Some e → R q e.0 ≡ Less

    pub index_here : (es : List (K × X)) (n : ℕ) (e : K × X) → IsAboveBefore es n → slice_get es n ≡ Some e → R q e.0 ≡ Equal → index R q es ≡ Ok n
    index_here [] n e above at tied = absurd (not_None e (sym at))
    index_here (x ∷ es) zero e above at tied =
        ap (λ r. by_order r (Err zero) (Ok zero) (next (index R q es))) (subst (λ (y : K × X). R q y.0 ≡ Equal) (sym (same_Some x e at)) tied)
    index_here (x ∷ es) (suc n) e above at tied =
        ap (λ r. by_order r (Err zero) (Ok zero) (next (index R q es))) (above zero x (omega arith) refl)
        ∙ ap next (index_here es n e (λ i d lt is. above (suc i) d (omega arith) is) at tied)

    pub index_between : (es : List (K × X)) (n : ℕ) → n ≤ length es → IsAboveBefore es n → IsBelowFrom es n → index R q es ≡ Err n
    index_between [] zero le above below = refl
    index_between [] (suc n) le above below = absurd (omega arith)
    index_between (x ∷ es) zero le above below = ap (λ r. by_order r (Err zero) (Ok zero) (next (index R q es))) (below zero x (omega arith) refl)
    index_between (x ∷ es) (suc n) le above below =
        ap (λ r. by_order r (Err zero) (Ok zero) (next (index R q es))) (above zero x (omega arith) refl)
        ∙ ap next (index_between es n (omega arith) (λ i d lt is. above (suc i) d (omega arith) is) (λ i d le is. below (suc i) d (omega arith) is))

    module _ (o : IsTotalOrder R) (es : List (K × X)) (h : T (is_sorted R es)) (m : ℕ) (e : K × X) (at : slice_get es m ≡ Some e) where
      same_pair : (i : ℕ) (d : K × X) → i ≡ m → slice_get es i ≡ Some d → e ≡ d
      same_pair i d same is = same_Some e d (sym at ∙ ap (slice_get es) (sym same) ∙ is)

      pub above_up_to : R q e.0 ≡ Greater → IsAboveBefore es (m + 1)
      above_up_to above i d lt is = elim (before_or i m (omega arith)) [
        | inl less ↦ o.antisymm q d.0 ∙ ap ordering_reverse (o.trans d.0 e.0 q (rises o es i m d e h less is at) (o.antisymm e.0 q ∙ ap ordering_reverse above))
        | inr same ↦ subst (λ (y : K × X). R q y.0 ≡ Greater) (same_pair i d same is) above
      ]

      pub below_from : R q e.0 ≡ Less → IsBelowFrom es m
      below_from below i d le is = elim (before_or m i (omega arith)) [
        | inl less ↦ o.trans q e.0 d.0 below (rises o es m i e d h less at is)
        | inr same ↦ subst (λ (y : K × X). R q y.0 ≡ Less) (same_pair i d (sym same) is) below
      ]

      pub above_before : R q e.0 ≡ Equal → IsAboveBefore es m
      above_before tied i d lt is = o.congr q e.0 d.0 tied ∙ o.antisymm e.0 d.0 ∙ ap ordering_reverse (rises o es i m d e h lt is at)

      -- a key above the last pair
      pub index_past : m + 1 ≡ length es → R q e.0 ≡ Greater → index R q es ≡ Err (length es)
      index_past last above =
          index_between es (length es) (omega arith) (λ i d lt is. above_up_to above i d (omega (arith, last, lt)) is) (λ i d le is. absurd (no_later i d le is))
        where
          no_later : (i : ℕ) (d : K × X) → length es ≤ i → slice_get es i ≡ Some d → ⊥
          no_later i d le is = let within = slice_get_within es i d is in omega (arith, le, within)

    -- a key that would go to an index is above the pairs before it, and below those from it on
    above_later : (x : K × X) (es : List (K × X)) (n : ℕ) → R q x.0 ≡ Greater → IsAboveBefore es n → IsAboveBefore (x ∷ es) (suc n)
    above_later x es n first above zero e lt is = subst (λ (y : K × X). R q y.0 ≡ Greater) (same_Some x e is) first
    above_later x es n first above (suc i) e lt is = above i e (omega arith) is

    below_later : (x : K × X) (es : List (K × X)) (n : ℕ) → IsBelowFrom es n → IsBelowFrom (x ∷ es) (suc n)
    below_later x es n below zero e le is = absurd (omega arith)
    below_later x es n below (suc i) e le is = below i e (omega arith) is

    between_later : (x : K × X) (es : List (K × X)) (r : Result ℕ ℕ) → R q x.0 ≡ Greater → MatchResult r (λ n. Unit {0}) (λ n. IsAboveBefore es n × IsBelowFrom es n) → MatchResult (next r) (λ n. Unit {0}) (λ n. IsAboveBefore (x ∷ es) n × IsBelowFrom (x ∷ es) n)
    between_later x es (Ok n) first both = tt
    between_later x es (Err n) first both = (above_later x es n first both.0, below_later x es n both.1)

    module _ (o : IsTotalOrder R) where
      between : (es : List (K × X)) → T (is_sorted R es) → MatchResult (index R q es) (λ n. Unit {0}) (λ n. IsAboveBefore es n × IsBelowFrom es n)
      between [] h = (λ i e lt is. absurd (not_None e (sym is)), λ i e le is. absurd (not_None e (sym is)))
      between (x ∷ es) h =
          elim (R q x.0) as (λ r. R q x.0 ≡ r → MatchResult (by_order r (Err zero) (Ok zero) (next (index R q es))) (λ n. Unit {0}) (λ n. IsAboveBefore (x ∷ es) n × IsBelowFrom (x ∷ es) n)) [
            | Less ↦ λ below. (λ i e lt is. absurd (omega arith), below_from o (x ∷ es) h zero x refl below)
            | Equal ↦ λ tied. tt
            | Greater ↦ λ above. between_later x es (index R q es) above (between es (second _ _ h))
          ] refl

      pub goes_between : (es : List (K × X)) (n : ℕ) → T (is_sorted R es) → Err n ≡ index R q es → IsAboveBefore es n × IsBelowFrom es n
      goes_between es n h is = subst (λ r. MatchResult r (λ n. Unit {0}) (λ n. IsAboveBefore es n × IsBelowFrom es n)) (sym is) (between es h)

  -- ---- a look at each pair
  -- the pairs from an index on have at a key what the first of them has, where the keys tie, and else what those after it have
  pub find_from : (q : K) (es : List (K × X)) (i : ℕ) (e : K × X) (b : Bool) → i < length es → e ≡ get_or es i e → b ≡ is_eq (R q e.0) → find R q (drop i es) ≡ cond b (Some e.1) (find R q (drop (i + 1) es))
  find_from q es i e b within at tied =
      at_drop_more (find R q) es i e within
      ∙ ap (λ (d : K × X). cond (is_eq (R q d.0)) (Some d.1) (find R q (drop (i + 1) es))) (sym at)
      ∙ ap (λ (b : Bool). cond b (Some e.1) (find R q (drop (i + 1) es))) (sym tied)

  -- what is found stands at some index, where only equal keys tie
  pub index_of_found : IsAntisymmetric R → (q : K) (v : X) (es : List (K × X)) → find R q es ≡ Some v → (i : ℕ) × (slice_get es i ≡ Some (q, v))
  index_of_found same q v [] is = absurd (not_None v (sym is))
  index_of_found same q v (x ∷ es) is =
      elim (R q x.0) as (λ r. R q x.0 ≡ r → cond (is_eq r) (Some x.1) (find R q es) ≡ Some v → (i : ℕ) × (slice_get (x ∷ es) i ≡ Some (q, v))) [
        | Less ↦ λ _ is. let rest = index_of_found same q v es is in (suc rest.0, rest.1)
        | Equal ↦ λ tied is. (zero, λ i. Some (sym (same q x.0 tied) i, same_Some x.1 v is i))
        | Greater ↦ λ _ is. let rest = index_of_found same q v es is in (suc rest.0, rest.1)
      ] refl is

  -- ---- two lists that are woven
  module _ (f : X → X → X) where
    pub woven_none : (xs : List (K × X)) → woven R f xs [] ≡ xs
    woven_none [] = refl
    woven_none (x ∷ xs) = ap (λ l. x ∷ l) (woven_none xs)

    -- past the end of one list, what is left is one list after the other
    pub woven_end : (xs ys : List (K × X)) (i j : ℕ) → (length xs ≤ i) ⊎ (length ys ≤ j) → woven R f (drop i xs) (drop j ys) ≡ drop i xs ++ drop j ys
    woven_end xs ys i j (inl past) = ap (λ l. woven R f l (drop j ys)) (drop_of_length-le xs past) ∙ ap (λ l. l ++ drop j ys) (sym (drop_of_length-le xs past))
    woven_end xs ys i j (inr past) = ap (woven R f (drop i xs)) (drop_of_length-le ys past) ∙ woven_none (drop i xs) ∙ sym (ap (λ l. drop i xs ++ l) (drop_of_length-le ys past) ∙ append-nil (drop i xs))

    pub woven_less : (x y : K × X) (xs ys : List (K × X)) → R x.0 y.0 ≡ Less → woven R f (x ∷ xs) (y ∷ ys) ≡ x ∷ woven R f xs (y ∷ ys)
    woven_less x y xs ys is = ap (λ r. by_order r (x ∷ woven R f xs (y ∷ ys)) ((x.0, f x.1 y.1) ∷ woven R f xs ys) (y ∷ woven R f (x ∷ xs) ys)) is

    pub woven_equal : (x y : K × X) (xs ys : List (K × X)) → R x.0 y.0 ≡ Equal → woven R f (x ∷ xs) (y ∷ ys) ≡ (x.0, f x.1 y.1) ∷ woven R f xs ys
    woven_equal x y xs ys is = ap (λ r. by_order r (x ∷ woven R f xs (y ∷ ys)) ((x.0, f x.1 y.1) ∷ woven R f xs ys) (y ∷ woven R f (x ∷ xs) ys)) is

    pub woven_greater : (x y : K × X) (xs ys : List (K × X)) → R x.0 y.0 ≡ Greater → woven R f (x ∷ xs) (y ∷ ys) ≡ y ∷ woven R f (x ∷ xs) ys
    woven_greater x y xs ys is = ap (λ r. by_order r (x ∷ woven R f xs (y ∷ ys)) ((x.0, f x.1 y.1) ∷ woven R f xs ys) (y ∷ woven R f (x ∷ xs) ys)) is

    -- a key below both lists is below what they are woven to
    below_woven_pair : (k : K) (x : K × X) (xs : List (K × X)) → T (is_lt (R k x.0)) → ((ys : List (K × X)) → T (below_all R k ys) → T (below_all R k (woven R f xs ys))) → (ys : List (K × X)) → T (below_all R k ys) → T (below_all R k (woven R f (x ∷ xs) ys))
    below_woven_pair k x xs p after [] h = both _ _ p (after [] tt)
    below_woven_pair k x xs p after (y ∷ ys) h =
        elim (R x.0 y.0) as (λ r. T (below_all R k (by_order r (x ∷ woven R f xs (y ∷ ys)) ((x.0, f x.1 y.1) ∷ woven R f xs ys) (y ∷ woven R f (x ∷ xs) ys)))) [
          | Less ↦ both _ _ p (after (y ∷ ys) h)
          | Equal ↦ both _ _ p (after ys (second _ _ h))
          | Greater ↦ both _ _ (first _ _ h) (below_woven_pair k x xs p after ys (second _ _ h))
        ]

    pub below_woven : (k : K) (xs : List (K × X)) → T (below_all R k xs) → (ys : List (K × X)) → T (below_all R k ys) → T (below_all R k (woven R f xs ys))
    below_woven k [] g ys h = h
    below_woven k (x ∷ xs) g ys h = below_woven_pair k x xs (first _ _ g) (below_woven k xs (second _ _ g)) ys h

    module _ (o : IsTotalOrder R) where
      lt : (x y : K) → R x y ≡ Less → T (is_lt (R x y))
      lt x y p = subst (λ r. T (is_lt r)) (sym p) tt

      turned : (x y : K) → R x y ≡ Greater → R y x ≡ Less
      turned x y p = o.antisymm y x ∙ ap ordering_reverse p

      sorted_woven_pair : (x : K × X) (xs : List (K × X)) → T (below_all R x.0 xs) → ((ys : List (K × X)) → T (is_sorted R ys) → T (is_sorted R (woven R f xs ys))) → (ys : List (K × X)) → T (is_sorted R (x ∷ xs)) → T (is_sorted R ys) → T (is_sorted R (woven R f (x ∷ xs) ys))
      sorted_woven_pair x xs g after [] s h = both _ _ (below_woven x.0 xs g [] tt) (after [] tt)
      sorted_woven_pair x xs g after (y ∷ ys) s h =
          elim (R x.0 y.0) as (λ r. R x.0 y.0 ≡ r → T (is_sorted R (by_order r (x ∷ woven R f xs (y ∷ ys)) ((x.0, f x.1 y.1) ∷ woven R f xs ys) (y ∷ woven R f (x ∷ xs) ys)))) [
            | Less ↦ λ p. both _ _ (below_woven x.0 xs g (y ∷ ys) (both _ _ (lt _ _ p) (below_less o x.0 y.0 ys p (first _ _ h)))) (after (y ∷ ys) h)
            | Equal ↦ λ p. both _ _ (below_woven x.0 xs g ys (below_tied o x.0 y.0 ys p (first _ _ h))) (after ys (second _ _ h))
            | Greater ↦ λ p.
                let q = turned _ _ p in
                both _ _ (below_woven y.0 (x ∷ xs) (both _ _ (lt _ _ q) (below_less o y.0 x.0 xs q g)) ys (first _ _ h)) (sorted_woven_pair x xs g after ys s (second _ _ h))
          ] refl

      -- what two lists in order are woven to is in order
      pub sorted_woven : (xs : List (K × X)) → T (is_sorted R xs) → (ys : List (K × X)) → T (is_sorted R ys) → T (is_sorted R (woven R f xs ys))
      sorted_woven [] g ys h = h
      sorted_woven (x ∷ xs) g ys h = sorted_woven_pair x xs (first _ _ g) (sorted_woven xs (second _ _ g)) ys g h

      merged_none : (a : Option X) → merged_at f a None ≡ a
      merged_none None = refl
      merged_none (Some x) = refl

      -- the first pair of one list, where its key is below the other list
      merged_first : (b : Bool) (x : X) (a c : Option X) → (T b → c ≡ None) → cond b (Some x) (merged_at f a c) ≡ merged_at f (cond b (Some x) a) c
      merged_first true x a c none = sym (ap (merged_at f (Some x)) (none tt))
      merged_first false x a c none = refl

      merged_second : (b : Bool) (y : X) (a c : Option X) → (T b → a ≡ None) → cond b (Some y) (merged_at f a c) ≡ merged_at f a (cond b (Some y) c)
      merged_second true y a c none = sym (ap (λ a. merged_at f a (Some y)) (none tt))
      merged_second false y a c none = refl

      merged_both : (b : Bool) (x y : X) (a c : Option X) → cond b (Some (f x y)) (merged_at f a c) ≡ merged_at f (cond b (Some x) a) (cond b (Some y) c)
      merged_both true x y a c = refl
      merged_both false x y a c = refl

      equal : (r : Ordering) → T (is_eq r) → r ≡ Equal
      equal Less p = absurd p
      equal Equal p = refl
      equal Greater p = absurd p

      -- a key that ties with one below a list is not found in the list
      find_tied_below : (q x : K) (es : List (K × X)) → T (is_eq (R q x)) → T (below_all R x es) → find R q es ≡ None
      find_tied_below q x es tied h = find_below o q es (below_tied o q x es (equal _ tied) h)

      find_woven_pair : (q : K) (x : K × X) (xs : List (K × X)) → T (below_all R x.0 xs) → ((ys : List (K × X)) → T (is_sorted R ys) → find R q (woven R f xs ys) ≡ merged_at f (find R q xs) (find R q ys)) → (ys : List (K × X)) → T (is_sorted R ys) → find R q (woven R f (x ∷ xs) ys) ≡ merged_at f (find R q (x ∷ xs)) (find R q ys)
      find_woven_pair q x xs g after [] h = ap (cond (eq_by_cmp R q x.0) (Some x.1)) (after [] tt) ∙ merged_first _ _ _ None (λ _. refl)
      find_woven_pair q x xs g after (y ∷ ys) h =
          elim (R x.0 y.0) as (λ r. R x.0 y.0 ≡ r → find R q (by_order r (x ∷ woven R f xs (y ∷ ys)) ((x.0, f x.1 y.1) ∷ woven R f xs ys) (y ∷ woven R f (x ∷ xs) ys)) ≡ merged_at f (find R q (x ∷ xs)) (find R q (y ∷ ys))) [
            | Less ↦ λ p. ap (cond (eq_by_cmp R q x.0) (Some x.1)) (after (y ∷ ys) h) ∙ merged_first _ _ _ (find R q (y ∷ ys)) (λ tied. find_tied_below q x.0 (y ∷ ys) tied (both _ _ (lt _ _ p) (below_less o x.0 y.0 ys p (first _ _ h))))
            | Equal ↦ λ p. ap (cond (eq_by_cmp R q x.0) (Some (f x.1 y.1))) (after ys (second _ _ h)) ∙ merged_both (eq_by_cmp R q x.0) x.1 y.1 (find R q xs) (find R q ys) ∙ ap (λ r. merged_at f (find R q (x ∷ xs)) (cond (is_eq r) (Some y.1) (find R q ys))) (alike_right o x.0 y.0 q p)
            | Greater ↦ λ p.
                let less_key = turned _ _ p in
                ap (cond (eq_by_cmp R q y.0) (Some y.1)) (find_woven_pair q x xs g after ys (second _ _ h)) ∙ merged_second _ _ (find R q (x ∷ xs)) _ (λ tied. find_tied_below q y.0 (x ∷ xs) tied (both _ _ (lt _ _ less_key) (below_less o y.0 x.0 xs less_key g)))
          ] refl

      -- at each key, what they are woven to has what the two say of it together
      pub find_woven : (q : K) (xs : List (K × X)) → T (is_sorted R xs) → (ys : List (K × X)) → T (is_sorted R ys) → find R q (woven R f xs ys) ≡ merged_at f (find R q xs) (find R q ys)
      find_woven q [] g ys h = refl
      find_woven q (x ∷ xs) g ys h = find_woven_pair q x xs (first _ _ g) (find_woven q xs (second _ _ g)) ys h
