-- The indices of a set of processes among all, and back.
use Rattle.std.proofs.Common.{◌≡◌, ◌≢◌, ◌⊎◌, inl, inr, ℕ, zero, suc, ◌+◌, ◌<◌, ◌≤◌, Bool, true, false, ◌||◌, if◌then◌else◌, List, [], ◌∷◌, length, slice_get, Option, Some, None, refl, sym, ap, ◌∙◌, subst, arith, true≢false}
use Rattle.std.proofs.lemmas.Option.{same_Some}
use Rattle.std.specs.Ordering.{eq_by_cmp}
use Rattle.ak_address.specs.Unique.{UniqueModel, unique_cmp}
use Rattle.ak_address.specs.Uniques.{UniqueSet, no_one, has}
use Rattle.ak_address.proofs.TableLaws.{key_itself, same_key}
use Rattle.ak_address.proofs.UniquesLaws.{has-no_one, has-with_one}
use Rattle.ak_address.proofs.BoolLemmas.{none_there, or_either}
use Rattle.ak_gossip.specs.declared.part.Part.{Part}
use Rattle.ak_gossip.specs.Parts.{indices_of}
use Rattle.ak_gossip.specs.PartsWalk.{ascend_from, with_process, with_indices}
use Rattle.ak_gossip.proofs.PartsOrder.{IsHead, head_of, from_head, at_least}

-- ---- the indices of a set ascend
more_indices : (set : UniqueSet) (first end : ℕ) (who : UniqueModel) (es : List UniqueModel) (b : Bool) → first < end → ascend_from (first + 1) end (indices_of set (first + 1) es) ≡ true → ascend_from first end (if b then first ∷ indices_of set (first + 1) es else indices_of set (first + 1) es) ≡ true
more_indices set first end who es true lt h = from_head first end first (indices_of set (first + 1) es) (record { above = omega arith; below = lt; after = h })
more_indices set first end who es false lt h = from_later first end (indices_of set (first + 1) es) h
  where
    from_later : (first end : ℕ) (indices : List ℕ) → ascend_from (first + 1) end indices ≡ true → ascend_from first end indices ≡ true
    from_later first end [] h = refl
    from_later first end (p ∷ indices) h =
        let head : IsHead (first + 1) end p indices = head_of (first + 1) end p indices h in
        from_head first end p indices (record { above = omega (arith, head.above); below = head.below; after = head.after })

pub indices_ascend : (set : UniqueSet) (first end : ℕ) (es : List UniqueModel) → first + length es ≤ end → ascend_from first end (indices_of set first es) ≡ true
indices_ascend set first end [] le = refl
indices_ascend set first end (who ∷ es) le = more_indices set first end who es (has set who) (omega arith) (indices_ascend set (first + 1) end es (omega arith))

-- ---- from indices to indices
-- an index is among these
abbrev pub Has : List ℕ → ℕ → Type 0
Has indices p = (k : ℕ) × (slice_get indices k ≡ Some p)

-- these are the indices of those that are in the set, counted on from the first
pub record AreIndices (set : UniqueSet) (first : ℕ) (es : List UniqueModel) (indices : List ℕ) : Type 0 where
  pub within : (i p : ℕ) (who : UniqueModel) → p ≡ first + i → slice_get es i ≡ Some who → Has indices p → has set who ≡ true
  pub each : (i p : ℕ) (who : UniqueModel) → p ≡ first + i → slice_get es i ≡ Some who → has set who ≡ true → Has indices p

by_test : (set : UniqueSet) (first : ℕ) (who : UniqueModel) (es : List UniqueModel) (b : Bool) → has set who ≡ b → indices_of set first (who ∷ es) ≡ (if b then first ∷ indices_of set (first + 1) es else indices_of set (first + 1) es)
by_test set first who es b is = ap (λ b. if b then first ∷ indices_of set (first + 1) es else indices_of set (first + 1) es) is

none_here : (first end : ℕ) (indices : List ℕ) → ascend_from first end indices ≡ true → (Has indices first → ⊥) → ascend_from (first + 1) end indices ≡ true
none_here first end [] h never = refl
none_here first end (p ∷ indices) h never =
    let head : IsHead first end p indices = head_of first end p indices h in
    let other : p ≢ first = λ same. never (0, ap Some same) in
    from_head (first + 1) end p indices (record { above = omega (arith, head.above); below = head.below; after = head.after })

-- the first index is the head
first_is : (first end p : ℕ) (indices : List ℕ) → ascend_from first end (p ∷ indices) ≡ true → Has (p ∷ indices) first → p ≡ first
first_is first end p indices h (zero, is) = same_Some p first is
first_is first end p indices h (suc k, is) =
    let head : IsHead first end p indices = head_of first end p indices h in
    let later : p + 1 ≤ first = at_least (p + 1) end indices head.after k first is in
    absurd (omega (arith, head.above))

rest_after : (p q : ℕ) (indices : List ℕ) → q ≢ p → Has (p ∷ indices) q → Has indices q
rest_after p q indices other (zero, is) = absurd (other (sym (same_Some p q is)))
rest_after p q indices other (suc k, is) = (k, is)

-- how the first process stands to the indices, where the others do
by_case : (set : UniqueSet) (first end : ℕ) (who : UniqueModel) (es : List UniqueModel) (b : Bool)
    → ((indices : List ℕ) → ascend_from (first + 1) end indices ≡ true → AreIndices set (first + 1) es indices → indices_of set (first + 1) es ≡ indices)
    → has set who ≡ b → (indices : List ℕ) → ascend_from first end indices ≡ true → AreIndices set first (who ∷ es) indices → indices_of set first (who ∷ es) ≡ indices
by_case set first end who es true rest is [] h are = absurd (none_there first (are.each 0 first who (omega arith) refl is).1)
by_case set first end who es true rest is (p ∷ indices) h are =
    let head : IsHead first end p indices = head_of first end p indices h in
    let same : p ≡ first = first_is first end p indices h (are.each 0 first who (omega arith) refl is) in
    by_test set first who es true is
    ∙ ap (λ l. first ∷ l) (rest indices (subst (λ n. ascend_from (n + 1) end indices ≡ true) same head.after) (record {
      within = λ i q other at at_q there. are.within (suc i) q other (omega arith) at_q (suc there.0, there.1);
      each = λ i q other at at_q in_set. rest_after p q indices (λ eq. absurd (omega arith)) (are.each (suc i) q other (omega arith) at_q in_set);
    }))
    ∙ ap (λ n. n ∷ indices) (sym same)
by_case set first end who es false rest is indices h are =
    by_test set first who es false is
    ∙ rest indices (none_here first end indices h (λ there. true≢false (sym (are.within 0 first who (omega arith) refl there) ∙ is))) (record {
      within = λ i q other at at_q there. are.within (suc i) q other (omega arith) at_q there;
      each = λ i q other at at_q in_set. are.each (suc i) q other (omega arith) at_q in_set;
    })

pub indices_back : (set : UniqueSet) (first end : ℕ) (es : List UniqueModel) (indices : List ℕ) → end ≡ first + length es → ascend_from first end indices ≡ true → AreIndices set first es indices → indices_of set first es ≡ indices
indices_back set first end [] [] whole h are = refl
indices_back set first end [] (p ∷ indices) whole h are =
    let head : IsHead first end p indices = head_of first end p indices h in
    absurd (omega (arith, head.above, head.below))
indices_back set first end (who ∷ es) indices whole h are =
    by_case set first end who es (has set who) (λ rest g be. indices_back set (first + 1) end es rest (omega arith) g be) refl indices h are

-- ---- from indices to processes
-- the process of the part at one of the indices
pub record From (parts : List Part) (indices : List ℕ) (q : UniqueModel) : Type 0 where
  pub k : ℕ
  pub index : ℕ
  pub part : Part
  pub at : slice_get indices k ≡ Some index
  pub there : slice_get parts index ≡ Some part
  pub is : q ≡ part.unique

module _ (parts : List Part) where
  with_more : (set : UniqueSet) (o : Option Part) (q : UniqueModel) → has set q ≡ true → has (with_process set o) q ≡ true
  with_more set None q h = h
  with_more set (Some part) q h = has-with_one set part.unique q ∙ or_right (eq_by_cmp unique_cmp q part.unique) (has set q) h
    where
      or_right : (a b : Bool) → b ≡ true → (a || b) ≡ true
      or_right true b h = refl
      or_right false b h = h

  pub stays_in : (set : UniqueSet) (indices : List ℕ) (q : UniqueModel) → has set q ≡ true → has (with_indices parts set indices) q ≡ true
  stays_in set [] q h = h
  stays_in set (p ∷ indices) q h = stays_in (with_process set (slice_get parts p)) indices q (with_more set (slice_get parts p) q h)

  pub comes_in : (set : UniqueSet) (indices : List ℕ) (k index : ℕ) (part : Part) → slice_get indices k ≡ Some index → slice_get parts index ≡ Some part → has (with_indices parts set indices) part.unique ≡ true
  comes_in set [] k index part at there = absurd (none_there index at)
  comes_in set (p ∷ indices) zero index part at there =
      let here : slice_get parts p ≡ Some part = ap (slice_get parts) (same_Some p index at) ∙ there in
      stays_in (with_process set (slice_get parts p)) indices part.unique
      (ap (λ o. has (with_process set o) part.unique) here ∙ has-with_one set part.unique part.unique ∙ ap (λ b. b || has set part.unique) (key_itself part.unique))
  comes_in set (p ∷ indices) (suc k) index part at there = comes_in (with_process set (slice_get parts p)) indices k index part at there

  from_one : (set : UniqueSet) (o : Option Part) (q : UniqueModel) → has (with_process set o) q ≡ true → (has set q ≡ true) ⊎ ((part : Part) × (o ≡ Some part) × (q ≡ part.unique))
  from_one set None q h = inl h
  from_one set (Some part) q h = elim (or_either (eq_by_cmp unique_cmp q part.unique) (has set q) (sym (has-with_one set part.unique q) ∙ h)) [
    | inl tied ↦ inr (part, refl, same_key q part.unique tied)
    | inr before ↦ inl before
  ]

  pub comes_from : (set : UniqueSet) (indices : List ℕ) (q : UniqueModel) → has (with_indices parts set indices) q ≡ true → (has set q ≡ true) ⊎ From parts indices q
  comes_from set [] q h = inl h
  comes_from set (p ∷ indices) q h = elim (comes_from (with_process set (slice_get parts p)) indices q h) [
    | inl here ↦ elim (from_one set (slice_get parts p) q here) [
      | inl before ↦ inl before
      | inr one ↦ inr (record { k = 0; index = p; part = one.0; at = refl; there = one.1; is = one.2 })
    ]
    | inr later ↦ inr (record { k = suc later.k; index = later.index; part = later.part; at = later.at; there = later.there; is = later.is })
  ]

  pub in_indices : (indices : List ℕ) (q : UniqueModel) → has (with_indices parts no_one indices) q ≡ true → From parts indices q
  in_indices indices q h = elim (comes_from no_one indices q h) [
    | inl here ↦ absurd (true≢false (sym here ∙ has-no_one q))
    | inr later ↦ later
  ]
