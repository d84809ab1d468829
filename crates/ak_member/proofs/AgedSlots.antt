-- What is kept beside the slots: as they come, change and are copied; and the oldest, which is the first of the list by age.
use Rattle.std.proofs.Common.{◌≡◌, ℕ, zero, suc, ◌<◌, ◌≤◌, Bool, true, false, cond, IsTrue, List, [], ◌∷◌, ◌++◌, length, get_or, slice_get, Option, Some, None, is_some, unwrap_or, option_map, ◌⊎◌, inl, inr, refl, sym, ap, ◌∙◌, subst, arith, true≢false}
use Rattle.std.proofs.lemmas.Option.{none-some, same_Some, slice_get-get_or, get_or_from_slice_get}
use Rattle.std.proofs.lemmas.Cmp.{by_ranked, ranked}
use Rattle.std.specs.declared.cmp.Ordering.TheVariants.{Less}
use Rattle.std.specs.Ordering.{is_lt, nat_cmp, ordering_then, ordering_reverse}
use Rattle.std.specs.List.{IsDistinct}
use Rattle.std.specs.Map.{keys_of}
use Rattle.std.specs.FinMap as map
use Rattle.ak_address.specs.Unique.{UniqueModel, unique_cmp}
use Rattle.ak_address.proofs.OrderLemmas.{unique_total, unique_exact}
use Rattle.ak_address.proofs.Pairs.{first, below_at, index_of_found}
use Rattle.ak_address.proofs.TableLaws.{is_true}
use Rattle.ak_member.specs.declared.status.Status.{Status}
use Rattle.ak_member.specs.declared.standing.Standing.{Standing}
use Rattle.ak_member.specs.declared.standing.Standing.TheVariants.{Member, Buried}
use Rattle.ak_member.specs.Standing.{Standings, as_member, member_of}
use Rattle.ak_member.specs.Age.{counts, IsCounted, IsOldest}
use Rattle.ak_member.specs.Ages.{age, AgeKey, age_cmp, age_at, has_age, has_age_but, key_at, keyed, Lists, AreByAge, KeepsSlots}
use Rattle.ak_member.specs.Slots.{Slot, no_slot, standings_of, InOrder}
use Rattle.ak_member.proofs.SlotLemmas.{same_unique, found_by_slot, no_slots}
use Rattle.ak_member.proofs.AgeLemmas.{age_total, age_exact, lists_at, lists_short, within_of_age, but_for_last}

-- ---- what is kept
no_ages : AreByAge [] []
no_ages = record { sorted = refl; all = λ place counted. absurd (true≢false (sym counted)); only = λ q place found. absurd (none-some place found) }

pub keeps_none : (slots : List Slot) (places by_age : List ℕ) (capacity : ℕ) → slots ≡ [] → places ≡ [] → by_age ≡ [] → KeepsSlots slots places by_age capacity
keeps_none slots places by_age capacity none no_places no_ages_yet =
    subst (λ es. KeepsSlots es places by_age capacity) (sym none)
    (subst (λ ps. KeepsSlots [] ps by_age capacity) (sym no_places) (subst (λ ages. KeepsSlots [] [] ages capacity) (sym no_ages_yet) (record { in_order = no_slots [] [] refl refl; ages = no_ages; roomy = omega arith })))

-- with more room
pub keeps_same : (slots others : List Slot) (places as_placed by_age as_aged : List ℕ) (capacity room : ℕ) → KeepsSlots slots places by_age capacity → others ≡ slots → as_placed ≡ places → as_aged ≡ by_age → capacity ≤ room → KeepsSlots others as_placed as_aged room
keeps_same slots others places as_placed by_age as_aged capacity room k same placed aged more =
    subst (λ es. KeepsSlots es as_placed as_aged room) (sym same)
    (subst (λ ps. KeepsSlots slots ps as_aged room) (sym placed)
    (subst (λ ages. KeepsSlots slots places ages room) (sym aged) (record { in_order = k.in_order; ages = k.ages; roomy = (let roomy = k.roomy in omega (arith, roomy, more)) })))

-- a copy that has room for as many
pub keeps_copied : (slots others : List Slot) (places as_placed by_age as_aged : List ℕ) (capacity room : ℕ) → KeepsSlots slots places by_age capacity → others ≡ slots → as_placed ≡ places → as_aged ≡ by_age → length others ≤ room → KeepsSlots others as_placed as_aged room
keeps_copied slots others places as_placed by_age as_aged capacity room k same placed aged more =
    record {
      in_order = subst (λ es. InOrder es as_placed) (sym same) (subst (InOrder slots) (sym placed) k.in_order);
      ages = subst (λ es. AreByAge es as_aged) (sym same) (subst (AreByAge slots) (sym aged) k.ages);
      roomy = more;
    }

pub few_ages : (slots : List Slot) (by_age : List ℕ) → AreByAge slots by_age → length by_age ≤ length slots
few_ages slots by_age l = lists_short (has_age slots) (key_at slots) by_age l (length slots) (within_of_age slots)

-- ---- a slot that counts, and a member that does
age_member : (x : Standing) (number : ℕ) → age x ≡ Some number → (status : Status) × (as_member x ≡ Some (status, number)) × IsTrue (counts status)
age_member (Buried confirmed) number is = absurd (none-some number is)
age_member (Member status found) number is = by (counts status) refl is
  where
    by : (b : Bool) → counts status ≡ b → cond b (Some found) None ≡ Some number → (s : Status) × (◌≡◌ {A = Option (Status × ℕ)} (Some (status, found)) (Some (s, number))) × IsTrue (counts s)
    by true counted is = (status, ap (λ n. Some (status, n)) (same_Some found number is), counted)
    by false _ is = absurd (none-some number is)

member_age : (x : Standing) (status : Status) (number : ℕ) → as_member x ≡ Some (status, number) → IsTrue (counts status) → age x ≡ Some number
member_age (Buried confirmed) status number is counted = absurd (none-some (status, number) is)
member_age (Member found n) status number is counted =
    let same = same_Some (found, n) (status, number) is in
    ap (λ (m : Status × ℕ). cond (counts m.0) (Some m.1) None) same ∙ ap (λ b. cond b (Some number) None) counted

module _ (slots : List Slot) (apart : IsDistinct same_unique (keys_of slots)) where
  -- the slot at a place counts, with its number
  counted_slot : (place : ℕ) → has_age slots place ≡ true → IsCounted (standings_of slots) (key_at slots place).1 (key_at slots place).0
  counted_slot place counted = by (age_at slots place) refl counted
    where
      by : (o : Option ℕ) → age_at slots place ≡ o → is_some o ≡ true → IsCounted (standings_of slots) (key_at slots place).1 (key_at slots place).0
      by None here uncounted = absurd (true≢false (sym uncounted))
      by (Some number) here _ =
          let slot = get_or slots place no_slot in
          let m = age_member slot.1 number here in
          let at = slice_get-get_or slots place no_slot (within_of_age slots place counted) in
          subst (IsCounted (standings_of slots) slot.0) (ap (λ (o : Option ℕ). unwrap_or o 0) (sym here)) (m.0, ap member_of (found_by_slot slots place slot.0 slot.1 apart at) ∙ m.1, m.2)

  -- and a member that counts has one
  slot_counted : (who : UniqueModel) (number : ℕ) → IsCounted (standings_of slots) who number → (place : ℕ) × (has_age slots place ≡ true) × (key_at slots place ≡ (number, who))
  slot_counted who number c = by (map.get (standings_of slots) who) refl c.1
    where
      by : (o : Option Standing) → map.get (standings_of slots) who ≡ o → member_of o ≡ Some (c.0, number) → (place : ℕ) × (has_age slots place ≡ true) × (key_at slots place ≡ (number, who))
      by None here is = absurd (none-some (c.0, number) is)
      by (Some x) here is =
          let at = index_of_found unique_cmp unique_exact who x slots (sym (map.get-from_entries unique_total slots who) ∙ here) in
          let slot : get_or slots at.0 no_slot ≡ (who, x) = get_or_from_slice_get slots at.0 (who, x) no_slot at.1 in
          let aged : age_at slots at.0 ≡ Some number = ap (λ (s : Slot). age s.1) slot ∙ member_age x c.0 number is c.2 in
          (at.0, ap is_some aged, λ i. (unwrap_or (aged i) 0, (slot i).0))

  -- ---- the first of the list by age
  key_less : (n m : ℕ) (u v : UniqueModel) → ordering_then (nat_cmp n m) (unique_cmp u v) ≡ Less → (n < m) ⊎ ((n ≡ m) × ((v ≡ u) ⊎ (unique_cmp u v ≡ Less)))
  key_less n m u v is =
      by_ranked (n < m) (n ≡ m) (m < n) (nat_cmp n m) (ranked n m (nat_cmp n m) refl)
      (λ _ less. inl less)
      (λ tied same. inr (same, inr (sym (ap (λ o. ordering_then o (unique_cmp u v)) tied) ∙ is)))
      (λ more _. absurd (true≢false (sym (ap is_lt (sym (ap (λ o. ordering_then o (unique_cmp u v)) more) ∙ is)))))

  first_least : (p : ℕ) (by_age : List ℕ) → AreByAge slots (p ∷ by_age) → (other : UniqueModel) (later : ℕ) → IsCounted (standings_of slots) other later
      → ((key_at slots p).0 < later) ⊎ (((key_at slots p).0 ≡ later) × ((other ≡ (key_at slots p).1) ⊎ (unique_cmp (key_at slots p).1 other ≡ Less)))
  first_least p by_age l other later c =
      let s = slot_counted other later c in
      let es = keyed (key_at slots) (p ∷ by_age) in
      let found = ap (λ q. map.find age_cmp q es) (sym s.2) ∙ l.all s.0 s.1 in
      let at = index_of_found age_cmp age_exact (later, other) s.0 es found in
      at_index at.0 s.0 at.1
    where
      at_index : (i place : ℕ) → slice_get (keyed (key_at slots) (p ∷ by_age)) i ≡ Some ((later, other), place)
          → ((key_at slots p).0 < later) ⊎ (((key_at slots p).0 ≡ later) × ((other ≡ (key_at slots p).1) ⊎ (unique_cmp (key_at slots p).1 other ≡ Less)))
      at_index zero place is = let same = ap (λ (e : AgeKey × ℕ). e.0) (same_Some (key_at slots p, p) ((later, other), place) is) in inr (ap (λ (k : AgeKey). k.0) same, inl (ap (λ (k : AgeKey). k.1) (sym same)))
      at_index (suc i) place is =
          key_less (key_at slots p).0 later (key_at slots p).1 other (below_at age_cmp age_total (key_at slots p) (keyed (key_at slots) by_age) i ((later, other), place) (first _ _ (is_true _ l.sorted)) is)

-- without the order's laws: the section above has them
pub first_is_oldest : (slots : List Slot) (by_age : List ℕ) → IsDistinct same_unique (keys_of slots) → AreByAge slots by_age → (p : ℕ) → slice_get by_age 0 ≡ Some p → (o : Option UniqueModel) → o ≡ option_map (λ (s : Slot). s.0) (slice_get slots p) → IsOldest (standings_of slots) o
first_is_oldest slots [] apart l p at o is = absurd (none-some p at)
first_is_oldest slots (q ∷ by_age) apart l p at o is =
    let counted : has_age slots q ≡ true = lists_at (has_age slots) (key_at slots) (q ∷ by_age) l 0 q refl in
    let here : o ≡ Some (key_at slots q).1 = is ∙ ap (λ p. option_map (λ (s : Slot). s.0) (slice_get slots p)) (sym (same_Some q p at)) ∙ ap (option_map (λ (s : Slot). s.0)) (slice_get-get_or slots q no_slot (within_of_age slots q counted)) in
    subst (IsOldest (standings_of slots)) (sym here) ((key_at slots q).0, counted_slot slots apart q counted, first_least slots apart q by_age l)

pub none_is_oldest : (slots : List Slot) (by_age : List ℕ) → IsDistinct same_unique (keys_of slots) → AreByAge slots by_age → slice_get by_age 0 ≡ None → IsOldest (standings_of slots) None
none_is_oldest slots (q ∷ by_age) apart l none = absurd (none-some q (sym none))
none_is_oldest slots [] apart l none = λ who number c. let s = slot_counted slots apart who number c in none-some s.0 (l.all s.0 s.1)

-- ---- there is one oldest
pub one_oldest : (s : Standings) (a b : Option UniqueModel) → IsOldest s a → IsOldest s b → a ≡ b
one_oldest s None None p q = refl
one_oldest s None (Some v) p q = absurd (p v q.0 q.1)
one_oldest s (Some u) None p q = absurd (q u p.0 p.1)
one_oldest s (Some u) (Some v) p q = ap Some (by (p.2 v q.0 q.1) (q.2 u p.0 p.1))
  where
    by : (p.0 < q.0) ⊎ ((p.0 ≡ q.0) × ((v ≡ u) ⊎ (unique_cmp u v ≡ Less))) → (q.0 < p.0) ⊎ ((q.0 ≡ p.0) × ((u ≡ v) ⊎ (unique_cmp v u ≡ Less))) → u ≡ v
    by (inl less) (inl more) = absurd (omega (arith, less, more))
    by (inl less) (inr tied) = absurd (let same = tied.0 in omega (arith, less, same))
    by (inr tied) (inl more) = absurd (let same = tied.0 in omega (arith, same, more))
    by (inr one) (inr other) = elim one.1 [
      | inl same ↦ sym same
      | inr below ↦ elim other.1 [
        | inl same ↦ same
        | inr above ↦ absurd (true≢false (ap is_lt (sym below ∙ unique_total.antisymm u v ∙ ap ordering_reverse above)))
      ]
    ]

-- a slot more is not in the list by age yet
pub out_of_last : (slots more : List Slot) (slot : Slot) (by_age as_aged : List ℕ) (n : ℕ) → more ≡ slots ++ slot ∷ [] → as_aged ≡ by_age → n ≡ length slots → AreByAge slots by_age → Lists (has_age_but n more) (key_at more) as_aged
out_of_last slots more slot by_age as_aged n last same at l =
    subst (λ n. Lists (has_age_but n more) (key_at more) as_aged) (sym at)
    (subst (λ es. Lists (has_age_but (length slots) es) (key_at es) as_aged) (sym last)
    (subst (λ ages. Lists (has_age_but (length slots) (slots ++ slot ∷ [])) (key_at (slots ++ slot ∷ [])) ages) (sym same) (but_for_last slots slot by_age l)))
