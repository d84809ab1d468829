-- The places of the slots that count, the oldest first: what a search tells, and what becomes of them where a slot comes or changes.
use Rattle.std.proofs.Common.{◌≡◌, ◌≢◌, ℕ, zero, suc, ◌+◌, ◌<◌, ◌≤◌, Bool, true, false, cond, not, ◌&&◌, ◌||◌, eqb, nat_eq, IsTrue, List, [], ◌∷◌, ◌++◌, length, insert, remove, get_or, slice_get, Option, Some, None, is_some, unwrap_or, option_map, Contains, Ok, Err, refl, sym, ap, ◌∙◌, subst, arith, true≢false}
use Rattle.std.proofs.lemmas.Option.{none-some, same_Some, slice_get-map, slice_get-get_or}
use Rattle.std.proofs.lemmas.Bool.{ne_eqb, eq-eqb, or_left, or_right}
use Rattle.std.proofs.lemmas.Bool.Decides.{Decides-eqb}
use Rattle.std.proofs.lemmas.List.{length-map, length-append, get_or_append_left}
use Rattle.std.proofs.lemmas.Map.Keys.{IsDistinct-from_apart}
use Rattle.std.proofs.lemmas.Map.Steps.{length-le_from_distinct_below}
use Rattle.std.proofs.lemmas.Map.Lookups.{exact_pairs, exact_unsigned}
use Rattle.std.proofs.lemmas.Cmp.{on_total, then_total, nat_cmp_total}
use Rattle.std.specs.declared.cmp.Ordering.TheVariants.{Less, Equal, Greater}
use Rattle.std.specs.Ordering.{is_eq, eq_by_cmp, nat_cmp}
use Rattle.std.specs.Cmp.{IsTotalOrder, tied_itself, first_so}
use Rattle.std.specs.List.{AllByRecursion, IsDistinct}
use Rattle.std.specs.Map.{keys_of}
use Rattle.std.specs.FinMap as map
use Rattle.std.specs.FinMap.{IsAntisymmetric}
use Rattle.std.specs.FinMap.Entries.{where_key, find-put, find-where_key, is_sorted-put, is_sorted-where_key}
use Rattle.indexmap.proofs.SetLemmas.{map-insert, map-remove}
use Rattle.indexmap.specs.IndexMap.{set_value_at}
use Rattle.ak_address.specs.Unique.{UniqueModel, unique_cmp}
use Rattle.ak_address.specs.Pairs.{index}
use Rattle.ak_address.proofs.Elements.{any_found, index_of}
use Rattle.ak_address.proofs.OrderLemmas.{unique_total, unique_exact}
use Rattle.ak_address.proofs.Pairs.{Stands, Goes, known, find_at, rises}
use Rattle.ak_address.proofs.TableLaws.{is_true, true_is, key_itself}
use Rattle.ak_member.specs.declared.standing.Standing.{Standing}
use Rattle.ak_member.specs.Ages.{age, AgeKey, age_cmp, age_at, has_age, has_age_but, key_at, keyed, Lists, AreByAge}
use Rattle.ak_member.specs.Slots.{Slot, no_slot}
use Rattle.ak_member.proofs.SlotLemmas.{same_unique, same_as_ties, all_of}

-- ---- the order
pub age_total : IsTotalOrder age_cmp
age_total = then_total (on_total (λ r. r.0) nat_cmp_total) (on_total (λ r. r.1) unique_total)

pub age_exact : IsAntisymmetric age_cmp
age_exact a b tied = exact_pairs nat_cmp unique_cmp exact_unsigned unique_exact a b tied

age_itself : (q : AgeKey) → eq_by_cmp age_cmp q q ≡ true
age_itself q = ap is_eq (tied_itself age_total q)

is_equal : (o : _) → is_eq o ≡ true → o ≡ Equal
is_equal Less h = absurd (true≢false (sym h))
is_equal Equal h = refl
is_equal Greater h = absurd (true≢false (sym h))

same_age : (q k : AgeKey) → eq_by_cmp age_cmp q k ≡ true → q ≡ k
same_age q k h = age_exact q k (is_equal (age_cmp q k) h)

-- ---- numbers and tests
same_number : (p q : ℕ) → nat_eq p q ≡ true → p ≡ q
same_number p q h = (Decides-eqb p q).0 h

itself : (p : ℕ) → nat_eq p p ≡ true
itself p = eq-eqb p p refl

and_second : (a b : Bool) → (a && not b) ≡ true → b ≡ false
and_second true true h = absurd (true≢false (sym h))
and_second true false h = refl
and_second false b h = absurd (true≢false (sym h))

and_both : (a b : Bool) → a ≡ true → b ≡ false → (a && not b) ≡ true
and_both a b h g = λ i. h i && not (g i)

or_either : (a b : Bool) → (a || b) ≡ true → b ≡ false → a ≡ true
or_either true b h g = refl
or_either false b h g = absurd (true≢false (sym h ∙ g))

-- ---- lists of places
module _ (wanted : ℕ → Bool) (key : ℕ → AgeKey) (places : List ℕ) (l : Lists wanted key places) where
  pub lists_at : (i place : ℕ) → slice_get places i ≡ Some place → wanted place ≡ true
  lists_at i place is =
      (l.only (key place) place
      (find_at age_cmp age_total (keyed key places) i (key place, place) (is_true _ l.sorted) (slice_get-map (λ place. (key place, place)) places i ∙ ap (option_map (λ place. (key place, place))) is))).0

  lists_member : (place : ℕ) → Contains places place → wanted place ≡ true
  lists_member place there = let at = index_of places place there in lists_at at.0 place at.1

  -- a search tells whether a place is listed
  pub listed_nowhere : (place n : ℕ) → wanted place ≡ true → Err n ≡ index age_cmp (key place) (keyed key places) → ⊥
  listed_nowhere place n is goes =
      let g : Goes age_cmp (key place) (keyed key places) n = known age_cmp age_total age_exact (key place) (keyed key places) (is_true _ l.sorted) (Err n) goes in
      none-some place (sym g.absent ∙ l.all place is)

  pub listed_here : (q : AgeKey) (n : ℕ) → Ok n ≡ index age_cmp q (keyed key places) → (place : ℕ) × (n < length places) × (wanted place ≡ true) × (key place ≡ q)
  listed_here q n stands =
      let s : Stands age_cmp q (keyed key places) n = known age_cmp age_total age_exact q (keyed key places) (is_true _ l.sorted) (Ok n) stands in
      let here = get_or (keyed key places) n (q, 0) in
      let found = s.found ∙ ap (option_map (λ (e : AgeKey × ℕ). e.1)) (slice_get-get_or (keyed key places) n (q, 0) s.in_range) in
      let o = l.only q here.1 found in
      (here.1, omega (arith, s.in_range, length-map {B = AgeKey × ℕ} places (λ place. (key place, place))), o.0, o.1)

  pub goes_within : (q : AgeKey) (n : ℕ) → Err n ≡ index age_cmp q (keyed key places) → n ≤ length places
  goes_within q n goes =
      let g : Goes age_cmp q (keyed key places) n = known age_cmp age_total age_exact q (keyed key places) (is_true _ l.sorted) (Err n) goes in
      omega (arith, g.in_range, length-map {B = AgeKey × ℕ} places (λ place. (key place, place)))

  -- a place is taken out
  pub taken_out : (slot n : ℕ) → wanted slot ≡ true → Ok n ≡ index age_cmp (key slot) (keyed key places) → Lists (λ place. wanted place && not (nat_eq place slot)) key (remove places n)
  taken_out slot n is stands =
      let es = keyed key places in
      let s : Stands age_cmp (key slot) es n = known age_cmp age_total age_exact (key slot) es (is_true _ l.sorted) (Ok n) stands in
      let others : AgeKey → Bool = λ x. not (eq_by_cmp age_cmp (key slot) x) in
      let left : keyed key (remove places n) ≡ where_key age_cmp others es = map-remove (λ place. (key place, place)) places n ∙ sym s.without in
      let find_left : (q : AgeKey) → map.find age_cmp q (keyed key (remove places n)) ≡ cond (others q) (map.find age_cmp q es) None =
      λ q. ap (map.find age_cmp q) left ∙ find-where_key age_cmp others q (λ x tied. ap others (sym (age_exact q x tied))) es in
      record {
        sorted = subst (λ fs. IsTrue (map.is_sorted age_cmp fs)) (sym left) (true_is _ (is_sorted-where_key age_cmp others es (is_true _ l.sorted)));
        all = λ place h. find_left (key place) ∙ all_left place (first_so _ _ h) (and_second _ _ h) (eq_by_cmp age_cmp (key slot) (key place)) refl;
        only = λ q place found. only_left q place (eq_by_cmp age_cmp (key slot) q) refl (sym (find_left q) ∙ found);
      }
    where
      all_left : (place : ℕ) → wanted place ≡ true → nat_eq place slot ≡ false → (b : Bool) → eq_by_cmp age_cmp (key slot) (key place) ≡ b → cond (not b) (map.find age_cmp (key place) (keyed key places)) None ≡ Some place
      all_left place want other true same =
          let k = same_age (key slot) (key place) same in
          let one = same_Some slot place (sym (l.all slot is) ∙ ap (λ q. map.find age_cmp q (keyed key places)) k ∙ l.all place want) in
          absurd (true≢false (sym (eq-eqb place slot (sym one)) ∙ other))
      all_left place want other false same = l.all place want

      only_left : (q : AgeKey) (place : ℕ) (b : Bool) → eq_by_cmp age_cmp (key slot) q ≡ b → cond (not b) (map.find age_cmp q (keyed key places)) None ≡ Some place → ((wanted place && not (nat_eq place slot)) ≡ true) × (key place ≡ q)
      only_left q place true same found = absurd (none-some place found)
      only_left q place false same found =
          let o = l.only q place found in
          let other : nat_eq place slot ≡ false = ne_eqb place slot (λ one. true≢false (sym (ap (eq_by_cmp age_cmp (key slot)) (sym o.1 ∙ ap key one) ∙ age_itself (key slot)) ∙ same)) in
          (and_both (wanted place) (nat_eq place slot) o.0 other, o.1)

  -- a place is put in
  pub put_in : (slot n : ℕ) → Err n ≡ index age_cmp (key slot) (keyed key places) → Lists (λ place. wanted place || nat_eq place slot) key (insert places n slot)
  put_in slot n goes =
      let es = keyed key places in
      let g : Goes age_cmp (key slot) es n = known age_cmp age_total age_exact (key slot) es (is_true _ l.sorted) (Err n) goes in
      let more : keyed key (insert places n slot) ≡ map.put age_cmp (key slot) slot es = map-insert (λ place. (key place, place)) places n slot ∙ sym (g.put_there slot) in
      let find_more : (q : AgeKey) → map.find age_cmp q (keyed key (insert places n slot)) ≡ cond (eq_by_cmp age_cmp q (key slot)) (Some slot) (map.find age_cmp q es) =
      λ q. ap (map.find age_cmp q) more ∙ find-put age_cmp age_total q (key slot) slot es in
      record {
        sorted = subst (λ fs. IsTrue (map.is_sorted age_cmp fs)) (sym more) (true_is _ (is_sorted-put age_cmp age_total (key slot) slot es (is_true _ l.sorted)));
        all = λ place h. find_more (key place) ∙ all_more place h (nat_eq place slot) refl (eq_by_cmp age_cmp (key place) (key slot)) refl g.absent;
        only = λ q place found. only_more q place (eq_by_cmp age_cmp q (key slot)) refl (sym (find_more q) ∙ found);
      }
    where
      all_more : (place : ℕ) → (wanted place || nat_eq place slot) ≡ true → (t : Bool) → nat_eq place slot ≡ t → (b : Bool) → eq_by_cmp age_cmp (key place) (key slot) ≡ b → map.find age_cmp (key slot) (keyed key places) ≡ None
          → cond b (Some slot) (map.find age_cmp (key place) (keyed key places)) ≡ Some place
      all_more place h true one true same absent = ap Some (sym (same_number place slot one))
      all_more place h true one false same absent = absurd (true≢false (sym (ap (λ p. eq_by_cmp age_cmp (key p) (key slot)) (same_number place slot one) ∙ age_itself (key slot)) ∙ same))
      all_more place h false other true same absent =
          absurd (none-some place (sym absent ∙ ap (λ q. map.find age_cmp q (keyed key places)) (sym (same_age (key place) (key slot) same)) ∙ l.all place (or_either _ _ h other)))
      all_more place h false other false same absent = l.all place (or_either _ _ h other)

      only_more : (q : AgeKey) (place : ℕ) (b : Bool) → eq_by_cmp age_cmp q (key slot) ≡ b → cond b (Some slot) (map.find age_cmp q (keyed key places)) ≡ Some place → ((wanted place || nat_eq place slot) ≡ true) × (key place ≡ q)
      only_more q place true same found =
          let one = same_Some slot place found in (or_right (wanted place) (nat_eq place slot) (eq-eqb place slot (sym one)), ap key (sym one) ∙ sym (same_age q (key slot) same))
      only_more q place false same found = let o = l.only q place found in (or_left (wanted place) (nat_eq place slot) o.0, o.1)

  -- each is listed once, so there are no more than there are slots
  lists_distinct : IsDistinct eqb places
  lists_distinct =
      IsDistinct-from_apart eqb places
      (λ i j d lt within.
      ne_eqb _ _ (λ same.
      let at : (i : ℕ) → i < length places → slice_get (keyed key places) i ≡ Some (key (get_or places i d), get_or places i d) =
      λ i within. slice_get-map (λ place. (key place, place)) places i ∙ ap (option_map (λ place. (key place, place))) (slice_get-get_or places i d within) in
      let one = get_or places i d in
      let rise = rises age_cmp age_total (keyed key places) i j (key one, one) (key one, one) (is_true _ l.sorted) lt (at i (omega (arith, lt, within))) (at j within ∙ ap (λ p. Some (key p, p)) (sym same)) in
      less_equal (sym rise ∙ tied_itself age_total (key one))))
    where
      less_equal : Less ≡ Equal → ⊥
      less_equal e = true≢false (sym (ap is_eq e))

  pub lists_short : (many : ℕ) → ((place : ℕ) → wanted place ≡ true → place < many) → length places ≤ many
  lists_short many below =
      length-le_from_distinct_below places many lists_distinct
      (λ q any. let f = any_found (eqb q) places any in subst (λ p. p < many) (sym (same_number q f.0 f.2)) (below f.0 (lists_member f.0 f.1)))

  all_from : (P : ℕ → Type 0) (ps : List ℕ) → ((i place : ℕ) → slice_get ps i ≡ Some place → P place) → AllByRecursion P ps
  all_from P [] each = tt
  all_from P (p ∷ ps) each = (each 0 p refl, all_from P ps (λ i place is. each (suc i) place is))

  pub lists_all : AllByRecursion (λ place. wanted place ≡ true) places
  lists_all = all_from (λ place. wanted place ≡ true) places lists_at

  -- and one that is not listed has room
  pub lists_shorter : (many slot : ℕ) → ((place : ℕ) → wanted place ≡ true → place < many) → slot < many → wanted slot ≡ false → length places + 1 ≤ many
  unfolding IsDistinct
  lists_shorter many slot below within unlisted =
      let more : length (slot ∷ places) ≤ many =
      length-le_from_distinct_below (slot ∷ places) many (
        all_from (λ place. eqb slot place ≡ false) places (λ i place is. ne_eqb slot place (λ same. true≢false (sym (lists_at i place is) ∙ ap wanted (sym same) ∙ unlisted))),
        lists_distinct,
      )
      (λ q any. let f = any_found (eqb q) (slot ∷ places) any in subst (λ p. p < many) (sym (same_number q f.0 f.2)) (of_more f.0 (index_of (slot ∷ places) f.0 f.1))) in
      omega (arith, more)
    where
      of_more : (place : ℕ) → (i : ℕ) × (slice_get (slot ∷ places) i ≡ Some place) → place < many
      of_more place (zero, is) = subst (λ p. p < many) (same_Some slot place is) within
      of_more place (suc i, is) = below place (lists_at i place is)

  keyed_alike : (other : ℕ → AgeKey) (ps : List ℕ) → AllByRecursion (λ place. wanted place ≡ true) ps → ((place : ℕ) → wanted place ≡ true → other place ≡ key place) → keyed other ps ≡ keyed key ps
  keyed_alike other [] all same = refl
  keyed_alike other (p ∷ ps) all same = λ i. (same p all.0 i, p) ∷ keyed_alike other ps all.1 same i

  -- other keys of places that are not listed
  pub lists_rekeyed : (other : ℕ → AgeKey) → ((place : ℕ) → wanted place ≡ true → other place ≡ key place) → Lists wanted other places
  lists_rekeyed other same =
      let alike = keyed_alike other places lists_all same in
      record {
        sorted = subst (λ es. IsTrue (map.is_sorted age_cmp es)) (sym alike) l.sorted;
        all = λ place h. ap (map.find age_cmp (other place)) alike ∙ ap (λ q. map.find age_cmp q (keyed key places)) (same place h) ∙ l.all place h;
        only = λ q place found. let o = l.only q place (ap (map.find age_cmp q) (sym alike) ∙ found) in (o.0, same place o.0 ∙ o.1);
      }

pub lists_same : (wanted others : ℕ → Bool) (key : ℕ → AgeKey) (places : List ℕ) → ((place : ℕ) → wanted place ≡ others place) → Lists wanted key places → Lists others key places
lists_same wanted others key places same l = subst (λ w. Lists w key places) (λ i place. same place i) l

-- ---- slots that count
pub within_of_age : (slots : List Slot) (place : ℕ) → has_age slots place ≡ true → place < length slots
within_of_age [] place is = absurd (true≢false (sym is))
within_of_age (slot ∷ slots) zero is = omega arith
within_of_age (slot ∷ slots) (suc place) is = let below = within_of_age slots place is in omega (arith, below)

-- one slot has a process
apart_key : (u : UniqueModel) (slots : List Slot) (q : ℕ) → AllByRecursion (λ k. same_unique u k ≡ false) (keys_of slots) → q < length slots → u ≡ (get_or slots q no_slot).0 → ⊥
apart_key u [] q apart within same = omega (arith, within)
apart_key u (slot ∷ slots) zero apart within same = true≢false (sym (ap (same_unique u) (sym same) ∙ same_as_ties u u ∙ key_itself u) ∙ apart.0)
apart_key u (slot ∷ slots) (suc q) apart within same = apart_key u slots q apart.1 (omega (arith, within)) same

pub same_place : (slots : List Slot) (p q : ℕ) → IsDistinct same_unique (keys_of slots) → p < length slots → q < length slots → (get_or slots p no_slot).0 ≡ (get_or slots q no_slot).0 → p ≡ q
unfolding IsDistinct
same_place [] p q apart in_range within same = absurd (omega (arith, within))
same_place (slot ∷ slots) zero zero apart in_range within same = refl
same_place (slot ∷ slots) zero (suc q) apart in_range within same = absurd (apart_key slot.0 slots q apart.0 (omega (arith, within)) same)
same_place (slot ∷ slots) (suc p) zero apart in_range within same = absurd (apart_key slot.0 slots p apart.0 (omega (arith, in_range)) (sym same))
same_place (slot ∷ slots) (suc p) (suc q) apart in_range within same = ap suc (same_place slots p q apart.1 (omega (arith, in_range)) (omega (arith, within)) same)

-- a slot that is written leaves the others
pub other_slot : (slots : List Slot) (slot place : ℕ) (y : Standing) → place ≢ slot → get_or (set_value_at slots slot y) place no_slot ≡ get_or slots place no_slot
other_slot [] slot place y other = refl
other_slot (s ∷ slots) zero zero y other = absurd (other refl)
other_slot (s ∷ slots) zero (suc place) y other = refl
other_slot (s ∷ slots) (suc slot) zero y other = refl
other_slot (s ∷ slots) (suc slot) (suc place) y other = other_slot slots slot place y (λ same. other (ap suc same))

other_number : (place slot : ℕ) → nat_eq place slot ≡ false → place ≢ slot
other_number place slot other same = true≢false (sym (eq-eqb place slot same) ∙ other)

and_neither : (a b t : Bool) → t ≡ true → (a && not t) ≡ (b && not t)
and_neither a b true h = neither a ∙ sym (neither b)
  where
    neither : (a : Bool) → (a && false) ≡ false
    neither true = refl
    neither false = refl
and_neither a b false h = absurd (true≢false (sym h))

pub but_for_written : (slots : List Slot) (slot : ℕ) (y : Standing) (places : List ℕ) → Lists (has_age_but slot slots) (key_at slots) places → Lists (has_age_but slot (set_value_at slots slot y)) (key_at (set_value_at slots slot y)) places
but_for_written slots slot y places l =
    let next = set_value_at slots slot y in
    lists_same (has_age_but slot slots) (has_age_but slot next) (key_at next) places
    (λ place. by place (nat_eq place slot) refl)
    (lists_rekeyed (has_age_but slot slots) (key_at slots) places l (key_at next)
    (λ place h. ap (λ (s : Slot). (unwrap_or (age s.1) 0, s.0)) (other_slot slots slot place y (other_number place slot (and_second _ _ h)))))
  where
    by : (place : ℕ) (t : Bool) → nat_eq place slot ≡ t → has_age_but slot slots place ≡ has_age_but slot (set_value_at slots slot y) place
    by place true one = and_neither (has_age slots place) (has_age (set_value_at slots slot y) place) (nat_eq place slot) one
    by place false other = ap (λ (s : Slot). is_some (age s.1) && not (nat_eq place slot)) (sym (other_slot slots slot place y (other_number place slot other)))

-- and a slot more does too
pub but_for_last : (slots : List Slot) (slot : Slot) (places : List ℕ) → AreByAge slots places → Lists (has_age_but (length slots) (slots ++ slot ∷ [])) (key_at (slots ++ slot ∷ [])) places
but_for_last slots slot places l =
    let more = slots ++ slot ∷ [] in
    lists_same (has_age slots) (has_age_but (length slots) more) (key_at more) places
    (λ place. by place (has_age slots place) refl (has_age_but (length slots) more place) refl)
    (lists_rekeyed (has_age slots) (key_at slots) places l (key_at more)
    (λ place h. ap (λ (s : Slot). (unwrap_or (age s.1) 0, s.0)) (get_or_append_left slots (slot ∷ []) no_slot place (within_of_age slots place h))))
  where
    earlier : (place : ℕ) → place < length slots → has_age (slots ++ slot ∷ []) place ≡ has_age slots place
    earlier place below = ap (λ (s : Slot). is_some (age s.1)) (get_or_append_left slots (slot ∷ []) no_slot place below)

    less_still : (place : ℕ) → place < length slots + 1 → place ≢ length slots → place < length slots
    less_still place below other = omega (arith, below, other)

    by : (place : ℕ) (a : Bool) → has_age slots place ≡ a → (b : Bool) → has_age_but (length slots) (slots ++ slot ∷ []) place ≡ b → has_age slots place ≡ has_age_but (length slots) (slots ++ slot ∷ []) place
    by place true here true there = here ∙ sym there
    by place false here false there = here ∙ sym there
    by place true here false there =
        let below = within_of_age slots place here in
        absurd (true≢false (sym (and_both (has_age (slots ++ slot ∷ []) place) (nat_eq place (length slots)) (earlier place below ∙ here) (ne_eqb place (length slots) (λ same. omega (arith, same, below)))) ∙ there))
    by place false here true there =
        let within = within_of_age (slots ++ slot ∷ []) place (first_so _ _ there) in
        let other : place ≢ length slots = λ same. true≢false (sym (eq-eqb place (length slots) same) ∙ and_second _ _ there) in
        let below : place < length slots = less_still place (omega (arith, within, length-append slots (slot ∷ []))) other in
        absurd (true≢false (sym (first_so _ _ there) ∙ earlier place below ∙ here))

-- the slot that was out is in, where it counts
pub all_again : (slots : List Slot) (slot : ℕ) (places : List ℕ) → has_age slots slot ≡ true → Lists (λ place. has_age_but slot slots place || nat_eq place slot) (key_at slots) places → AreByAge slots places
all_again slots slot places counted l = lists_same _ (has_age slots) (key_at slots) places (λ place. by place (nat_eq place slot) refl) l
  where
    or_and : (a t : Bool) → t ≡ false → ((a && not t) || t) ≡ a
    or_and true true h = absurd (true≢false h)
    or_and false true h = absurd (true≢false h)
    or_and true false h = refl
    or_and false false h = refl

    by : (place : ℕ) (t : Bool) → nat_eq place slot ≡ t → (has_age_but slot slots place || nat_eq place slot) ≡ has_age slots place
    by place true one = or_right (has_age_but slot slots place) (nat_eq place slot) one ∙ sym (ap (has_age slots) (same_number place slot one) ∙ counted)
    by place false other = or_and (has_age slots place) (nat_eq place slot) other

-- and one that does not count is not missed
pub none_missed : (slots : List Slot) (slot : ℕ) → has_age slots slot ≡ false → (place : ℕ) → has_age_but slot slots place ≡ has_age slots place
none_missed slots slot uncounted place = by (nat_eq place slot) refl
  where
    and_none : (a t : Bool) → t ≡ true → a ≡ false → (a && not t) ≡ a
    and_none true t h g = absurd (true≢false g)
    and_none false t h g = refl

    and_all : (a t : Bool) → t ≡ false → (a && not t) ≡ a
    and_all true true h = absurd (true≢false h)
    and_all true false h = refl
    and_all false t h = refl

    by : (t : Bool) → nat_eq place slot ≡ t → has_age_but slot slots place ≡ has_age slots place
    by true one = and_none (has_age slots place) (nat_eq place slot) one (ap (has_age slots) (same_number place slot one) ∙ uncounted)
    by false other = and_all (has_age slots place) (nat_eq place slot) other

-- what is told of the number and the process of a slot
pub counted_key : (slots : List Slot) (slot : ℕ) (a : AgeKey) → Some a ≡ option_map {U = AgeKey} (λ number. (number, (get_or slots slot no_slot).0)) (age_at slots slot) → (has_age slots slot ≡ true) × (a ≡ key_at slots slot)
counted_key slots slot a is = by (age_at slots slot) refl is
  where
    by : (o : Option ℕ) → age_at slots slot ≡ o → Some a ≡ option_map {U = AgeKey} (λ number. (number, (get_or slots slot no_slot).0)) o → (has_age slots slot ≡ true) × (a ≡ key_at slots slot)
    by None here is = absurd (none-some a (sym is))
    by (Some number) here is = (ap is_some here, same_Some a (number, (get_or slots slot no_slot).0) is ∙ ap (λ (o : Option ℕ). (unwrap_or o 0, (get_or slots slot no_slot).0)) (sym here))

pub uncounted_key : (slots : List Slot) (slot : ℕ) → None ≡ option_map {U = AgeKey} (λ number. (number, (get_or slots slot no_slot).0)) (age_at slots slot) → has_age slots slot ≡ false
uncounted_key slots slot is = by (age_at slots slot) is
  where
    by : (o : Option ℕ) → None ≡ option_map {U = AgeKey} (λ number. (number, (get_or slots slot no_slot).0)) o → is_some o ≡ false
    by None is = refl
    by (Some number) is = absurd (none-some _ is)

pub counts_all : (slots : List Slot) (places : List ℕ) → AreByAge slots places → AllByRecursion (λ place. has_age slots place ≡ true) places
counts_all slots places l = lists_all (has_age slots) (key_at slots) places l

pub counts_all_but : (slots : List Slot) (slot : ℕ) (places : List ℕ) → Lists (has_age_but slot slots) (key_at slots) places → AllByRecursion (λ place. has_age slots place ≡ true) places
counts_all_but slots slot places l =
    all_of (λ place. has_age_but slot slots place ≡ true) (λ place. has_age slots place ≡ true) places (λ place h. first_so _ _ h) (lists_all (has_age_but slot slots) (key_at slots) places l)

not_but : (slots : List Slot) (slot : ℕ) → has_age_but slot slots slot ≡ false
not_but slots slot = by (has_age slots slot) (nat_eq slot slot) (itself slot)
  where
    by : (a t : Bool) → t ≡ true → (a && not t) ≡ false
    by true true h = refl
    by false true h = refl
    by a false h = absurd (true≢false (sym h))

module _ (slots : List Slot) (slot : ℕ) (places : List ℕ) (l : Lists (has_age_but slot slots) (key_at slots) places) where
  -- a slot that is out has room
  pub room_for : has_age slots slot ≡ true → length places + 1 ≤ length slots
  room_for counted =
      lists_shorter (has_age_but slot slots) (key_at slots) places l (length slots) slot (λ place h. within_of_age slots place (first_so _ _ h)) (within_of_age slots slot counted) (not_but slots slot)

  -- and no other stands where it goes
  pub no_other_there : IsDistinct same_unique (keys_of slots) → has_age slots slot ≡ true → (n : ℕ) → Ok n ≡ index age_cmp (key_at slots slot) (keyed (key_at slots) places) → ⊥
  no_other_there apart counted n stands =
      let h = listed_here (has_age_but slot slots) (key_at slots) places l (key_at slots slot) n stands in
      let same = same_place slots h.0 slot apart (within_of_age slots h.0 (first_so _ _ h.2)) (within_of_age slots slot counted) (ap (λ (k : AgeKey). k.1) h.3) in
      other_number h.0 slot (and_second _ _ h.2) same

  pub entered : (n : ℕ) → has_age slots slot ≡ true → Err n ≡ index age_cmp (key_at slots slot) (keyed (key_at slots) places) → AreByAge slots (insert places n slot)
  entered n counted goes = all_again slots slot (insert places n slot) counted (put_in (has_age_but slot slots) (key_at slots) places l slot n goes)

  pub not_entered : has_age slots slot ≡ false → AreByAge slots places
  not_entered uncounted = lists_same (has_age_but slot slots) (has_age slots) (key_at slots) places (none_missed slots slot uncounted) l

pub not_left : (slots : List Slot) (slot : ℕ) (places : List ℕ) → AreByAge slots places → has_age slots slot ≡ false → Lists (has_age_but slot slots) (key_at slots) places
not_left slots slot places l uncounted = lists_same (has_age slots) (has_age_but slot slots) (key_at slots) places (λ place. sym (none_missed slots slot uncounted place)) l

-- the key at an index of the list
pub key_in : (key : ℕ → AgeKey) (places : List ℕ) (i : ℕ) (none : AgeKey × ℕ) → i < length places → (get_or (keyed key places) i none).0 ≡ key (get_or places i 0)
key_in key [] i none within = absurd (omega (arith, within))
key_in key (p ∷ places) zero none within = refl
key_in key (p ∷ places) (suc i) none within = key_in key places i none (omega (arith, within))
