-- The parts of a gossip are read as they are spelled.
use Rattle.std.proofs.Common.{◌≡◌, ℕ, zero, suc, ◌^◌, ◌<◌, ◌≤◌, Bool, true, nat_lt, IsTrue, List, [], ◌∷◌, ◌++◌, length, slice_get, Option, Some, None, option_map, Result, Ok, refl, sym, ap, subst, ◌∙◌, arith}
use Rattle.std.specs.List.{AllByRecursion, flat_map}
use Rattle.std.specs.Int.{w64}
use Rattle.std.specs.Cmp.{first_so, second_so}
use Rattle.std.proofs.lemmas.List.Concat.{flat_map-cons}
use Rattle.std.proofs.lemmas.Option.{same_Some}
use Rattle.std.proofs.lemmas.Bool.{and_from}
use Rattle.ak_address.specs.Unique.{UniqueModel, IsUnique}
use Rattle.ak_address.proofs.BoolLemmas.{none_there}
use Rattle.ak_clock.specs.declared.version.TheConstants.{BOUND}
use Rattle.ak_gossip.specs.declared.part.Part.{Part}
use Rattle.ak_gossip.specs.Parts.{IsPart}
use Rattle.ak_gossip.specs.PartsWalk.{ascend_from, is_above, ascend_after}
use Rattle.ak_gossip.proofs.PartsOrder.{test_of, all_ascend, all_below, uniques_ascend_from, uniques_test}
use Rattle.ak_field.specs.declared.fault.WireFault.{WireFault}
use Rattle.ak_field.specs.declared.fault.WireFault.TheVariants.{Order, Range}
use Rattle.ak_field.specs.Reading.{◌>>=◌, byte_at, wide_at, checked, items_at}
use Rattle.ak_field.specs.Ranges.{is_from}
use Rattle.ak_field.specs.Spelling.{byte, eight_bytes, process, flag}
use Rattle.ak_field.specs.Fields.{length_at, number_at, flag_at}
use Rattle.ak_field.specs.Lists.{next_unique_at, AllAfter}
use Rattle.ak_field.specs.Parts.{state_at, is_up_number, up_number_at, may_see, seen_at, is_after, index_at, indices_at, subjects_at, part_at, parts_at, indices, subjects, part, parts, AreSpelled}
use Rattle.ak_field.specs.Laws.{IsField}
use Rattle.ak_field.proofs.Combined.{checked_field, made_field, first_field, respelled, ok_is}
use Rattle.ak_field.proofs.Small.{byte_field, wide64, wide_field}
use Rattle.ak_field.proofs.Whole.{Ranges, in_range, range_of, length_field, number_field, flag_field}
use Rattle.ak_field.proofs.Items.{items_field}
use Rattle.ak_field.proofs.ListFields.{next_unique_field}
use Rattle.ak_field.proofs.Written.{subjects_fit}
use Rattle.ak_field.proofs.PartTests.{less_than, is_less_than, up_number_small, state_from, state_to, IsIndex, ascends, ascending}

-- ---- small fields
state_field : IsField state_at byte (Ranges 1 8)
unfolding state_at
state_field =
    checked_field Range (is_from 1 8) byte_at byte (λ n. n < 256) (Ranges 1 8) byte_field
    (λ n v. (omega (arith, v.1), in_range 1 8 n v.0 v.1))
    (λ n lt e. range_of 1 8 n e)

up_number_field : (state : ℕ) → IsField (up_number_at state) eight_bytes (λ n. IsTrue (is_up_number state n))
unfolding up_number_at
up_number_field state =
    checked_field Range (is_up_number state) (wide_at w64) eight_bytes (λ n. n < 2 ^ 64) (λ n. IsTrue (is_up_number state n)) (wide_field w64 (2 ^ 64) wide64)
    (λ n v. (omega (arith, up_number_small state n v), v))
    (λ n lt e. e)

seen_field : (state : ℕ) → IsField (seen_at state) flag (λ seen. IsTrue (may_see state seen))
unfolding seen_at
seen_field state =
    checked_field Range (may_see state) flag_at flag (λ _. Unit {0}) (λ seen. IsTrue (may_see state seen)) flag_field
    (λ seen v. (tt, v))
    (λ seen _ e. e)

-- ---- indices
index_field : (many : ℕ) → many < 256 → (last : Option ℕ) → IsField (index_at many last) byte (IsIndex many last)
unfolding index_at
index_field many fits last =
    checked_field Order (is_after last) (λ bytes. checked Range (λ index. nat_lt index many) (byte_at bytes)) byte (λ index. index < many) (IsIndex many last)
    (checked_field Range (λ index. nat_lt index many) byte_at byte (λ n. n < 256) (λ index. index < many) byte_field (λ n lt. (omega arith, is_less_than n many lt)) (λ n lt e. less_than n many e))
    (λ n is. (is.below, is.after))
    (λ n below after. record { below = below; after = after })

each_byte : (xs : List ℕ) → flat_map byte xs ≡ xs
each_byte [] = refl
each_byte (x ∷ xs) = flat_map-cons byte x xs ∙ ap (λ (l : List ℕ). x ∷ l) (each_byte xs)

abbrev AreIndices : ℕ → List ℕ → Type 0
AreIndices many xs = (length xs ≤ many) × AllAfter (IsIndex many) None xs

indices_field : (many : ℕ) → many < 256 → IsField (indices_at many) indices (AreIndices many)
unfolding indices_at
indices_field many fits =
    let After : ℕ → List ℕ → Type 0 = λ n xs. (length xs ≡ n) × AllAfter (IsIndex many) None xs in
    first_field (length_at 0 many) byte (Ranges 0 many) length (λ n bytes. items_at (index_at many) None n bytes) (λ xs. xs) After (AreIndices many)
    (length_field 0 many fits)
    (λ n range. respelled (items_at (index_at many) None n) (flat_map byte) (λ xs. xs) (After n) (items_field (index_at many) byte (IsIndex many) (index_field many fits) n None) (λ xs _. each_byte xs))
    (λ xs are. ((omega arith, are.0), (refl, are.1)))
    (λ n xs range v. (v.0, (omega (arith, v.0, range.1), v.1)))

abbrev AreSubjects : ℕ → ℕ → List ℕ → Type 0
AreSubjects many zero xs = xs ≡ []
AreSubjects many (suc number) xs = AreIndices many xs

subjects_field : (many number : ℕ) → many < 256 → IsField (subjects_at many number) (subjects number) (AreSubjects many number)
unfolding subjects_at
subjects_field many zero fits = record {
  again = λ xs rest is. ap (λ (ys : List ℕ). Ok (ys, rest)) (sym is);
  was = λ bytes xs rest fit e. subst (λ (y : List ℕ × List ℕ). (bytes ≡ y.1) × (y.0 ≡ [])) (ok_is ([], bytes) (xs, rest) e) (refl, refl);
}
subjects_field many (suc number) fits = indices_field many fits

-- ---- a part
abbrev made : UniqueModel → ℕ → ℕ → ℕ → Bool → ℕ → List ℕ → Part
made u n s m b r xs = record { unique = u; count = n; state = s; up_number = m; seen = b; row_number = r; subjects = xs }

module _ (many : ℕ) (last : Option Part) where
  abbrev pub IsNext : UniqueModel → Type 0
  IsNext u = IsUnique u × IsTrue (is_above (option_map (λ (p : Part). p.unique) last) u)

  -- what the fields keep, from one of them on
  abbrev pub From7 : Part → Type 0
  From7 p = AreSubjects many p.row_number p.subjects

  abbrev pub From6 : Part → Type 0
  From6 p = (p.row_number ≤ p.count) × From7 p

  abbrev pub From5 : Part → Type 0
  From5 p = IsTrue (may_see p.state p.seen) × From6 p

  abbrev pub From4 : Part → Type 0
  From4 p = IsTrue (is_up_number p.state p.up_number) × From5 p

  abbrev pub From3 : Part → Type 0
  From3 p = Ranges 1 8 p.state × From4 p

  abbrev pub From2 : Part → Type 0
  From2 p = (p.count ≤ BOUND) × From3 p

  abbrev pub From1 : Part → Type 0
  From1 p = IsNext p.unique × From2 p

  abbrev read7 : UniqueModel → ℕ → ℕ → ℕ → Bool → ℕ → List ℕ → Result (Part × List ℕ) WireFault
  read7 u n s m b r bytes = subjects_at many r bytes >>= λ xs. Ok (made u n s m b r xs.0, xs.1)

  abbrev spelled7 : Part → List ℕ
  spelled7 p = subjects p.row_number p.subjects

  field7 : many < 256 → (u : UniqueModel) (n s m : ℕ) (b : Bool) (r : ℕ) → IsField (read7 u n s m b r) spelled7 (λ p. (p ≡ made u n s m b r p.subjects) × From7 p)
  field7 fits u n s m b r =
      respelled (read7 u n s m b r) (λ p. subjects r p.subjects) spelled7 (λ p. (p ≡ made u n s m b r p.subjects) × From7 p)
      (made_field (subjects_at many r) (subjects r) (AreSubjects many r) (made u n s m b r) (λ p. p.subjects) (λ p. (p ≡ made u n s m b r p.subjects) × From7 p) (subjects_field many r fits)
      (λ p v. (subst (λ (k : ℕ). AreSubjects many k p.subjects) (ap (λ (q : Part). q.row_number) v.0) v.1, sym v.0))
      (λ xs are fit. (refl, (refl, are))))
      (λ p v. ap (λ (k : ℕ). subjects k p.subjects) (sym (ap (λ (q : Part). q.row_number) v.0)))

  abbrev read6 : UniqueModel → ℕ → ℕ → ℕ → Bool → List ℕ → Result (Part × List ℕ) WireFault
  read6 u n s m b bytes = number_at 0 n bytes >>= λ r. read7 u n s m b r.0 r.1

  abbrev spelled6 : Part → List ℕ
  spelled6 p = eight_bytes p.row_number ++ spelled7 p

  field6 : many < 256 → (u : UniqueModel) (n s m : ℕ) (b : Bool) → n ≤ BOUND → IsField (read6 u n s m b) spelled6 (λ p. (p ≡ made u n s m b p.row_number p.subjects) × From6 p)
  field6 fits u n s m b bounded =
      first_field (number_at 0 n) eight_bytes (Ranges 0 n) (λ p. p.row_number) (read7 u n s m b) spelled7 (λ r p. (p ≡ made u n s m b r p.subjects) × From7 p) (λ p. (p ≡ made u n s m b p.row_number p.subjects) × From6 p)
      (number_field 0 n (omega (arith, bounded))) (λ r range. field7 fits u n s m b r)
      (λ p v.
      let count : p.count ≡ n = ap (λ (q : Part). q.count) v.0 in
      ((omega arith, omega (arith, count, v.1.0)), (v.0, v.1.1)))
      (λ r p range v.
      let row : p.row_number ≡ r = ap (λ (q : Part). q.row_number) v.0 in
      let count : p.count ≡ n = ap (λ (q : Part). q.count) v.0 in
      (row, (v.0 ∙ ap (λ (k : ℕ). made u n s m b k p.subjects) (sym row), (omega (arith, row, count, range.1), v.1))))

  abbrev read5 : UniqueModel → ℕ → ℕ → ℕ → List ℕ → Result (Part × List ℕ) WireFault
  read5 u n s m bytes = seen_at s bytes >>= λ b. read6 u n s m b.0 b.1

  abbrev spelled5 : Part → List ℕ
  spelled5 p = flag p.seen ++ spelled6 p

  field5 : many < 256 → (u : UniqueModel) (n s m : ℕ) → n ≤ BOUND → IsField (read5 u n s m) spelled5 (λ p. (p ≡ made u n s m p.seen p.row_number p.subjects) × From5 p)
  field5 fits u n s m bounded =
      first_field (seen_at s) flag (λ b. IsTrue (may_see s b)) (λ p. p.seen) (read6 u n s m) spelled6 (λ b p. (p ≡ made u n s m b p.row_number p.subjects) × From6 p) (λ p. (p ≡ made u n s m p.seen p.row_number p.subjects) × From5 p)
      (seen_field s) (λ b see. field6 fits u n s m b bounded)
      (λ p v. (subst (λ (k : ℕ). IsTrue (may_see k p.seen)) (ap (λ (q : Part). q.state) v.0) v.1.0, (v.0, v.1.1)))
      (λ b p see v.
      let seen : p.seen ≡ b = ap (λ (q : Part). q.seen) v.0 in
      let state : p.state ≡ s = ap (λ (q : Part). q.state) v.0 in
      let own : may_see p.state p.seen ≡ true = ap (λ (k : ℕ). may_see k p.seen) state ∙ ap (may_see s) seen ∙ see in
      (seen, (v.0 ∙ ap (λ (c : Bool). made u n s m c p.row_number p.subjects) (sym seen), (own, v.1))))

  abbrev read4 : UniqueModel → ℕ → ℕ → List ℕ → Result (Part × List ℕ) WireFault
  read4 u n s bytes = up_number_at s bytes >>= λ m. read5 u n s m.0 m.1

  abbrev spelled4 : Part → List ℕ
  spelled4 p = eight_bytes p.up_number ++ spelled5 p

  field4 : many < 256 → (u : UniqueModel) (n s : ℕ) → n ≤ BOUND → IsField (read4 u n s) spelled4 (λ p. (p ≡ made u n s p.up_number p.seen p.row_number p.subjects) × From4 p)
  field4 fits u n s bounded =
      first_field (up_number_at s) eight_bytes (λ m. IsTrue (is_up_number s m)) (λ p. p.up_number) (read5 u n s) spelled5 (λ m p. (p ≡ made u n s m p.seen p.row_number p.subjects) × From5 p) (λ p. (p ≡ made u n s p.up_number p.seen p.row_number p.subjects) × From4 p)
      (up_number_field s) (λ m up. field5 fits u n s m bounded)
      (λ p v. (subst (λ (k : ℕ). IsTrue (is_up_number k p.up_number)) (ap (λ (q : Part). q.state) v.0) v.1.0, (v.0, v.1.1)))
      (λ m p up v.
      let number : p.up_number ≡ m = ap (λ (q : Part). q.up_number) v.0 in
      let state : p.state ≡ s = ap (λ (q : Part). q.state) v.0 in
      let own : is_up_number p.state p.up_number ≡ true = ap (λ (k : ℕ). is_up_number k p.up_number) state ∙ ap (is_up_number s) number ∙ up in
      (number, (v.0 ∙ ap (λ (k : ℕ). made u n s k p.seen p.row_number p.subjects) (sym number), (own, v.1))))

  abbrev read3 : UniqueModel → ℕ → List ℕ → Result (Part × List ℕ) WireFault
  read3 u n bytes = state_at bytes >>= λ s. read4 u n s.0 s.1

  abbrev spelled3 : Part → List ℕ
  spelled3 p = byte p.state ++ spelled4 p

  field3 : many < 256 → (u : UniqueModel) (n : ℕ) → n ≤ BOUND → IsField (read3 u n) spelled3 (λ p. (p ≡ made u n p.state p.up_number p.seen p.row_number p.subjects) × From3 p)
  field3 fits u n bounded =
      first_field state_at byte (Ranges 1 8) (λ p. p.state) (read4 u n) spelled4 (λ s p. (p ≡ made u n s p.up_number p.seen p.row_number p.subjects) × From4 p) (λ p. (p ≡ made u n p.state p.up_number p.seen p.row_number p.subjects) × From3 p)
      state_field (λ s range. field4 fits u n s bounded)
      (λ p v. (v.1.0, (v.0, v.1.1)))
      (λ s p range v.
      let state : p.state ≡ s = ap (λ (q : Part). q.state) v.0 in
      (state, (v.0 ∙ ap (λ (k : ℕ). made u n k p.up_number p.seen p.row_number p.subjects) (sym state), ((omega (arith, state, range.0), omega (arith, state, range.1)), v.1))))

  abbrev read2 : UniqueModel → List ℕ → Result (Part × List ℕ) WireFault
  read2 u bytes = number_at 0 BOUND bytes >>= λ n. read3 u n.0 n.1

  abbrev spelled2 : Part → List ℕ
  spelled2 p = eight_bytes p.count ++ spelled3 p

  field2 : many < 256 → (u : UniqueModel) → IsField (read2 u) spelled2 (λ p. (p ≡ made u p.count p.state p.up_number p.seen p.row_number p.subjects) × From2 p)
  field2 fits u =
      first_field (number_at 0 BOUND) eight_bytes (Ranges 0 BOUND) (λ p. p.count) (read3 u) spelled3 (λ n p. (p ≡ made u n p.state p.up_number p.seen p.row_number p.subjects) × From3 p) (λ p. (p ≡ made u p.count p.state p.up_number p.seen p.row_number p.subjects) × From2 p)
      (number_field 0 BOUND (omega arith)) (λ n range. field3 fits u n range.1)
      (λ p v. ((omega arith, v.1.0), (v.0, v.1.1)))
      (λ n p range v.
      let count : p.count ≡ n = ap (λ (q : Part). q.count) v.0 in
      (count, (v.0 ∙ ap (λ (k : ℕ). made u k p.state p.up_number p.seen p.row_number p.subjects) (sym count), (omega (arith, count, range.1), v.1))))

  pub field1 : many < 256 → IsField (part_at many last) part From1
  unfolding part_at
  field1 fits =
      first_field (next_unique_at (option_map (λ (p : Part). p.unique) last)) process IsNext (λ p. p.unique) read2 spelled2 (λ u p. (p ≡ made u p.count p.state p.up_number p.seen p.row_number p.subjects) × From2 p) From1
      (next_unique_field (option_map (λ (p : Part). p.unique) last)) (λ u next. field2 fits u)
      (λ p v. (v.0, (refl, v.1)))
      (λ u p next v.
      let who : p.unique ≡ u = ap (λ (q : Part). q.unique) v.0 in
      (who, (subst IsNext (sym who) next, v.1)))

-- ---- parts that are valid
subjects_test : (many number : ℕ) (xs : List ℕ) → AreSubjects many number xs → ascend_from 0 many xs ≡ true
subjects_test many zero xs is = ap (ascend_from 0 many) is
subjects_test many (suc number) xs are = ascends many None xs are.1

no_subjects : (many number : ℕ) (xs : List ℕ) → AreSubjects many number xs → number ≡ 0 → xs ≡ []
no_subjects many zero xs is none = is
no_subjects many (suc number) xs are none = absurd cc

subjects_from : (many number : ℕ) (xs : List ℕ) → (number ≡ 0 → xs ≡ []) → length xs ≤ many → ascend_from 0 many xs ≡ true → AreSubjects many number xs
subjects_from many zero xs none le h = none refl
subjects_from many (suc number) xs none le h = (le, ascending many None xs h)

part_is : (many : ℕ) (last : Option Part) (p : Part) → From1 many last p → IsPart many p
part_is many last p v =
    let from3 = v.1.1 in
    let from5 = from3.1.1 in
    let test = subjects_test many p.row_number p.subjects from5.1.1 in
    record {
      count = v.1.0;
      state = state_from p.state p.up_number p.seen from3.0 from3.1.0 from5.0;
      row_number = from5.1.0;
      no_row = no_subjects many p.row_number p.subjects from5.1.1;
      ascending = all_ascend 0 many p.subjects test;
      below = all_below 0 many p.subjects test;
    }

is_part : (many : ℕ) (last : Option Part) (p : Part) → IsNext many last p.unique → IsPart many p → From1 many last p
is_part many last p next is =
    let state = state_to p.state p.up_number p.seen is.state in
    let test = test_of 0 many p.subjects (λ _ _ _. omega arith) is.below is.ascending in
    (next, (is.count, (state.range, (state.up, (state.see, (is.row_number, subjects_from many p.row_number p.subjects is.no_row (subjects_fit many p is) test))))))

abbrev unique_of : Part → UniqueModel
unique_of p = p.unique

in_order : (many : ℕ) (last : Option Part) (list : List Part) → AllAfter (From1 many) last list → ascend_after (option_map unique_of last) list ≡ true
in_order many last [] each = refl
in_order many last (p ∷ list) each = and_from _ _ each.0.0.1 (in_order many (Some p) list each.1)

each_part : (many : ℕ) (last : Option Part) (list : List Part) → AllAfter (From1 many) last list → (i : ℕ) (p : Part) → slice_get list i ≡ Some p → IsPart many p
each_part many last [] each i p at = absurd (none_there p at)
each_part many last (x ∷ list) each zero p at = subst (IsPart many) (same_Some x p at) (part_is many last x each.0)
each_part many last (x ∷ list) each (suc i) p at = each_part many (Some x) list each.1 i p at

each_unique : (many : ℕ) (last : Option Part) (list : List Part) → AllAfter (From1 many) last list → AllByRecursion (λ (p : Part). IsUnique p.unique) list
each_unique many last [] each = tt
each_unique many last (x ∷ list) each = (each.0.0.0, each_unique many (Some x) list each.1)

chained : (many : ℕ) (last : Option Part) (list : List Part) → ascend_after (option_map unique_of last) list ≡ true → ((i : ℕ) (p : Part) → slice_get list i ≡ Some p → IsPart many p) → AllByRecursion (λ (p : Part). IsUnique p.unique) list → AllAfter (From1 many) last list
chained many last [] order each uniques = tt
chained many last (x ∷ list) order each uniques = (
  is_part many last x (uniques.0, first_so _ _ order) (each 0 x refl),
  chained many (Some x) list (second_so _ _ order) (λ i p at. each (suc i) p at) uniques.1,
)

pub parts_field : IsField parts_at parts AreSpelled
unfolding parts_at
parts_field =
    first_field (length_at 0 128) byte (Ranges 0 128) length (λ many bytes. items_at (part_at many) None many bytes) (flat_map part) (λ many list. (length list ≡ many) × AllAfter (From1 many) None list) AreSpelled
    (length_field 0 128 (omega arith))
    (λ many range. items_field (part_at many) part (From1 many) (λ last. field1 many last (omega (arith, range.1))) many None)
    (λ list are. ((omega arith, are.parts.few), (refl, chained (length list) None list (uniques_test None list (λ _ _ _. refl) are.parts.ascending) are.parts.each are.uniques)))
    (λ many list range v. (
      v.0,
      record {
        parts = record {
          few = omega (arith, v.0, range.1);
          each = subst (λ (n : ℕ). (i : ℕ) (p : Part) → slice_get list i ≡ Some p → IsPart n p) (sym v.0) (each_part many None list v.1);
          ascending = uniques_ascend_from None list (in_order many None list v.1);
        };
        uniques = each_unique many None list v.1;
      },
    ))
