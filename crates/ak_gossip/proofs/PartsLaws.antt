-- The parts of a gossip are valid, and no two gossips have the same parts.
use Rattle.std.proofs.Common.{◌≡◌, if◌then◌else◌, ℕ, zero, suc, ◌+◌, ◌≤◌, Bool, true, false, IsTrue, List, [], ◌∷◌, length, slice_get, Option, Some, None, is_some, IsSome, option_map, refl, sym, ap, ◌∙◌, subst, arith, true≢false}
use Rattle.std.proofs.lemmas.Option.{same_Some, slice_get-map}
use Rattle.std.proofs.lemmas.List.{length-map}
use Rattle.std.specs.Prelude as list
use Rattle.std.specs.FinMap as map
use Rattle.std.specs.declared.cmp.Ordering.TheVariants.{Less}
use Rattle.ak_address.specs.Unique.{UniqueModel, unique_cmp}
use Rattle.ak_address.specs.Uniques.{UniqueSet, has}
use Rattle.ak_address.proofs.TableLaws.{same_table, get_at, index_of_get, keys_rise}
use Rattle.ak_address.proofs.UniquesLaws.{same_uniques}
use Rattle.ak_address.proofs.BoolLemmas.{none_there}
use Rattle.ak_clock.specs.Version.{count}
use Rattle.ak_clock.proofs.VersionLaws.{same_version}
use Rattle.ak_member.specs.declared.standing.Standing.{Standing}
use Rattle.ak_member.specs.Standing.{Standings, as_member, member_of}
use Rattle.ak_member.specs.View.{Row}
use Rattle.ak_gossip.specs.declared.part.Part.{Part}
use Rattle.ak_gossip.specs.Gossip.{GossipState, is_known, IsRow, IsGossip}
use Rattle.ak_gossip.specs.Parts.{state_of, number_of, row_number_of, indices_of, subjects_of, part_of, parts_of, IsPart, AreParts}
use Rattle.ak_gossip.specs.PartsWalk.{standing_of, ascend_from}
use Rattle.ak_gossip.proofs.PartsOrder.{all_ascend, at_least, all_below}
use Rattle.ak_gossip.proofs.PartsIndices.{indices_ascend}
use Rattle.ak_gossip.proofs.PartsBack.{standing_back}
use Rattle.ak_gossip.proofs.PartsLemmas.{length-keys}

-- ---- valid parts
-- what stands at an index of a list that was mapped
mapped_by : {X Y : Type 0} (f : X → Y) (xs : List X) (i : ℕ) (o : Option X) (y : Y) → slice_get xs i ≡ o → option_map f o ≡ Some y → (x : X) × (slice_get xs i ≡ Some x) × (f x ≡ y)
mapped_by f xs i None y at is = absurd (none_there y is)
mapped_by f xs i (Some x) y at is = (x, at, same_Some (f x) y is)

mapped_at : {X Y : Type 0} (f : X → Y) (xs : List X) (i : ℕ) (y : Y) → slice_get (list.map f xs) i ≡ Some y → (x : X) × (slice_get xs i ≡ Some x) × (f x ≡ y)
mapped_at f xs i y is = mapped_by f xs i (slice_get xs i) y refl (sym (slice_get-map f xs i) ∙ is)

module _ (g : GossipState) (p : IsGossip g) where
  abbrev everybody : List UniqueModel
  everybody = map.keys g.view.standings

  abbrev many : ℕ
  many = length (parts_of g)

  many_is : many ≡ map.len g.view.standings
  many_is = length-map (map.entries g.view.standings) (part_of g) ∙ sym (map.len-entries g.view.standings)

  subjects_test : (o : Option Row) → ascend_from 0 many (subjects_of o everybody) ≡ true
  subjects_test None = refl
  subjects_test (Some row) = indices_ascend row.subjects 0 many everybody (omega (arith, many_is, length-keys g.view.standings))

  row_fits : (who : UniqueModel) (o : Option Row) → map.get g.view.rows who ≡ o → row_number_of o ≤ count g.version who
  row_fits who None is = omega arith
  row_fits who (Some row) is = (p.rows who row is).counted

  no_subjects : (who : UniqueModel) (o : Option Row) → map.get g.view.rows who ≡ o → row_number_of o ≡ 0 → subjects_of o everybody ≡ []
  no_subjects who None is zero_is = refl
  no_subjects who (Some row) is zero_is = let some : 1 ≤ row.number = (p.rows who row is).numbered in absurd (omega arith)

  member_here : (who : UniqueModel) (x : Standing) → map.get g.view.standings who ≡ Some x → IsTrue (has g.seen who) → IsSome (as_member x)
  member_here who x is h = sym (ap (λ o. is_some (member_of o)) is) ∙ p.seen who h

  part_fits : (i : ℕ) (row : UniqueModel × Standing) → slice_get (map.entries g.view.standings) i ≡ Some row → IsPart many (part_of g row)
  part_fits i row at =
      let here : map.get g.view.standings row.0 ≡ Some row.1 = get_at g.view.standings i row at in
      let o : Option Row = map.get g.view.rows row.0 in
      record {
        count = p.version.bounded row.0;
        state = record { standing = row.1; state_is = refl; number_is = refl; may_be = p.standings row.0 row.1 here; by_member = member_here row.0 row.1 here };
        row_number = row_fits row.0 (map.get g.view.rows row.0) refl;
        no_row = no_subjects row.0 (map.get g.view.rows row.0) refl;
        ascending = all_ascend 0 many (subjects_of (map.get g.view.rows row.0) everybody) (subjects_test (map.get g.view.rows row.0));
        below = all_below 0 many (subjects_of (map.get g.view.rows row.0) everybody) (subjects_test (map.get g.view.rows row.0));
      }

  pub valid_parts : AreParts (parts_of g)
  valid_parts = record {
    few = omega (arith, many_is, p.few);
    each = λ i part at.
        let row = mapped_at (part_of g) (map.entries g.view.standings) i part at in
        subst (IsPart many) row.2 (part_fits i row.0 row.1);
    ascending = λ i j one other lt is js.
        let d = mapped_at (part_of g) (map.entries g.view.standings) i one is in
        let e = mapped_at (part_of g) (map.entries g.view.standings) j other js in
        subst (λ (b : Part). unique_cmp one.unique b.unique ≡ Less) e.2
        (subst (λ (a : Part). unique_cmp a.unique (part_of g e.0).unique ≡ Less) d.2 (keys_rise g.view.standings i j d.0 e.0 lt d.1 e.1));
  }

-- ---- one gossip
-- a standing by its state and its number
same_standing : (x y : Standing) → state_of x ≡ state_of y → number_of x ≡ number_of y → x ≡ y
same_standing x y states numbers =
    same_Some x y (sym (standing_back x) ∙ ap (λ n. standing_of n (number_of x)) states ∙ ap (standing_of (state_of y)) numbers ∙ standing_back y)

head_same : {X : Type 0} (x y : X) (xs ys : List X) → x ∷ xs ≡ y ∷ ys → x ≡ y
head_same x y xs ys is = cc

tail_same : {X : Type 0} (x y : X) (xs ys : List X) → x ∷ xs ≡ y ∷ ys → xs ≡ ys
tail_same x y xs ys is = cc

none_first : {X : Type 0} (x : X) (xs : List X) → [] ≡ x ∷ xs → ⊥
none_first x xs is = cc

same_lists : {X Y : Type 0} (f k : X → Y) → ((x y : X) → f x ≡ k y → x ≡ y) → (xs ys : List X) → list.map f xs ≡ list.map k ys → xs ≡ ys
same_lists f k one [] [] is = refl
same_lists f k one [] (y ∷ ys) is = absurd (none_first (k y) (list.map k ys) is)
same_lists f k one (x ∷ xs) [] is = absurd (none_first (f x) (list.map f xs) (sym is))
same_lists f k one (x ∷ xs) (y ∷ ys) is =
    λ i. one x y (head_same (f x) (k y) (list.map f xs) (list.map k ys) is) i ∷ same_lists f k one xs ys (tail_same (f x) (k y) (list.map f xs) (list.map k ys) is) i

-- the same indices are of the same processes
not_after : (t : UniqueSet) (first : ℕ) (es : List UniqueModel) (indices : List ℕ) → first ∷ indices ≡ indices_of t (first + 1) es → ⊥
not_after t first es indices is =
    let later : first + 1 ≤ first = at_least (first + 1) (first + 1 + length es) (indices_of t (first + 1) es) (indices_ascend t (first + 1) (first + 1 + length es) es (omega arith)) 0 first (ap (λ l. slice_get l 0) (sym is)) in
    omega arith

at_first : (s t : UniqueSet) (first : ℕ) (who : UniqueModel) (es : List UniqueModel) (a b : Bool) → has s who ≡ a → has t who ≡ b → (if a then first ∷ indices_of s (first + 1) es else indices_of s (first + 1) es) ≡ (if b then first ∷ indices_of t (first + 1) es else indices_of t (first + 1) es) → (has s who ≡ has t who) × (indices_of s (first + 1) es ≡ indices_of t (first + 1) es)
at_first s t first who es true true is are same = (is ∙ sym are, tail_same first first (indices_of s (first + 1) es) (indices_of t (first + 1) es) same)
at_first s t first who es true false is are same = absurd (not_after t first es (indices_of s (first + 1) es) same)
at_first s t first who es false true is are same = absurd (not_after s first es (indices_of t (first + 1) es) (sym same))
at_first s t first who es false false is are same = (is ∙ sym are, same)

same_indices : (s t : UniqueSet) (first : ℕ) (es : List UniqueModel) → indices_of s first es ≡ indices_of t first es → (i : ℕ) (who : UniqueModel) → slice_get es i ≡ Some who → has s who ≡ has t who
same_indices s t first [] same i who at = absurd (none_there who at)
same_indices s t first (x ∷ es) same zero who at =
    subst (λ k. has s k ≡ has t k) (same_Some x who at) (at_first s t first x es (has s x) (has t x) refl refl same).0
same_indices s t first (x ∷ es) same (suc i) who at =
    same_indices s t (first + 1) es (at_first s t first x es (has s x) (has t x) refl refl same).1 i who at

module _ (g h : GossipState) (p : IsGossip g) (q : IsGossip h) (is : parts_of g ≡ parts_of h) where
  same_entry : (x y : UniqueModel × Standing) → part_of g x ≡ part_of h y → x ≡ y
  same_entry x y same =
      let keys : x.0 ≡ y.0 = ap (λ (a : Part). a.unique) same in
      let standings : x.1 ≡ y.1 = same_standing x.1 y.1 (ap (λ (a : Part). a.state) same) (ap (λ (a : Part). a.up_number) same) in
      λ i. (keys i, standings i)

  entries_same : map.entries g.view.standings ≡ map.entries h.view.standings
  entries_same = same_lists (part_of g) (part_of h) same_entry (map.entries g.view.standings) (map.entries h.view.standings) is

  standings_same : g.view.standings ≡ h.view.standings
  standings_same = map.same_entries_map g.view.standings h.view.standings entries_same

  -- the part of who is known
  part_same : (who : UniqueModel) (x : Standing) → map.get g.view.standings who ≡ Some x → part_of g (who, x) ≡ part_of h (who, x)
  part_same who x at =
      let there = index_of_get g.view.standings who x at in
      same_Some (part_of g (who, x)) (part_of h (who, x))
      (sym (slice_get-map (part_of g) (map.entries g.view.standings) there.0 ∙ ap (option_map (part_of g)) there.1)
      ∙ ap (λ l. slice_get l there.0) is
      ∙ slice_get-map (part_of h) (map.entries h.view.standings) there.0
      ∙ ap (λ l. option_map (part_of h) (slice_get l there.0)) (sym entries_same) ∙ ap (option_map (part_of h)) there.1)

  -- who is not known in the one is not known in the other
  unknown : (who : UniqueModel) → map.get g.view.standings who ≡ None → map.get h.view.standings who ≡ None
  unknown who none = ap (λ s. map.get s who) (sym standings_same) ∙ none

  some_not_none : (s : Standings) (who : UniqueModel) → IsTrue (is_known s who) → map.get s who ≡ None → ⊥
  some_not_none s who some none = true≢false (sym some ∙ ap is_some none)

  no_count : (f : GossipState) → IsGossip f → (who : UniqueModel) → map.get f.view.standings who ≡ None → count f.version who ≡ 0
  no_count f r who none = by_number (count f.version who) refl
    where
      by_number : (n : ℕ) → count f.version who ≡ n → count f.version who ≡ 0
      by_number zero eq = eq
      by_number (suc n) eq = absurd (some_not_none f.view.standings who (r.counted who (omega arith)) none)

  count_same : (who : UniqueModel) → count g.version who ≡ count h.version who
  count_same who = by_standing (map.get g.view.standings who) refl
    where
      by_standing : (o : Option Standing) → map.get g.view.standings who ≡ o → count g.version who ≡ count h.version who
      by_standing None none = no_count g p who none ∙ sym (no_count h q who (unknown who none))
      by_standing (Some x) at = ap (λ (a : Part). a.count) (part_same who x at)

  versions_same : g.version ≡ h.version
  versions_same = same_version g.version h.version p.version q.version count_same

  not_seen : (f : GossipState) → IsGossip f → (who : UniqueModel) → map.get f.view.standings who ≡ None → has f.seen who ≡ false
  not_seen f r who none = by_test (has f.seen who) refl
    where
      by_test : (b : Bool) → has f.seen who ≡ b → has f.seen who ≡ false
      by_test true eq = absurd (true≢false (sym (r.seen who eq) ∙ ap (λ o. is_some (member_of o)) none))
      by_test false eq = eq

  has_same : (who : UniqueModel) → has g.seen who ≡ has h.seen who
  has_same who = by_standing (map.get g.view.standings who) refl
    where
      by_standing : (o : Option Standing) → map.get g.view.standings who ≡ o → has g.seen who ≡ has h.seen who
      by_standing None none = not_seen g p who none ∙ sym (not_seen h q who (unknown who none))
      by_standing (Some x) at = ap (λ (a : Part). a.seen) (part_same who x at)

  pub seen_same : g.seen ≡ h.seen
  seen_same = same_uniques g.seen h.seen has_same

  no_row : (f : GossipState) → IsGossip f → (who : UniqueModel) → map.get f.view.standings who ≡ None → map.get f.view.rows who ≡ None
  no_row f r who none = by_row (map.get f.view.rows who) refl
    where
      by_row : (o : Option Row) → map.get f.view.rows who ≡ o → map.get f.view.rows who ≡ None
      by_row None eq = eq
      by_row (Some row) eq = absurd (some_not_none f.view.standings who (r.rows who row eq).observer_known none)

  -- a process that is not known is in no row
  not_in : (f : GossipState) (observer : UniqueModel) (row : Row) → IsRow f observer row → (who : UniqueModel) → map.get f.view.standings who ≡ None → has row.subjects who ≡ false
  not_in f observer row r who none = by_test (has row.subjects who) refl
    where
      by_test : (b : Bool) → has row.subjects who ≡ b → has row.subjects who ≡ false
      by_test true eq = absurd (some_not_none f.view.standings who (r.subjects_known who eq) none)
      by_test false eq = eq

  subjects_same : (observer : UniqueModel) (row other : Row) → IsRow g observer row → IsRow h observer other → indices_of row.subjects 0 (map.keys g.view.standings) ≡ indices_of other.subjects 0 (map.keys g.view.standings) → row.subjects ≡ other.subjects
  subjects_same observer row other r s same = same_uniques row.subjects other.subjects (λ who. by_standing who (map.get g.view.standings who) refl)
    where
      by_standing : (who : UniqueModel) (o : Option Standing) → map.get g.view.standings who ≡ o → has row.subjects who ≡ has other.subjects who
      by_standing who None none = not_in g observer row r who none ∙ sym (not_in h observer other s who (unknown who none))
      by_standing who (Some x) at =
          let there = index_of_get g.view.standings who x at in
          same_indices row.subjects other.subjects 0 (map.keys g.view.standings) same there.0 who
          (slice_get-map (λ (e : UniqueModel × Standing). e.0) (map.entries g.view.standings) there.0 ∙ ap (option_map (λ (e : UniqueModel × Standing). e.0)) there.1)

  rows_by : (observer : UniqueModel) (a b : Option Row) → map.get g.view.rows observer ≡ a → map.get h.view.rows observer ≡ b → row_number_of a ≡ row_number_of b → subjects_of a (map.keys g.view.standings) ≡ subjects_of b (map.keys g.view.standings) → a ≡ b
  rows_by observer None None is are numbers indices = refl
  rows_by observer None (Some other) is are numbers indices = let some : 1 ≤ other.number = (q.rows observer other are).numbered in absurd (omega arith)
  rows_by observer (Some row) None is are numbers indices = let some : 1 ≤ row.number = (p.rows observer row is).numbered in absurd (omega arith)
  rows_by observer (Some row) (Some other) is are numbers indices =
      let subjects = subjects_same observer row other (p.rows observer row is) (q.rows observer other are) indices in
      λ i. Some (record { number = numbers i; subjects = subjects i })

  row_same : (observer : UniqueModel) → map.get g.view.rows observer ≡ map.get h.view.rows observer
  row_same observer = by_standing (map.get g.view.standings observer) refl
    where
      by_standing : (o : Option Standing) → map.get g.view.standings observer ≡ o → map.get g.view.rows observer ≡ map.get h.view.rows observer
      by_standing None none = no_row g p observer none ∙ sym (no_row h q observer (unknown observer none))
      by_standing (Some x) at =
          rows_by observer (map.get g.view.rows observer) (map.get h.view.rows observer) refl refl
          (ap (λ (a : Part). a.row_number) (part_same observer x at))
          (ap (λ (a : Part). a.subjects) (part_same observer x at) ∙ ap (λ s. subjects_of (map.get h.view.rows observer) (map.keys s)) (sym standings_same))

  rows_same : g.view.rows ≡ h.view.rows
  rows_same = same_table g.view.rows h.view.rows row_same

  pub one_gossip : g ≡ h
  one_gossip = λ i. record { version = versions_same i; view = record { standings = standings_same i; rows = rows_same i }; seen = seen_same i }
