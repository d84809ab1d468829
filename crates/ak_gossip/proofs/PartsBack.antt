-- The gossip that is made of valid parts is one, and its parts are these.
use Rattle.std.proofs.Common.{◌≡◌, ◌≢◌, ◌⊎◌, inl, inr, ℕ, zero, suc, ◌<◌, ◌≤◌, nat_eq, Bool, true, false, if◌then◌else◌, IsTrue, T, List, [], ◌∷◌, length, slice_get, Option, Some, None, is_some, IsSome, unwrap_or, option_map, refl, sym, ap, ◌∙◌, subst, arith, true≢false}
use Rattle.std.proofs.lemmas.Option.{same_Some, slice_get-map}
use Rattle.std.proofs.lemmas.List.{length-map}
use Rattle.std.proofs.lemmas.Bool.Decides.{nat_tests}
use Rattle.std.specs.Prelude as list
use Rattle.std.specs.FinMap as map
use Rattle.std.specs.FinMap.Entries.{below_all}
use Rattle.std.specs.Ordering.{is_lt, eq_by_cmp}
use Rattle.std.specs.declared.cmp.Ordering.TheVariants.{Less}
use Rattle.ak_address.specs.Unique.{UniqueModel, unique_cmp}
use Rattle.ak_address.specs.Uniques.{no_one, has}
use Rattle.ak_address.proofs.OrderLemmas.{unique_total}
use Rattle.ak_address.proofs.Pairs.{find_at, both}
use Rattle.ak_address.proofs.TableLaws.{same_table, same_or_apart, other_key, pairs_of, true_is}
use Rattle.ak_address.proofs.BoolLemmas.{none_there}
use Rattle.ak_clock.specs.declared.version.TheConstants.{BOUND}
use Rattle.ak_clock.specs.Version.{Counts, IsVersion}
use Rattle.ak_clock.proofs.VersionLaws.{empty_is_version, reaching_is_version}
use Rattle.ak_member.specs.declared.standing.Standing.{Standing}
use Rattle.ak_member.specs.declared.standing.Standing.TheVariants.{Member, Buried}
use Rattle.ak_member.specs.declared.status.Status.TheVariants.{Joining, WeaklyUp, Up, Leaving, Exiting, Down}
use Rattle.ak_member.specs.Standing.{nobody, as_member, member_of, is_member}
use Rattle.ak_member.specs.View.{Row}
use Rattle.ak_gossip.specs.declared.part.Part.{Part}
use Rattle.ak_gossip.specs.Gossip.{GossipState, is_known, IsStanding, IsRow, IsGossip}
use Rattle.ak_gossip.specs.Parts.{state_of, number_of, row_number_of, indices_of, subjects_of, part_of, parts_of, IsState, IsPart, AreParts}
use Rattle.ak_gossip.specs.PartsWalk.{standing_of, with_counts, with_standings, with_seen, with_indices, with_part_rows}
use Rattle.ak_gossip.proofs.PartsOrder.{Ascend, ascend_rest, test_of}
use Rattle.ak_gossip.proofs.PartsIndices.{indices_back, comes_in, in_indices}
use Rattle.ak_gossip.proofs.PartsSteps.{below_is_other, count_of_part, count_of_other, standing_of_part, standing_of_other, few_standings, seen_of_part, seen_of_other, row_of_part, row_of_other}

-- ---- standings
-- a standing is read back from its state and its number
pub standing_back : (x : Standing) → standing_of (state_of x) (number_of x) ≡ Some x
standing_back (Member Joining number) = refl
standing_back (Member WeaklyUp number) = refl
standing_back (Member Up number) = refl
standing_back (Member Leaving number) = refl
standing_back (Member Exiting number) = refl
standing_back (Member Down number) = refl
standing_back (Buried true) = refl
standing_back (Buried false) = refl

pub standing_there : (state number : ℕ) (seen : Bool) (s : IsState state number seen) → standing_of state number ≡ Some s.standing
standing_there state number seen s = ap (λ n. standing_of n number) s.state_is ∙ ap (standing_of (state_of s.standing)) s.number_is ∙ standing_back s.standing

-- ---- the part of a process
pub record Among (parts : List Part) (q : UniqueModel) : Type 0 where
  pub index : ℕ
  pub part : Part
  pub there : slice_get parts index ≡ Some part
  pub is : q ≡ part.unique

abbrev pub IsNone : List Part → UniqueModel → Type 0
IsNone parts q = (i : ℕ) (part : Part) → slice_get parts i ≡ Some part → q ≢ part.unique

none_more : (x : Part) (parts : List Part) (q : UniqueModel) → q ≢ x.unique → IsNone parts q → IsNone (x ∷ parts) q
none_more x parts q apart none zero part is = subst (λ (p : Part). q ≢ p.unique) (same_Some x part is) apart
none_more x parts q apart none (suc i) part is = none i part is

pub among_or_none : (parts : List Part) (q : UniqueModel) → Among parts q ⊎ IsNone parts q
among_or_none [] q = inr (λ i part is. absurd (none_there part is))
among_or_none (x ∷ parts) q = elim (same_or_apart q x.unique) [
  | inl same ↦ inl (record { index = 0; part = x; there = refl; is = same })
  | inr apart ↦ elim (among_or_none parts q) [
    | inl rest ↦ inl (record { index = suc rest.index; part = rest.part; there = rest.there; is = rest.is })
    | inr none ↦ inr (none_more x parts q apart none)
  ]
]

-- ---- the gossip
abbrev pub made_of : List Part → GossipState
made_of parts =
    record {
      version = with_counts map.empty parts;
      view = record { standings = with_standings nobody parts; rows = with_part_rows parts map.empty parts };
      seen = with_seen no_one parts;
    }

-- counts in their range make a version
counts_are_version : (parts : List Part) (v : Counts) → IsVersion v → ((i : ℕ) (part : Part) → slice_get parts i ≡ Some part → part.count ≤ BOUND) → IsVersion (with_counts v parts)
counts_are_version [] v p each = p
counts_are_version (part ∷ parts) v p each =
    counts_are_version parts _ (reaching_is_version v part.unique part.count p (each 0 part refl)) (λ i other at. each (suc i) other at)

-- a row that a part has
row_cases : (b : Bool) (row other : Row) → (if b then None else Some row) ≡ Some other → (b ≡ false) × (row ≡ other)
row_cases true row other is = absurd (none_there other is)
row_cases false row other is = (refl, same_Some row other is)

not_zero : (n : ℕ) → nat_eq n 0 ≡ false → 1 ≤ n
not_zero n is = grind (arith, nat_tests)

is_zero : (n : ℕ) → nat_eq n 0 ≡ true → n ≡ 0
is_zero n is = grind (arith, nat_tests)

module _ (parts : List Part) (valid : AreParts parts) where
  abbrev g : GossipState
  g = made_of parts

  state_at : (i : ℕ) (part : Part) → slice_get parts i ≡ Some part → IsState part.state part.up_number part.seen
  state_at i part at = (valid.each i part at).state

  standing_at : (i : ℕ) (part : Part) (at : slice_get parts i ≡ Some part) → map.get g.view.standings part.unique ≡ Some (state_at i part at).standing
  standing_at i part at =
      standing_of_part parts valid.ascending i part at ∙ standing_there part.state part.up_number part.seen (state_at i part at)

  known_at : (i : ℕ) (part : Part) → slice_get parts i ≡ Some part → IsTrue (is_known g.view.standings part.unique)
  known_at i part at = ap is_some (standing_at i part at)

  known_among : (q : UniqueModel) → Among parts q → IsTrue (is_known g.view.standings q)
  known_among q a = subst (λ k. IsTrue (is_known g.view.standings k)) (sym a.is) (known_at a.index a.part a.there)

  row_at : (i : ℕ) (part : Part) (row : Row) → slice_get parts i ≡ Some part → map.get g.view.rows part.unique ≡ Some row → IsRow g part.unique row
  row_at i part row at is =
      let made : Row = record { number = part.row_number; subjects = with_indices parts no_one part.subjects } in
      let found = row_cases (nat_eq part.row_number 0) made row (sym (row_of_part parts parts valid.ascending i part at) ∙ is) in
      let fits : part.row_number ≤ part.count = (valid.each i part at).row_number in
      let some : 1 ≤ part.row_number = not_zero part.row_number found.0 in
      subst (IsRow g part.unique) found.1 (record {
        observer_known = known_at i part at;
        numbered = some;
        counted = subst (λ n. part.row_number ≤ n) (sym (count_of_part parts valid.ascending i part at)) fits;
        subjects_known = λ subject h. let f = in_indices parts part.subjects subject h in known_among subject (record { index = f.index; part = f.part; there = f.there; is = f.is });
      })

  member_some : (x : Standing) → IsSome (as_member x) → is_some (member_of (Some x)) ≡ true
  member_some x h = h

  pub made_is_gossip : IsGossip (made_of parts)
  made_is_gossip = record {
    version = counts_are_version parts map.empty empty_is_version (λ i part at. (valid.each i part at).count);
    counted = λ who some. elim (among_or_none parts who) [
      | inl a ↦ known_among who a
      | inr none ↦ absurd (omega (arith, count_of_other parts who none))
    ];
    standings = λ who standing is. elim (among_or_none parts who) [
      | inl a ↦ subst IsStanding
          (same_Some (state_at a.index a.part a.there).standing standing (sym (standing_at a.index a.part a.there) ∙ subst (λ k. map.get g.view.standings k ≡ Some standing) a.is is))
          (state_at a.index a.part a.there).may_be
      | inr none ↦ absurd (none_there standing (sym (standing_of_other parts who none) ∙ is))
    ];
    rows = λ observer row is. elim (among_or_none parts observer) [
      | inl a ↦ subst (λ k. IsRow g k row) (sym a.is) (row_at a.index a.part row a.there (subst (λ k. map.get g.view.rows k ≡ Some row) a.is is))
      | inr none ↦ absurd (none_there row (sym (row_of_other parts parts observer none) ∙ is))
    ];
    seen = λ who h. elim (among_or_none parts who) [
      | inl a ↦ subst (λ k. IsTrue (is_member g.view.standings k)) (sym a.is)
          (ap (λ o. is_some (member_of o)) (standing_at a.index a.part a.there)
          ∙ member_some (state_at a.index a.part a.there).standing ((state_at a.index a.part a.there).by_member (sym (seen_of_part parts valid.ascending a.index a.part a.there) ∙ subst (λ k. has g.seen k ≡ true) a.is h)))
      | inr none ↦ absurd (true≢false (sym h ∙ seen_of_other parts who none))
    ];
    few = omega (arith, few_standings parts, valid.few);
  }

  -- ---- its rows
  -- what the part says of its process
  abbrev entry : Part → UniqueModel × Standing
  entry part = (part.unique, unwrap_or (standing_of part.state part.up_number) (Buried false))

  entry_at : (i : ℕ) (part : Part) (at : slice_get parts i ≡ Some part) → (entry part).1 ≡ (state_at i part at).standing
  entry_at i part at = ap (λ o. unwrap_or o (Buried false)) (standing_there part.state part.up_number part.seen (state_at i part at))

  abbrev entries : List (UniqueModel × Standing)
  entries = list.map entry parts

below_entries : (f : Part → UniqueModel × Standing) → ((part : Part) → (f part).0 ≡ part.unique) → (k : UniqueModel) (parts : List Part) → ((i : ℕ) (part : Part) → slice_get parts i ≡ Some part → unique_cmp k part.unique ≡ Less) → T (below_all unique_cmp k (list.map f parts))
below_entries f keyed k [] less = tt
below_entries f keyed k (x ∷ parts) less =
    both _ _ (subst T (sym (ap (λ q. is_lt (unique_cmp k q)) (keyed x) ∙ ap is_lt (less 0 x refl))) tt) (below_entries f keyed k parts (λ i part at. less (suc i) part at))

sorted_entries : (f : Part → UniqueModel × Standing) → ((part : Part) → (f part).0 ≡ part.unique) → (parts : List Part) → Ascend parts → T (map.is_sorted unique_cmp (list.map f parts))
sorted_entries f keyed [] a = tt
sorted_entries f keyed (x ∷ parts) a =
    both _ _ (subst (λ k. T (below_all unique_cmp k (list.map f parts))) (sym (keyed x)) (below_entries f keyed x.unique parts (λ i part at. a 0 (suc i) x part (omega arith) refl at)))
    (sorted_entries f keyed parts (ascend_rest x parts a))

find_none : (f : Part → UniqueModel × Standing) → ((part : Part) → (f part).0 ≡ part.unique) → (parts : List Part) (q : UniqueModel) → IsNone parts q → map.find unique_cmp q (list.map f parts) ≡ None
find_none f keyed [] q none = refl
find_none f keyed (x ∷ parts) q none =
    ap (λ b. if b then Some (f x).1 else map.find unique_cmp q (list.map f parts)) (ap (eq_by_cmp unique_cmp q) (keyed x) ∙ other_key q x.unique (none 0 x refl))
    ∙ find_none f keyed parts q (λ i part at. none (suc i) part at)

-- each is what it was
pub map_back : {X Y : Type 0} (f : Y → X) (r : X → Y) (xs : List X) → ((i : ℕ) (x : X) → slice_get xs i ≡ Some x → f (r x) ≡ x) → list.map f (list.map r xs) ≡ xs
map_back f r [] back = refl
map_back f r (x ∷ xs) back = λ j. back 0 x refl j ∷ map_back f r xs (λ i y at. back (suc i) y at) j

key_list : (f : Part → UniqueModel × Standing) → ((part : Part) → (f part).0 ≡ part.unique) → (parts : List Part) → list.map (λ (row : UniqueModel × Standing). row.0) (list.map f parts) ≡ list.map (λ (part : Part). part.unique) parts
key_list f keyed [] = refl
key_list f keyed (x ∷ parts) = λ j. keyed x j ∷ key_list f keyed parts j

module _ (parts : List Part) (valid : AreParts parts) where
  abbrev made : GossipState
  made = made_of parts

  abbrev rows : List (UniqueModel × Standing)
  rows = entries parts valid

  pairs_sorted : T (map.is_sorted unique_cmp rows)
  pairs_sorted = sorted_entries (entry parts valid) (λ _. refl) parts valid.ascending

  found_row : (q : UniqueModel) → map.get made.view.standings q ≡ map.find unique_cmp q rows
  found_row q = elim (among_or_none parts q) [
    | inl a ↦
        let row : UniqueModel × Standing = entry parts valid a.part in
        ap (map.get made.view.standings) a.is ∙ standing_at parts valid a.index a.part a.there
        ∙ ap Some (sym (entry_at parts valid a.index a.part a.there))
        ∙ sym (ap (λ k. map.find unique_cmp k rows) a.is ∙ find_at unique_cmp unique_total rows a.index row pairs_sorted (slice_get-map (entry parts valid) parts a.index ∙ ap (option_map (entry parts valid)) a.there))
    | inr none ↦ standing_of_other parts q none ∙ sym (find_none (entry parts valid) (λ _. refl) parts q none)
  ]

  made_entries : map.entries made.view.standings ≡ rows
  made_entries = pairs_of rows (true_is _ pairs_sorted) made.view.standings (same_table (map.from_sorted rows) made.view.standings (λ q. map.get-from_sorted unique_cmp rows q pairs_sorted ∙ sym (found_row q)))

  abbrev everybody : List UniqueModel
  everybody = list.map (λ (part : Part). part.unique) parts

  made_keys : map.keys made.view.standings ≡ everybody
  made_keys = ap (list.map (λ (row : UniqueModel × Standing). row.0)) made_entries ∙ key_list (entry parts valid) (λ _. refl) parts

  -- a process stands at one index
  one_index : (i j : ℕ) (one other : Part) → slice_get parts i ≡ Some one → slice_get parts j ≡ Some other → one.unique ≡ other.unique → i ≡ j
  one_index i j one other is js same = elim (apart_or i j) [
    | inl less ↦ absurd (below_is_other one.unique other.unique (valid.ascending i j one other less is js) same)
    | inr (inl more) ↦ absurd (below_is_other other.unique one.unique (valid.ascending j i other one more js is) (sym same))
    | inr (inr equal) ↦ equal
  ]
    where
      apart_or : (i j : ℕ) → (i < j) ⊎ (j < i) ⊎ (i ≡ j)
      apart_or zero zero = inr (inr refl)
      apart_or zero (suc j) = inl (omega arith)
      apart_or (suc i) zero = inr (inl (omega arith))
      apart_or (suc i) (suc j) = elim (apart_or i j) [
        | inl less ↦ inl (omega arith)
        | inr (inl more) ↦ inr (inl (omega arith))
        | inr (inr equal) ↦ inr (inr (ap suc equal))
      ]

  part_named : (i : ℕ) (who : UniqueModel) → slice_get everybody i ≡ Some who → (part : Part) × (slice_get parts i ≡ Some part) × (part.unique ≡ who)
  part_named i who at = named (slice_get parts i) refl (sym (slice_get-map (λ (part : Part). part.unique) parts i) ∙ at)
    where
      named : (o : Option Part) → slice_get parts i ≡ o → option_map (λ (part : Part). part.unique) o ≡ Some who → (part : Part) × (slice_get parts i ≡ Some part) × (part.unique ≡ who)
      named None is at = absurd (none_there who at)
      named (Some part) is at = (part, is, same_Some part.unique who at)

  subjects_back : (i : ℕ) (part : Part) → slice_get parts i ≡ Some part → indices_of (with_indices parts no_one part.subjects) 0 everybody ≡ part.subjects
  subjects_back i part at =
      let p : IsPart (length parts) part = valid.each i part at in
      indices_back (with_indices parts no_one part.subjects) 0 (length parts) everybody part.subjects
      (omega (arith, length-map parts (λ (part : Part). part.unique)))
      (test_of 0 (length parts) part.subjects (λ _ _ _. omega arith) p.below p.ascending)
      (record {
        within = λ j q who is at_q there.
            let named = part_named j who at_q in
            let same : j ≡ q = omega arith in
            subst (λ k. has (with_indices parts no_one part.subjects) k ≡ true) named.2
            (comes_in parts no_one part.subjects there.0 q named.0 there.1 (subst (λ n. slice_get parts n ≡ Some named.0) same named.1));
        each = λ j q who is at_q in_set.
            let named = part_named j who at_q in
            let from = in_indices parts part.subjects who in_set in
            let same : from.index ≡ q = one_index from.index j from.part named.0 from.there named.1 (sym from.is ∙ sym named.2) ∙ omega arith in
            (from.k, subst (λ n. slice_get part.subjects from.k ≡ Some n) same from.at);
      })

  row_back : (i : ℕ) (part : Part) → slice_get parts i ≡ Some part → (row_number_of (map.get made.view.rows part.unique) ≡ part.row_number) × (subjects_of (map.get made.view.rows part.unique) (map.keys made.view.standings) ≡ part.subjects)
  row_back i part at =
      let here = row_of_part parts parts valid.ascending i part at in
      let back = by_number (nat_eq part.row_number 0) refl in
      (ap row_number_of here ∙ back.0, ap (λ o. subjects_of o (map.keys made.view.standings)) here ∙ back.1)
    where
      by_number : (b : Bool) → nat_eq part.row_number 0 ≡ b → (row_number_of (if b then None else Some (record { number = part.row_number; subjects = with_indices parts no_one part.subjects })) ≡ part.row_number) × (subjects_of (if b then None else Some (record { number = part.row_number; subjects = with_indices parts no_one part.subjects })) (map.keys made.view.standings) ≡ part.subjects)
      by_number true is = (sym (is_zero part.row_number is), sym ((valid.each i part at).no_row (is_zero part.row_number is)))
      by_number false is = (refl, ap (indices_of (with_indices parts no_one part.subjects) 0) made_keys ∙ subjects_back i part at)

  part_back : (i : ℕ) (part : Part) → slice_get parts i ≡ Some part → part_of made (entry parts valid part) ≡ part
  part_back i part at =
      let s = state_at parts valid i part at in
      let is = entry_at parts valid i part at in
      let counts = count_of_part parts valid.ascending i part at in
      let states : state_of (entry parts valid part).1 ≡ part.state = ap state_of is ∙ sym s.state_is in
      let numbers : number_of (entry parts valid part).1 ≡ part.up_number = ap number_of is ∙ sym s.number_is in
      let seen = seen_of_part parts valid.ascending i part at in
      let row = row_back i part at in
      λ j. record { unique = part.unique; count = counts j; state = states j; up_number = numbers j; seen = seen j; row_number = row.0 j; subjects = row.1 j }

  pub parts_back : parts_of (made_of parts) ≡ parts
  parts_back = ap (list.map (part_of made)) made_entries ∙ map_back (part_of made) (entry parts valid) parts part_back
