-- A version that covers an entry covers all that its author knew when it made the entry; and what a process held it never loses.
use Rattle.std.proofs.Common.{◌≡◌, zero, suc, ◌≤◌, leb, true, inl, inr, List, [], ◌∷◌, Contains, refl, sym, ap, ◌∙◌, subst, arith, true≢false, le-leb}
use Rattle.std.proofs.lemmas.Bool.{leb-true}
use Rattle.std.specs.FinMap as map
use Rattle.ak_address.proofs.TableLaws.{same_or_apart}
use Rattle.ak_clock.specs.Version.{Counts, count, merged, bumped, Covers}
use Rattle.ak_clock.proofs.VersionLaws.{count-empty, count-bumped_others, covers_along, bumped_covers, merged_covers_first, merged_covers_second}
use Rattle.ak_gossip.specs.Gossip.{same}
use Rattle.ak_history.specs.declared.entry.Entry.{Entry}
use Rattle.ak_history.specs.History.{entries_of, IsNumbered, IsBounded, is_covered}
use Rattle.ak_address.proofs.Elements.{first_or_rest, contains_nothing}
use Rattle.ak_history.proofs.HistoryLemmas.{number_range, later_uncovered}
use Rattle.ak_history.proofs.Covering.{covered_by_either}
use Rattle.ak_world.specs.Remembered.{IsClosed, entries_in}

-- ---- versions that stay closed
pub based_entry : (based : List (Entry × Counts)) (e : Entry) (base : Counts) → Contains based (e, base) → Contains (entries_in based) e
based_entry [] e base there = absurd (contains_nothing (e, base) there)
based_entry (d ∷ based) e base there = elim (first_or_rest d (e, base) based there) [
  | inl same ↦ subst (λ (r : Entry × Counts). Contains (r.0 ∷ entries_in based) e) same (zero, omega arith, refl)
  | inr later ↦ let h = based_entry based e base later in (suc h.0, (let lt = h.1 in omega arith), h.2)
]

pub closed_empty : (based : List (Entry × Counts)) → IsNumbered (entries_in based) → IsClosed based map.empty
closed_empty based numbered e base there covered u =
    let range = number_range (entries_in based) e numbered (based_entry based e base there) in
    let le : e.number ≤ count map.empty e.author = leb-true e.number (count map.empty e.author) covered in
    let none = count-empty e.author in
    let least = range.least in
    absurd (omega arith)

pub closed_merged : (based : List (Entry × Counts)) (v w : Counts) → IsClosed based v → IsClosed based w → IsClosed based (merged v w)
closed_merged based v w p q e base there covered = elim (covered_by_either v w e covered) [
  | inl first ↦ covers_along (merged v w) v base (merged_covers_first v w) (p e base there first)
  | inr second ↦ covers_along (merged v w) w base (merged_covers_second v w) (q e base there second)
]

-- one more entry changes nothing for a version that counts no more than there were
pub closed_later : (based : List (Entry × Counts)) (e : Entry) (base v : Counts) → IsNumbered (e ∷ entries_in based) → IsBounded (entries_in based) v → IsClosed based v → IsClosed ((e, base) ∷ based) v
closed_later based e base v numbered bounded closed d from there covered = elim (first_or_rest (e, base) (d, from) based there) [
  | inl same ↦ absurd (true≢false (sym covered ∙ ap (λ (r : Entry × Counts). is_covered v r.0) same ∙ later_uncovered e (entries_in based) v numbered bounded))
  | inr before ↦ closed d from before covered
]

-- an entry that the author's version covers after its new one is the new one, or was covered
module _ (based : List (Entry × Counts)) (e : Entry) (v : Counts) (numbered : IsNumbered (e ∷ entries_in based)) (own : count v e.author ≡ entries_of e.author (entries_in based)) where
  covered_before : (d : Entry) (from : Counts) → Contains based (d, from) → is_covered (bumped v e.author) d ≡ true → is_covered v d ≡ true
  covered_before d from before covered = elim (same_or_apart d.author e.author) [
    | inl same ↦
        let range = number_range (entries_in based) d numbered.1 (based_entry based d from before) in
        let most : d.number ≤ entries_of d.author (entries_in based) = range.most in
        let here : count v d.author ≡ entries_of d.author (entries_in based) = ap (count v) same ∙ own ∙ ap (λ k. entries_of k (entries_in based)) (sym same) in
        le-leb d.number (count v d.author) (omega arith)
    | inr apart ↦ ap (leb d.number) (sym (count-bumped_others v e.author d.author apart)) ∙ covered
  ]

-- the author's version after its entry
pub closed_update : (based : List (Entry × Counts)) (e : Entry) (v : Counts) → IsNumbered (e ∷ entries_in based) → count v e.author ≡ entries_of e.author (entries_in based) → IsClosed based v → IsClosed ((e, v) ∷ based) (bumped v e.author)
closed_update based e v numbered own closed d from there covered = elim (first_or_rest (e, v) (d, from) based there) [
  | inl same ↦ subst (Covers (bumped v e.author)) (sym (ap (λ (r : Entry × Counts). r.1) same)) (bumped_covers v e.author)
  | inr before ↦ covers_along (bumped v e.author) v from (bumped_covers v e.author) (closed d from before (covered_before based e v numbered own d from before covered))
]
