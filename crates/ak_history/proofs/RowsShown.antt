-- What a version shows of an observer: the row of the last covered entry of it that observes.
use Rattle.std.proofs.Common.{◌≡◌, ◌<◌, ◌≢◌, ℕ, ◌≤◌, Bool, true, false, IsTrue, if◌then◌else◌, inl, inr, List, [], ◌∷◌, Option, None, Some, refl, sym, ap, ◌∙◌, subst, arith, true≢false, nat_lt, is_some}
use Rattle.std.proofs.lemmas.Bool.{ltb-true, ltb-false}
use Rattle.std.proofs.lemmas.Option.{same_Some}
use Rattle.std.specs.FinMap as map
use Rattle.ak_address.specs.Unique.{UniqueModel}
use Rattle.ak_address.specs.Uniques.{UniqueSet}
use Rattle.ak_address.proofs.TableLaws.{same_or_apart, get-empty, get-insert_here, get-insert_elsewhere}
use Rattle.ak_clock.specs.Version.{Counts, count}
use Rattle.ak_member.specs.View.{Row, RowTable, observed, after_observed, after_entry, RowsAgree}
use Rattle.ak_history.specs.declared.entry.Entry.{Entry}
use Rattle.ak_history.specs.History.{entries_of, IsNumbered, is_covered, view}
use Rattle.ak_history.specs.Shown.{IsLastRow, Observes}
use Rattle.ak_address.proofs.Elements.{first_or_rest, contains_rest, contains_nothing, contains_first}
use Rattle.ak_history.proofs.HistoryLemmas.{number_range, number_below, one_entry, covered_count}

-- ---- what an entry makes of the rows
pub get-observed_here : (author : UniqueModel) (number : ℕ) (subjects : UniqueSet) (rows : RowTable) → map.get (after_observed author number (Some subjects) rows) author ≡ Some (record { number = number; subjects = subjects })
get-observed_here author number subjects rows = get-insert_here rows author (record { number = number; subjects = subjects })

pub get-observed_elsewhere : (author : UniqueModel) (number : ℕ) (o : Option UniqueSet) (rows : RowTable) (q : UniqueModel) → q ≢ author → map.get (after_observed author number o rows) q ≡ map.get rows q
get-observed_elsewhere author number None rows q apart = refl
get-observed_elsewhere author number (Some subjects) rows q apart = get-insert_elsewhere rows author (record { number = number; subjects = subjects }) q apart

-- ---- one entry more
-- the newest entry says nothing of the observer
abbrev Silent : Counts → UniqueModel → Entry → Type 0
Silent v observer e = e.author ≡ observer → IsTrue (is_covered v e) → observed e.effects ≡ None

last_stays : (e : Entry) (history : List Entry) (v : Counts) (observer : UniqueModel) (row : Row) → Silent v observer e → IsLastRow history v observer row → IsLastRow (e ∷ history) v observer row
last_stays e history v observer row silent r = record {
  entry = r.entry;
  in_history = contains_rest e r.entry history r.in_history;
  author = r.author;
  covered = r.covered;
  number = r.number;
  subjects = r.subjects;
  last = λ later there author covered above. elim (first_or_rest e later history there) [
    | inl same ↦ ap (λ (x : Entry). observed x.effects) same ∙ silent (sym (ap (λ (x : Entry). x.author) same) ∙ author) (sym (ap (is_covered v) same) ∙ covered)
    | inr before ↦ r.last later before author covered above
  ];
}

pub stays_observed : (e : Entry) (history : List Entry) (v : Counts) (observer : UniqueModel) (o : Option Row) → Silent v observer e → Observes history v observer o → Observes (e ∷ history) v observer o
stays_observed e history v observer None silent none = λ entry there author covered. elim (first_or_rest e entry history there) [
  | inl same ↦ ap (λ (x : Entry). observed x.effects) same ∙ silent (sym (ap (λ (x : Entry). x.author) same) ∙ author) (sym (ap (is_covered v) same) ∙ covered)
  | inr before ↦ none entry before author covered
]
stays_observed e history v observer (Some row) silent r = last_stays e history v observer row silent r

newest_row : (e : Entry) (history : List Entry) (v : Counts) (subjects : UniqueSet) → IsNumbered (e ∷ history) → is_covered v e ≡ true → observed e.effects ≡ Some subjects
    → IsLastRow (e ∷ history) v e.author (record { number = e.number; subjects = subjects })
newest_row e history v subjects numbered covered observes = record {
  entry = e;
  in_history = contains_first e history;
  author = refl;
  covered = covered;
  number = refl;
  subjects = observes;
  last = λ later there author covered above. elim (first_or_rest e later history there) [
    | inl same ↦ let is : later.number ≡ e.number = ap (λ (x : Entry). x.number) same in absurd (omega arith)
    | inr before ↦ let below = number_below e later history numbered before author in absurd (omega arith)
  ];
}

entry_observed : (e : Entry) (history : List Entry) (v : Counts) (observer : UniqueModel) (o : Option UniqueSet) → IsNumbered (e ∷ history) → is_covered v e ≡ true → observed e.effects ≡ o
    → Observes history v observer (map.get (view history v).rows observer)
    → Observes (e ∷ history) v observer (map.get (after_observed e.author e.number o (view history v).rows) observer)
entry_observed e history v observer None numbered covered observes before = stays_observed e history v observer _ (λ _ _. observes) before
entry_observed e history v observer (Some subjects) numbered covered observes before = elim (same_or_apart observer e.author) [
  | inl same ↦
      subst (λ u. Observes (e ∷ history) v u (map.get (after_observed e.author e.number (Some subjects) (view history v).rows) u)) (sym same)
      (subst (Observes (e ∷ history) v e.author) (sym (get-observed_here e.author e.number subjects (view history v).rows)) (newest_row e history v subjects numbered covered observes))
  | inr apart ↦
      subst (Observes (e ∷ history) v observer) (sym (get-observed_elsewhere e.author e.number (Some subjects) (view history v).rows observer apart))
      (stays_observed e history v observer _ (λ same _. absurd (apart (sym same))) before)
]

-- ---- the whole history
pub rows_shown : (history : List Entry) (v : Counts) (observer : UniqueModel) → IsNumbered history → Observes history v observer (map.get (view history v).rows observer)
rows_shown [] v observer numbered = subst (Observes [] v observer) (sym (get-empty observer)) (λ entry there author covered. absurd (contains_nothing entry there))
rows_shown (e ∷ history) v observer numbered = by_cover (is_covered v e) refl (rows_shown history v observer numbered.1)
  where
    by_cover : (b : Bool) → is_covered v e ≡ b → Observes history v observer (map.get (view history v).rows observer)
        → Observes (e ∷ history) v observer (map.get (if b then after_entry e.author e.number e.effects (view history v) else view history v).rows observer)
    by_cover true covered before = entry_observed e history v observer (observed e.effects) numbered covered refl before
    by_cover false uncovered before = stays_observed e history v observer _ (λ _ covered. absurd (true≢false (sym covered ∙ uncovered))) before

-- the row that a version shows of an observer
pub row_shown : (history : List Entry) (v : Counts) (observer : UniqueModel) (row : Row) → IsNumbered history → map.get (view history v).rows observer ≡ Some row → IsLastRow history v observer row
row_shown history v observer row numbered is = subst (Observes history v observer) is (rows_shown history v observer numbered)

pub rows-counted : (history : List Entry) (v : Counts) (o : UniqueModel) (row : Row) → IsNumbered history → map.get (view history v).rows o ≡ Some row → (1 ≤ row.number) × (row.number ≤ count v o) × (row.number ≤ entries_of o history)
rows-counted history v o row numbered is =
    let r = row_shown history v o row numbered is in
    let range = number_range history r.entry numbered r.in_history in
    let counted = covered_count v r.entry r.covered in
    let number : r.entry.number ≡ row.number = r.number in
    let least : 1 ≤ row.number = subst (λ n. 1 ≤ n) number range.least in (
      least,
      subst (λ u. row.number ≤ count v u) r.author (subst (λ n. n ≤ count v r.entry.author) number counted),
      subst (λ u. row.number ≤ entries_of u history) r.author (subst (λ n. n ≤ entries_of r.entry.author history) number range.most),
    )

-- rows of one observer and one number are one row
pub rows-agree : (history : List Entry) (v w : Counts) → IsNumbered history → RowsAgree (view history v).rows (view history w).rows
rows-agree history v w numbered observer row other is others number =
    let r = row_shown history v observer row numbered is in
    let s = row_shown history w observer other numbered others in
    let same = one_entry history r.entry s.entry numbered r.in_history s.in_history (r.author ∙ sym s.author) (r.number ∙ number ∙ sym s.number) in
    let subjects : row.subjects ≡ other.subjects = same_Some row.subjects other.subjects (sym r.subjects ∙ ap (λ (x : Entry). observed x.effects) same ∙ s.subjects) in
    λ i. record { number = number i; subjects = subjects i }

-- ---- one row alone is what the words allow
none_or_some : {X : Type 0} (o : Option X) (x : X) → o ≡ None → o ≡ Some x → ⊥
none_or_some o x none some = true≢false (ap is_some (sym some ∙ none))

module _ (history : List Entry) (v : Counts) (observer : UniqueModel) (numbered : IsNumbered history) where
  not_below : (row other : Row) → IsLastRow history v observer row → IsLastRow history v observer other → row.number < other.number → ⊥
  not_below row other r s below =
      none_or_some (observed s.entry.effects) other.subjects
      (r.last s.entry s.in_history s.author s.covered (subst (λ n. row.number < n) (sym s.number) below)) s.subjects

  same_row : (row other : Row) → IsLastRow history v observer row → IsLastRow history v observer other → row.number ≡ other.number → row ≡ other
  same_row row other r s number =
      let same = one_entry history r.entry s.entry numbered r.in_history s.in_history (r.author ∙ sym s.author) (r.number ∙ number ∙ sym s.number) in
      let subjects : row.subjects ≡ other.subjects = same_Some row.subjects other.subjects (sym r.subjects ∙ ap (λ (x : Entry). observed x.effects) same ∙ s.subjects) in
      λ i. record { number = number i; subjects = subjects i }

  pub one_row : (one other : Option Row) → Observes history v observer one → Observes history v observer other → one ≡ other
  one_row None None h k = refl
  one_row None (Some row) none r = absurd (none_or_some (observed r.entry.effects) row.subjects (none r.entry r.in_history r.author r.covered) r.subjects)
  one_row (Some row) None r none = absurd (none_or_some (observed r.entry.effects) row.subjects (none r.entry r.in_history r.author r.covered) r.subjects)
  one_row (Some row) (Some other) r s = by_tests (nat_lt row.number other.number) (nat_lt other.number row.number) refl refl
    where
      by_tests : (a b : Bool) → nat_lt row.number other.number ≡ a → nat_lt other.number row.number ≡ b → Some row ≡ Some other
      by_tests true b p q = absurd (not_below row other r s (ltb-true row.number other.number p))
      by_tests false true p q = absurd (not_below other row s r (ltb-true other.number row.number q))
      by_tests false false p q =
          let least = ltb-false row.number other.number p in
          let most = ltb-false other.number row.number q in
          ap Some (same_row row other r s (omega arith))
