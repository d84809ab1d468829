-- Entries and their numbers, and which entries versions cover.
use Rattle.std.proofs.Common.{◌≡◌, ◌≢◌, ℕ, ◌+◌, ◌≤◌, ◌<◌, max, leb, Bool, true, false, ◌||◌, if◌then◌else◌, inl, inr, List, [], ◌∷◌, ◌++◌, length, reverse, take, drop, get_or, Contains, refl, sym, ap, ◌∙◌, subst, arith, le-leb}
use Rattle.std.proofs.lemmas.Bool.{leb-true, leb-false, lt-leb}
use Rattle.std.proofs.lemmas.List.{reverse-append, take_more, take-append-drop}
use Rattle.std.specs.Ordering.{is_eq}
use Rattle.ak_address.specs.Unique.{UniqueModel, unique_cmp}
use Rattle.ak_address.proofs.TableLaws.{key_itself, other_key, same_or_apart}
use Rattle.ak_address.proofs.Elements.{first_or_rest, contains_nothing}
use Rattle.ak_clock.specs.Version.{Counts, count, merged, bumped}
use Rattle.ak_clock.proofs.VersionLaws.{count-merged, count-bumped_author, count-bumped_others}
use Rattle.ak_history.specs.declared.entry.Entry.{Entry}
use Rattle.ak_history.specs.History.{entries_of, IsNumbered, IsBounded, is_covered}

-- ---- how many entries an author has
entries-if : (b : Bool) (k : ℕ) → k ≤ (if b then k + 1 else k)
entries-if true k = omega arith
entries-if false k = omega arith

pub entries-more : (e : Entry) (history : List Entry) (u : UniqueModel) → entries_of u history ≤ entries_of u (e ∷ history)
entries-more e history u = entries-if (is_eq (unique_cmp u e.author)) (entries_of u history)

pub entries-author : (e : Entry) (history : List Entry) → entries_of e.author (e ∷ history) ≡ entries_of e.author history + 1
entries-author e history = ap (λ b. if b then entries_of e.author history + 1 else entries_of e.author history) (key_itself e.author)

pub entries-others : (e : Entry) (history : List Entry) (u : UniqueModel) → u ≢ e.author → entries_of u (e ∷ history) ≡ entries_of u history
entries-others e history u apart = ap (λ b. if b then entries_of u history + 1 else entries_of u history) (other_key u e.author apart)

pub entries-prefix : (more history : List Entry) (u : UniqueModel) → entries_of u history ≤ entries_of u (more ++ history)
entries-prefix [] history u = omega arith
entries-prefix (e ∷ more) history u = let rest = entries-prefix more history u in let one = entries-more e (more ++ history) u in omega arith

-- ---- the numbers of entries
pub numbered-rest : (more history : List Entry) → IsNumbered (more ++ history) → IsNumbered history
numbered-rest [] history numbered = numbered
numbered-rest (e ∷ more) history numbered = numbered-rest more history numbered.1

-- ---- a list of entries that has the newest last
numbered-take : (entries : List Entry) (n : ℕ) → IsNumbered (reverse entries) → IsNumbered (reverse (take n entries))
numbered-take entries n numbered =
    numbered-rest (reverse (drop n entries)) (reverse (take n entries)) (subst IsNumbered (ap reverse (sym (take-append-drop n entries)) ∙ reverse-append (take n entries) (drop n entries)) numbered)

module _ (entries : List Entry) (n : ℕ) (e : Entry) (lt : n < length entries) (at : e ≡ get_or entries n e) where
  newest_first : reverse (take (n + 1) entries) ≡ e ∷ reverse (take n entries)
  newest_first = ap reverse (take_more entries n e lt) ∙ reverse-append (take n entries) (get_or entries n e ∷ []) ∙ ap (λ x. x ∷ reverse (take n entries)) (sym at)

  -- the number of an entry is how many its author had with it
  pub number-newest : IsNumbered (reverse entries) → e.number ≡ entries_of e.author (reverse (take (n + 1) entries))
  number-newest numbered =
      let here : IsNumbered (e ∷ reverse (take n entries)) = subst IsNumbered newest_first (numbered-take entries (n + 1) numbered) in
      here.0 ∙ sym (entries-author e (reverse (take n entries))) ∙ ap (entries_of e.author) (sym newest_first)

  -- an entry of somebody else counts for nothing
  pub entries-without : (author : UniqueModel) → is_eq (unique_cmp author e.author) ≡ false → entries_of author (reverse (take n entries)) ≡ entries_of author (reverse (take (n + 1) entries))
  entries-without author other =
      let rest = reverse (take n entries) in
      sym (ap (λ b. if b then entries_of author rest + 1 else entries_of author rest) other) ∙ ap (entries_of author) (sym newest_first)

most-if : (b : Bool) (k n : ℕ) → k ≤ n → (if b then k + 1 else k) ≤ n + 1
most-if true k n le = omega arith
most-if false k n le = omega arith

-- an author has at most all entries
pub entries-most : (history : List Entry) (u : UniqueModel) → entries_of u history ≤ length history
entries-most [] u = omega arith
entries-most (e ∷ history) u = let rest = most-if (is_eq (unique_cmp u e.author)) (entries_of u history) (length history) (entries-most history u) in omega (arith, rest)

-- an entry's number is from 1 to how many entries its author has
pub record InRange (history : List Entry) (e : Entry) : Type 0 where
  pub least : 1 ≤ e.number
  pub most : e.number ≤ entries_of e.author history

pub number_range : (history : List Entry) (e : Entry) → IsNumbered history → Contains history e → InRange history e
number_range [] e numbered there = absurd (contains_nothing e there)
number_range (d ∷ history) e numbered there = elim (first_or_rest d e history there) [
  | inl same ↦
      subst (InRange (d ∷ history)) (sym same)
      (let number : d.number ≡ entries_of d.author history + 1 = numbered.0 in
      let own = entries-author d history in
      record { least = omega arith; most = omega arith })
  | inr later ↦
      let rest = number_range history e numbered.1 later in
      let more = entries-more d history e.author in
      record { least = rest.least; most = let most = rest.most in omega arith }
]

-- an older entry of the newest entry's author has a lesser number
pub number_below : (d e : Entry) (history : List Entry) → IsNumbered (d ∷ history) → Contains history e → e.author ≡ d.author → e.number < d.number
number_below d e history numbered there same =
    let number : d.number ≡ entries_of d.author history + 1 = numbered.0 in
    let range = number_range history e numbered.1 there in
    let most : e.number ≤ entries_of d.author history = subst (λ u. e.number ≤ entries_of u history) same range.most in
    omega arith

-- entries of one author and one number are one entry
pub one_entry : (history : List Entry) (d e : Entry) → IsNumbered history → Contains history d → Contains history e → d.author ≡ e.author → d.number ≡ e.number → d ≡ e
one_entry [] d e numbered there other author number = absurd (contains_nothing d there)
one_entry (n ∷ history) d e numbered there other author number = elim (first_or_rest n d history there) [
  | inl first ↦ elim (first_or_rest n e history other) [
    | inl second ↦ first ∙ sym second
    | inr second ↦
        let below = number_below n e history numbered second (sym author ∙ ap (λ (x : Entry). x.author) first) in
        let is : d.number ≡ n.number = ap (λ (x : Entry). x.number) first in
        absurd (omega arith)
  ]
  | inr first ↦ elim (first_or_rest n e history other) [
    | inl second ↦
        let below = number_below n d history numbered first (author ∙ ap (λ (x : Entry). x.author) second) in
        let is : e.number ≡ n.number = ap (λ (x : Entry). x.number) second in
        absurd (omega arith)
    | inr second ↦ one_entry history d e numbered.1 first second author number
  ]
]

-- ---- which entries are covered
pub leb-max : (n a b : ℕ) → leb n (max a b) ≡ (leb n a || leb n b)
leb-max n a b =
    by_cases (leb n a) (leb n b) refl refl
  where
    by_cases : (x y : Bool) → leb n a ≡ x → leb n b ≡ y → leb n (max a b) ≡ (x || y)
    by_cases true y p q = let le = leb-true n a p in le-leb n (max a b) (omega arith)
    by_cases false true p q = let le = leb-true n b q in le-leb n (max a b) (omega arith)
    by_cases false false p q = lt-leb n (max a b) (let l = leb-false n a p in let r = leb-false n b q in omega arith)

pub covered-merged : (v w : Counts) (e : Entry) → is_covered (merged v w) e ≡ (is_covered v e || is_covered w e)
covered-merged v w e = ap (leb e.number) (count-merged v w e.author) ∙ leb-max e.number (count v e.author) (count w e.author)

pub covered_count : (v : Counts) (e : Entry) → is_covered v e ≡ true → e.number ≤ count v e.author
covered_count v e is = leb-true e.number (count v e.author) is

-- two versions cover the same entries of a history
pub record Agree (history : List Entry) (v w : Counts) : Type 0 where
  pub tests : (u : UniqueModel) (n : ℕ) → n ≤ entries_of u history → leb n (count v u) ≡ leb n (count w u)

pub agree_rest : (e : Entry) (history : List Entry) (v w : Counts) → Agree (e ∷ history) v w → Agree history v w
agree_rest e history v w agree = record { tests = λ u n le. agree.tests u n (let more = entries-more e history u in omega arith) }

pub agree_first : (e : Entry) (history : List Entry) (v w : Counts) → IsNumbered (e ∷ history) → Agree (e ∷ history) v w → is_covered v e ≡ is_covered w e
agree_first e history v w numbered agree =
    let own = entries-author e history in
    let number : e.number ≡ entries_of e.author history + 1 = numbered.0 in
    agree.tests e.author e.number (omega arith)

-- a later entry is not covered where the version counts no more entries than were made before
pub later_uncovered : (e : Entry) (history : List Entry) (v : Counts) → IsNumbered (e ∷ history) → IsBounded history v → is_covered v e ≡ false
later_uncovered e history v numbered bounded =
    let number : e.number ≡ entries_of e.author history + 1 = numbered.0 in
    let below : count v e.author ≤ entries_of e.author history = bounded e.author in
    lt-leb e.number (count v e.author) (omega arith)

pub bounded-prefix : (more history : List Entry) (v : Counts) → IsBounded history v → IsBounded (more ++ history) v
bounded-prefix more history v bounded u = let below : count v u ≤ entries_of u history = bounded u in let more_entries = entries-prefix more history u in omega arith

-- ---- one more entry
pub bumped-agree : (author : UniqueModel) (history : List Entry) (v : Counts) → count v author ≡ entries_of author history → Agree history (bumped v author) v
bumped-agree author history v own = record {
  tests = λ u n le. elim (same_or_apart u author) [
    | inl same ↦
        let here : count v u ≡ entries_of u history = ap (count v) same ∙ own ∙ ap (λ k. entries_of k history) (sym same) in
        let after : count (bumped v author) u ≡ count v author + 1 = ap (count (bumped v author)) same ∙ count-bumped_author v author in
        let mine : count v u ≡ count v author = ap (count v) same in
        le-leb n (count (bumped v author) u) (omega arith) ∙ sym (le-leb n (count v u) (omega arith))
    | inr apart ↦ ap (leb n) (count-bumped_others v author u apart)
  ];
}

pub bumped_covered : (e : Entry) (history : List Entry) (v : Counts) → IsNumbered (e ∷ history) → count v e.author ≡ entries_of e.author history → is_covered (bumped v e.author) e ≡ true
bumped_covered e history v numbered own =
    let number : e.number ≡ entries_of e.author history + 1 = numbered.0 in
    let grown = count-bumped_author v e.author in
    le-leb e.number (count (bumped v e.author) e.author) (omega arith)

pub bounded-update : (e : Entry) (history : List Entry) (v : Counts) → IsBounded history v → IsBounded (e ∷ history) (bumped v e.author)
bounded-update e history v bounded u =
    elim (same_or_apart u e.author) [
      | inl same ↦
          subst (λ k. count (bumped v e.author) k ≤ entries_of k (e ∷ history)) (sym same)
          (let below : count v e.author ≤ entries_of e.author history = bounded e.author in
          let grown = count-bumped_author v e.author in
          let own = entries-author e history in
          omega arith)
      | inr apart ↦
          let below : count v u ≤ entries_of u history = bounded u in
          let kept = count-bumped_others v e.author u apart in
          let more = entries-more e history u in
          omega arith
    ]
