-- Greater versions cover more entries: what was done stays done, and a version that covers an entry that a lesser one does not covers more of them.
use Rattle.std.proofs.Common.{◌≡◌, ℕ, ◌+◌, ◌≤◌, ◌<◌, Bool, true, false, ◌||◌, ◌⊎◌, inl, inr, List, [], ◌∷◌, Contains, refl, sym, ap, ◌∙◌, subst, arith, true≢false, le-leb}
use Rattle.std.proofs.lemmas.Bool.{leb-true}
use Rattle.ak_clock.specs.Version.{Counts, count, Covers, merged}
use Rattle.ak_member.specs.declared.effect.Effect.{Effect}
use Rattle.ak_history.specs.declared.entry.Entry.{Entry}
use Rattle.ak_history.specs.History.{IsNumbered, IsBounded, is_covered}
use Rattle.ak_history.specs.Shown.{Did}
use Rattle.ak_address.proofs.Elements.{contains_nothing, contains_rest, first_or_rest}
use Rattle.ak_history.proofs.HistoryLemmas.{covered-merged, later_uncovered}

pub covered_by_more : (v w : Counts) (e : Entry) → Covers w v → is_covered v e ≡ true → is_covered w e ≡ true
covered_by_more v w e over is =
    let le : e.number ≤ count v e.author = leb-true e.number (count v e.author) is in
    let most : count v e.author ≤ count w e.author = over e.author in
    le-leb e.number (count w e.author) (omega arith)

pub covered_by_either : (v w : Counts) (e : Entry) → is_covered (merged v w) e ≡ true → (is_covered v e ≡ true) ⊎ (is_covered w e ≡ true)
covered_by_either v w e is = by_case (is_covered v e) (is_covered w e) refl refl (sym (covered-merged v w e) ∙ is)
  where
    by_case : (a b : Bool) → is_covered v e ≡ a → is_covered w e ≡ b → (is_covered v e || is_covered w e) ≡ true → (is_covered v e ≡ true) ⊎ (is_covered w e ≡ true)
    by_case true b p q h = inl p
    by_case false true p q h = inr q
    by_case false false p q h = absurd (true≢false (sym h ∙ (λ i. p i || q i)))

-- what a version says was done, a greater one says too, and later entries change nothing of it
pub did_more : (history : List Entry) (v w : Counts) (x : Effect) → Covers w v → Did history v x → Did history w x
did_more history v w x over d = record { entry = d.entry; in_history = d.in_history; covered = covered_by_more v w d.entry over d.covered; does = d.does }

pub did_later : (e : Entry) (history : List Entry) (v : Counts) (x : Effect) → Did history v x → Did (e ∷ history) v x
did_later e history v x d = record { entry = d.entry; in_history = contains_rest e d.entry history d.in_history; covered = d.covered; does = d.does }

pub did_before : (e : Entry) (history : List Entry) (v : Counts) (x : Effect) → IsNumbered (e ∷ history) → IsBounded history v → Did (e ∷ history) v x → Did history v x
did_before e history v x numbered bounded d = elim (first_or_rest e d.entry history d.in_history) [
  | inl same ↦ absurd (true≢false (sym d.covered ∙ ap (is_covered v) same ∙ later_uncovered e history v numbered bounded))
  | inr there ↦ record { entry = d.entry; in_history = there; covered = d.covered; does = d.does }
]

-- how many entries a version covers
abbrev pub one_if : Bool → ℕ
one_if true = 1
one_if false = 0

abbrev pub size : List Entry → Counts → ℕ
size [] v = 0
size (e ∷ history) v = one_if (is_covered v e) + size history v

one_more : (a b : Bool) → (a ≡ true → b ≡ true) → one_if a ≤ one_if b
one_more true b then_is = subst (λ c. 1 ≤ one_if c) (sym (then_is refl)) (omega arith)
one_more false b then_is = omega arith

pub size_more : (history : List Entry) (v w : Counts) → Covers w v → size history v ≤ size history w
size_more [] v w over = omega arith
size_more (e ∷ history) v w over =
    let first = one_more (is_covered v e) (is_covered w e) (covered_by_more v w e over) in
    let rest = size_more history v w over in
    omega arith

pub size_less : (history : List Entry) (v w : Counts) (e : Entry) → Covers w v → Contains history e → is_covered w e ≡ true → is_covered v e ≡ false → size history v < size history w
size_less [] v w e over there is misses = absurd (contains_nothing e there)
size_less (d ∷ history) v w e over there is misses = elim (first_or_rest d e history there) [
  | inl same ↦
      let counts : one_if (is_covered w d) ≡ 1 = ap one_if (ap (is_covered w) (sym same) ∙ is) in
      let none : one_if (is_covered v d) ≡ 0 = ap one_if (ap (is_covered v) (sym same) ∙ misses) in
      let rest = size_more history v w over in
      omega arith
  | inr later ↦
      let first = one_more (is_covered v d) (is_covered w d) (covered_by_more v w d over) in
      let rest = size_less history v w e over later is misses in
      omega arith
]
