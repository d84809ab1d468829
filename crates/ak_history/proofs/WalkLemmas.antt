-- The walk over the entries of a history comes to what the version shows of it.
use Rattle.std.proofs.Common.{◌≡◌, ℕ, zero, suc, ◌<◌, Bool, true, false, ◌||◌, if◌then◌else◌, List, [], ◌∷◌, reverse, slice_get, Option, None, Some, refl, ap, ◌∙◌}
use Rattle.std.specs.List.{list_any}
use Rattle.std.proofs.lemmas.Option.{none-some, same_Some}
use Rattle.std.proofs.lemmas.List.Folds.{list_any-append}
use mathlib.Core.List.{reverse-cons}
use Rattle.std.proofs.lemmas.Bool.{lt-ltb}
use Rattle.std.specs.FinMap as map
use Rattle.ak_address.specs.Unique.{UniqueModel}
use Rattle.ak_address.specs.Table.{value_with}
use Rattle.ak_address.specs.Uniques.{UniqueSet}
use Rattle.ak_clock.specs.Version.{Counts}
use Rattle.ak_member.specs.View.{Row, RowTable, View, later_row, after_effects, after_observed, after_entry, observed}
use Rattle.ak_history.specs.declared.entry.Entry.{Entry}
use Rattle.ak_history.specs.History.{IsNumbered, is_covered, view}
use Rattle.ak_history.specs.Walk.{with_observed, with_entry, with_covered, with_all_covered}
use Rattle.ak_history.proofs.ViewsMerged.{IsBelow, rows_below}

-- ---- a newer row is set
newer_value : (row : Row) (o : Option Row) → ((own : Row) → o ≡ Some own → own.number < row.number) → value_with later_row o row ≡ row
newer_value row None below = refl
newer_value row (Some own) below = ap (λ b. if b then row else own) (lt-ltb own.number row.number (below own refl))

observed_set : (author : UniqueModel) (number : ℕ) (o : Option UniqueSet) (rows : RowTable) → IsBelow author number rows → with_observed author number o rows ≡ after_observed author number o rows
observed_set author number None rows below = refl
observed_set author number (Some subjects) rows below =
    ap (map.insert rows author) (newer_value (record { number = number; subjects = subjects }) (map.get rows author) below.each)

entry_set : (e : Entry) (v : View) → IsBelow e.author e.number v.rows → with_entry e v ≡ after_entry e.author e.number e.effects v
entry_set e v below = λ i. record { standings = after_effects e.effects v.standings; rows = observed_set e.author e.number (observed e.effects) v.rows below i }

pub walk_shows : (history : List Entry) (v : Counts) → IsNumbered history → with_all_covered v history ≡ view history v
walk_shows [] v numbered = refl
walk_shows (e ∷ history) v numbered =
    ap (with_covered v e) (walk_shows history v numbered.1)
    ∙ ap (λ u. if is_covered v e then u else view history v) (entry_set e (view history v) (rows_below e history v numbered))

-- where an entry passes a test, one of them does, whichever is the first
pub any_reversed : {X : Type 0} (p : X → Bool) (xs : List X) (i : ℕ) (x : X) → slice_get xs i ≡ Some x → p x ≡ true → list_any p (reverse xs) ≡ true
any_reversed p [] i x is passes = absurd (none-some x is)
any_reversed p (y ∷ ys) zero x is passes =
    ap (list_any p) (reverse-cons y ys)
    ∙ list_any-append p (reverse ys) (y ∷ [])
    ∙ ap (λ b. list_any p (reverse ys) || (b || false)) (ap p (same_Some y x is) ∙ passes)
    ∙ or_true (list_any p (reverse ys))
  where
    or_true : (b : Bool) → (b || true) ≡ true
    or_true true = refl
    or_true false = refl
any_reversed p (y ∷ ys) (suc i) x is passes =
    ap (list_any p) (reverse-cons y ys)
    ∙ list_any-append p (reverse ys) (y ∷ [])
    ∙ ap (λ b. b || list_any p (y ∷ [])) (any_reversed p ys i x is passes)
