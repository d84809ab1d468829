-- Walks along lists for one that passes a test, among what is kept of a list.
use Rattle.std.proofs.Common.{◌≡◌, ℕ, ◌+◌, ◌≤◌, Bool, true, false, ◌||◌, List, length, drop, slice_get, option_to_list, sym, ap, ◌∙◌}
use Rattle.std.proofs.lemmas.List.Folds.{list_any-append}
use Rattle.std.specs.List.{list_any}
use Rattle.ak_member.proofs.MemberLemmas.{KeepsPairs, kept_from, kept_at_end}

module _ {X Y : Type 0} (kept : List X → List Y) (keeps : KeepsPairs kept) (p : Y → Bool) (xs : List X) (i : ℕ) where
  test_from : list_any p (kept (drop i xs)) ≡ (list_any p (kept (option_to_list (slice_get xs i))) || list_any p (kept (drop (i + 1) xs)))
  test_from = ap (list_any p) (kept_from kept keeps xs i) ∙ list_any-append p _ _

  pub some_found : (b : Bool) → b ≡ list_any p (kept (drop i xs)) → true ≡ list_any p (kept (option_to_list (slice_get xs i))) → true ≡ b
  some_found b is here = sym (is ∙ test_from ∙ ap (λ a. a || list_any p (kept (drop (i + 1) xs))) (sym here))

  pub some_passed : (b : Bool) → b ≡ list_any p (kept (drop i xs)) → false ≡ list_any p (kept (option_to_list (slice_get xs i))) → b ≡ list_any p (kept (drop (i + 1) xs))
  some_passed b is here = is ∙ test_from ∙ ap (λ a. a || list_any p (kept (drop (i + 1) xs))) (sym here)

  pub none_left : (b : Bool) → b ≡ list_any p (kept (drop i xs)) → length xs ≤ i → false ≡ b
  none_left b is past = sym (is ∙ ap (list_any p) (kept_at_end kept keeps xs i past))
