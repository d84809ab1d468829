-- A walk along a list by its indices folds it.
use Rattle.std.proofs.Common.{◌≡◌, ℕ, zero, suc, ◌+◌, ◌≤◌, List, [], ◌∷◌, take, fold, length, slice_get, Some, None, refl, sym, ap, ◌∙◌, arith}
use Rattle.ak_address.proofs.Pairs.{not_None, same_Some}

next : (i : ℕ) → i + 1 ≡ suc i
next i = omega arith

module _ {X Y : Type 0} (f : Y → X → Y) where
  more : (s : Y) (xs : List X) (i : ℕ) (x : X) → slice_get xs i ≡ Some x → fold f s (take (suc i) xs) ≡ f (fold f s (take i xs)) x
  more s [] i x there = absurd (not_None x (sym there))
  more s (y ∷ ys) zero x there = ap (f s) (same_Some y x there)
  more s (y ∷ ys) (suc i) x there = more (f s y) ys i x there

  end : (s : Y) (xs : List X) (i : ℕ) → slice_get xs i ≡ None → fold f s (take (suc i) xs) ≡ fold f s (take i xs)
  end s [] zero none = refl
  end s [] (suc i) none = refl
  end s (y ∷ ys) zero none = absurd (not_None y none)
  end s (y ∷ ys) (suc i) none = end (f s y) ys i none

  pub fold_all : (s : Y) (xs : List X) (i : ℕ) → length xs ≤ i → fold f s (take i xs) ≡ fold f s xs
  fold_all s [] zero past = refl
  fold_all s [] (suc i) past = refl
  fold_all s (y ∷ ys) zero past = absurd (omega (arith, past))
  fold_all s (y ∷ ys) (suc i) past = fold_all (f s y) ys i (omega (arith, past))

  -- one more element
  pub fold_more : (s : Y) (xs : List X) (i : ℕ) (x : X) → slice_get xs i ≡ Some x → fold f s (take (i + 1) xs) ≡ f (fold f s (take i xs)) x
  fold_more s xs i x there = ap (λ n. fold f s (take n xs)) (next i) ∙ more s xs i x there

  -- no element is left
  pub fold_end : (s : Y) (xs : List X) (i : ℕ) → slice_get xs i ≡ None → fold f s (take (i + 1) xs) ≡ fold f s (take i xs)
  fold_end s xs i none = ap (λ n. fold f s (take n xs)) (next i) ∙ end s xs i none
