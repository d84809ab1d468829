-- Lists are the same where their elements are.
use Rattle.std.proofs.Common.{◌≡◌, ℕ, suc, ◌<◌, List, [], ◌∷◌, length, slice_get, refl, arith}
use Rattle.ak_address.proofs.Pairs.{same_Some}

pub same_elements : {X : Type 0} (xs ys : List X) → length xs ≡ length ys → ((k : ℕ) → k < length xs → slice_get xs k ≡ slice_get ys k) → xs ≡ ys
same_elements [] [] long each = refl
same_elements [] (y ∷ ys) long each = absurd (omega (arith, long))
same_elements (x ∷ xs) [] long each = absurd (omega (arith, long))
same_elements (x ∷ xs) (y ∷ ys) long each = λ i. same_Some x y (each 0 (omega arith)) i ∷ same_elements xs ys (omega (arith, long)) (λ k lt. each (suc k) (omega (arith, lt))) i
