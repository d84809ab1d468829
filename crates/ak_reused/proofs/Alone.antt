-- A list of one is what stands first in it.
use Rattle.std.proofs.Common.{◌≡◌, List, [], ◌∷◌, length, slice_get, Some, ap, arith}
use Rattle.ak_address.proofs.Pairs.{same_Some}

pub alone : {X : Type 0} (xs : List X) (x : X) → length xs ≡ 1 → slice_get xs 0 ≡ Some x → xs ≡ x ∷ []
alone [] x one at = absurd (omega (arith, one))
alone (y ∷ []) x one at = ap (λ z. z ∷ []) (same_Some y x at)
alone (y ∷ z ∷ zs) x one at = absurd (omega (arith, one))
