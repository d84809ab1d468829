-- One walk along two lists of counts in the order of processes.
use Rattle.std.specs.Prelude.{ℕ, Bool, true, false, ◌&&◌, List, [], ◌∷◌, nat_le}
use Rattle.std.specs.FinMap.Entries.{by_order}
use Rattle.ak_address.specs.Unique.{UniqueModel, unique_cmp}

-- whether each count of the second list is reached in the first
abbrev pub reached : List (UniqueModel × ℕ) → List (UniqueModel × ℕ) → Bool
reached [] [] = true
reached [] (y ∷ ys) = false
reached (x ∷ xs) [] = true
reached (x ∷ xs) (y ∷ ys) = by_order (unique_cmp x.0 y.0) (reached xs (y ∷ ys)) (nat_le y.1 x.1 && reached xs ys) false
