-- Lists of pairs in the order of their keys, as the table's calls walk them.
use Rattle.std.specs.Prelude.{ℕ, zero, suc, List, [], ◌∷◌, Result, Ok, Err}
use Rattle.std.specs.declared.cmp.Ordering.{Ordering}
use Rattle.std.specs.FinMap.Entries.{by_order}

abbrev pub next : Result ℕ ℕ → Result ℕ ℕ
next (Ok index) = Ok (suc index)
next (Err index) = Err (suc index)

module _ {K X : Type 0} (R : K → K → Ordering) where
  -- where the key stands, or as an error where it would go
  abbrev pub index : K → List (K × X) → Result ℕ ℕ
  index q [] = Err zero
  index q (e ∷ es) = by_order (R q e.0) (Err zero) (Ok zero) (next (index q es))

  module _ (f : X → X → X) where
    -- one pair and what comes of the pairs after it, among those of a second list
    abbrev pub woven_pair : K × X → (List (K × X) → List (K × X)) → List (K × X) → List (K × X)
    woven_pair x after [] = x ∷ after []
    woven_pair x after (y ∷ ys) = by_order (R x.0 y.0) (x ∷ after (y ∷ ys)) ((x.0, f x.1 y.1) ∷ after ys) (y ∷ woven_pair x after ys)

    -- the pairs of both in order; two pairs of one key become one, by f
    abbrev pub woven : List (K × X) → List (K × X) → List (K × X)
    woven [] ys = ys
    woven (x ∷ xs) ys = woven_pair x (woven xs) ys
