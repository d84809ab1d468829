-- What a reading says of a clock. This project's choice.
use Rattle.std.specs.Prelude.{◌≡◌, ℕ, ◌+◌, ◌-◌, min, List, length, slice_index, Option, Some, IfSome}

-- the reading is the first of those to come, and the others are left
pub record Reads (old new : Option (ℕ → ℕ)) (reading : ℕ) : Type 0 where
  pub first : IfSome old (λ coming. reading ≡ coming 0)
  pub others : IfSome old (λ coming. (left : ℕ → ℕ) × (new ≡ Some left) × ((n : ℕ) → left n ≡ coming (n + 1)))

-- the reading after so many others: the last again and again, and 0 where there is none
abbrev pub reading_after : List ℕ → ℕ → ℕ
reading_after readings n = slice_index readings (min n (length readings - 1))
