-- What an answer says of the arguments of a program. This project's choice.
use Rattle.std.specs.Prelude.{◌≡◌, ℕ, ◌<◌, List, length, take, Some, None, Result, Ok, Err, slice_get}
use Rattle.std.specs.declared.env.FillError.{FillError}
use Rattle.std.specs.declared.env.FillError.TheVariants.{NotPresent, TooLong}

-- the buffer begins with the whole argument at the index; or it is longer than the buffer; or there is none
abbrev pub Fills : List (List ℕ) → ℕ → Result ℕ FillError → List ℕ → Type 0
Fills all index (Ok n) buffer = slice_get all index ≡ Some (take n buffer)
Fills all index (Err TooLong) buffer = (one : List ℕ) × (slice_get all index ≡ Some one) × (length buffer < length one)
Fills all index (Err NotPresent) buffer = slice_get all index ≡ None
