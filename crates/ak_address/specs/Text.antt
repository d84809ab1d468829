-- Where the bytes of a text stand: a few in the value itself, and more in an allocation.
use Rattle.std.specs.Prelude.{◌≤◌, ℕ, List, take, ⊤}
use Rattle.ak_address.specs.declared.text.Letters.{Letters}
use Rattle.ak_address.specs.declared.text.Letters.TheVariants.{Few, Many}
use Rattle.ak_address.specs.Start.{IsKept}

-- the bytes, wherever they stand
abbrev pub bytes_of : Letters → List ℕ
bytes_of (Few len bytes) = take len bytes
bytes_of (Many bytes) = bytes.items

-- no more bytes than stand in the value
abbrev pub IsWithin : Letters → Type 0
IsWithin (Few len bytes) = len ≤ 16
IsWithin (Many bytes) = ⊤

-- what a text is made of: its bytes, and the number that it keeps of them
pub record IsText (letters : Letters) (start : ℕ) : Type 0 where
  pub within : IsWithin letters
  pub kept : IsKept start (bytes_of letters)
