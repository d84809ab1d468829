-- Words of the reading of a command line.
use Rattle.std.specs.Prelude.{◌≡◌, ◌≢◌, ℕ, List, [], ◌∷◌, drop, Option, None, Result, Ok, Err, slice_get}
use Rattle.std.specs.declared.alloc.AllocError.{AllocError}
use Rattle.ak_options.specs.CommandLine.{IsCommandName}

-- the argument at the index, whole, or none past the last one; memory ends only where there is one
abbrev pub IsArgument : List (List ℕ) → ℕ → Result (Option (List ℕ)) AllocError → Type 0
IsArgument all index (Ok found) = found ≡ slice_get all index
IsArgument all index (Err _) = slice_get all index ≢ None

-- the words after the program's name
abbrev pub words_of : List (List ℕ) → List (List ℕ)
words_of all = drop 1 all

-- there are words after the program's name
abbrev pub HasWords : List (List ℕ) → Type 0
HasWords all = words_of all ≢ []

-- the first of these words is the name of a command
abbrev pub NamesCommand : List (List ℕ) → Type 0
NamesCommand words = (name : List ℕ) × (rest : List (List ℕ)) × (words ≡ name ∷ rest) × IsCommandName name
