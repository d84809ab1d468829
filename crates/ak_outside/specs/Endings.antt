-- How a run ends: the text that is written last, and its status. This project's choice.
use Rattle.std.specs.Prelude.{◌≡◌, ◌⊎◌, ℕ, List, [], ◌∷◌, ◌++◌, Option, codes}
use Rattle.std.specs.Io.KnownBytes.{Appends}
use Rattle.ak_outside.specs.Outside.{Rose, AppendsPrefix}
use Rattle.ak_outside.specs.declared.status.Status.{Status}
use Rattle.ak_outside.specs.declared.status.Status.TheVariants.{Write}

abbrev pub read_line : List ℕ
read_line = codes "error 5 read" ++ 10 ∷ []

abbrev pub memory_line : List ℕ
memory_line = codes "error 7 memory" ++ 10 ∷ []

-- By the sink's count of faults before and after: the whole text was written, the status is the given one and the count did
-- not rise; or the sink failed after a prefix of the text, and its count rose.
abbrev pub Written : Status → List ℕ → Status → ℕ → ℕ → Option (List ℕ) → Option (List ℕ) → Type 0
Written status text answer w0 w1 old new =
    ((answer ≡ status) × (w1 ≡ w0) × Appends old new text) ⊎ ((answer ≡ Write) × Rose w0 w1 × AppendsPrefix old new text)
