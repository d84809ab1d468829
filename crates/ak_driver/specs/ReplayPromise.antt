-- What a replay promises of the bytes that it read and of those that its sink has written, by the status that it answers.
use Rattle.std.specs.Prelude.{◌≡◌, ◌⊎◌, ℕ, List, ◌++◌, Option, None, Some, ⊤}
use Rattle.std.specs.Io.KnownBytes.{Appends, IsAtEnd}
use Rattle.ak_outside.specs.Codes.{exit_code}
use Rattle.ak_outside.specs.Outside.{AppendsPrefix}
use Rattle.ak_outside.specs.declared.status.Status.{Status}
use Rattle.ak_outside.specs.declared.status.Status.TheVariants.{Done, Double, Usage, Configuration, Schedule, Read, Write, Memory, Link, Turns}
use Rattle.ak_driver.specs.ReplayText.{IsReplay, IsFirstSteps, IsTextOfEnded}
use Rattle.ak_outside.specs.Endings.{read_line, memory_line}

-- a source that gave these bytes failed: the texts of all events whose lines had ended by then, and the line that says so
abbrev pub IsCutShort : List ℕ → List ℕ → Type 0
IsCutShort given text = (steps : List ℕ) × IsTextOfEnded given steps × (text ≡ steps ++ read_line)

-- a text that a replay may print: the whole text; whole steps and then the line on memory; or, after some first bytes, that of a source
-- that failed
abbrev pub MayPrint : List ℕ → List ℕ → Type 0
MayPrint bytes text =
    ((status : ℕ) × IsReplay bytes status text)
    ⊎ ((prefix : List ℕ) × IsFirstSteps bytes prefix × (text ≡ prefix ++ memory_line))
    ⊎ ((given more : List ℕ) × (bytes ≡ given ++ more) × IsCutShort given text)

-- What was written, from old to new, by a replay of these bytes that ended so, where this is left of them in the source.
abbrev pub Prints : List ℕ → Option (List ℕ) → Status → Option (List ℕ) → Option (List ℕ) → Type 0
Prints bytes left Done old new = (text : List ℕ) × IsReplay bytes 0 text × Appends old new text
Prints bytes left Double old new = (text : List ℕ) × IsReplay bytes 1 text × Appends old new text
Prints bytes left Schedule old new = (text : List ℕ) × IsReplay bytes 4 text × Appends old new text
Prints bytes left Memory old new = (prefix : List ℕ) × IsFirstSteps bytes prefix × Appends old new (prefix ++ memory_line)
Prints bytes left Write old new = (text : List ℕ) × MayPrint bytes text × AppendsPrefix old new text
Prints bytes left Read old new =
    (given more : List ℕ) × (bytes ≡ given ++ more) × (left ≡ Some more) × (text : List ℕ) × IsCutShort given text × Appends old new text
Prints bytes left Usage old new = ⊤
Prints bytes left Configuration old new = ⊤
Prints bytes left Link old new = ⊤
Prints bytes left Turns old new = ⊤

-- the promise, of the bytes that the source had left before, where they are known, and has left then
abbrev pub Promises : Option (List ℕ) → Option (List ℕ) → Status → Option (List ℕ) → Option (List ℕ) → Type 0
Promises None left status old new = ⊤
Promises (Some bytes) left status old new = Prints bytes left status old new

-- a source was read to its end by a replay that accepted each line
abbrev pub EndsSource : Status → Option (List ℕ) → Type 0
EndsSource Done remaining = IsAtEnd remaining
EndsSource Double remaining = IsAtEnd remaining
EndsSource Usage remaining = ⊤
EndsSource Configuration remaining = ⊤
EndsSource Schedule remaining = ⊤
EndsSource Read remaining = ⊤
EndsSource Write remaining = ⊤
EndsSource Memory remaining = ⊤
EndsSource Link remaining = ⊤
EndsSource Turns remaining = ⊤

-- a replay of these bytes whose source and sink did not fail ends with its status and whole text, or for lack of memory
abbrev pub IsCompleted : List ℕ → Status → Option (List ℕ) → Option (List ℕ) → Type 0
IsCompleted bytes answer old new =
    (status : ℕ) (text : List ℕ) → IsReplay bytes status text → ((exit_code answer ≡ status) × Appends old new text) ⊎ (answer ≡ Memory)
