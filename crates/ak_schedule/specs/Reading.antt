-- What a reader answers.
use Rattle.std.specs.Prelude.{◌≡◌, ℕ, Result, Ok, Err, List, [], ◌∷◌}
use Rattle.ak_address.specs.Unique.{UniqueModel}
use Rattle.ak_address.specs.Spelling.{SpellsUnique}
use Rattle.ak_schedule.specs.declared.fault.LineFault.{LineFault}
use Rattle.ak_schedule.specs.declared.fault.LineFault.TheVariants.{Malformed, BadHeader, NoMemory}

-- a value that is spelled; malformed exactly where none is; memory runs out only where one is
abbrev pub Reads : {T : Type 0} → (T → Type 0) → Result T LineFault → Type 0
Reads Spells (Ok value) = Spells value
Reads {T} Spells (Err Malformed) = (value : T) → Spells value → ⊥
Reads Spells (Err BadHeader) = ⊥
Reads {T} Spells (Err (NoMemory _)) = (value : T) × Spells value

-- one word, which spells the unique
abbrev pub SpellsOne : List (List ℕ) → UniqueModel → Type 0
SpellsOne ws u = (a : List ℕ) × (ws ≡ a ∷ []) × SpellsUnique a u

-- two words, which spell the uniques
abbrev pub SpellsTwo : List (List ℕ) → UniqueModel × UniqueModel → Type 0
SpellsTwo ws pair = (a : List ℕ) × (b : List ℕ) × (ws ≡ a ∷ b ∷ []) × SpellsUnique a pair.0 × SpellsUnique b pair.1
