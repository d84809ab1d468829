-- What it means that reading and spelling are one: a value has one spelling, and no spelling is a prefix of another.
use Rattle.std.specs.Prelude.{◌≡◌, ℕ, ◌<◌, List, ◌++◌, get_or, Result, Ok}
use Rattle.ak_field.specs.declared.fault.WireFault.{WireFault}

-- each is a byte
abbrev pub IsBytes : List ℕ → Type 0
IsBytes bytes = (i : ℕ) → get_or bytes i 0 < 256

pub record IsField {X : Type 0} (read : List ℕ → Result (X × List ℕ) WireFault) (spelled : X → List ℕ) (Valid : X → Type 0) : Type 0 where
  -- what is spelled is read again, and what comes after it is left
  pub again : (x : X) (rest : List ℕ) → Valid x → read (spelled x ++ rest) ≡ Ok (x, rest)
  -- what is read was spelled
  pub was : (bytes : List ℕ) (x : X) (rest : List ℕ) → IsBytes bytes → read bytes ≡ Ok (x, rest) → (bytes ≡ spelled x ++ rest) × Valid x

-- bytes begin with the spelling of one value at most
abbrev pub IsPrefixFree : {X : Type 0} → (X → List ℕ) → (X → Type 0) → Type 0
IsPrefixFree {X} spelled Valid = (x y : X) (more other : List ℕ) → Valid x → Valid y → spelled x ++ more ≡ spelled y ++ other → (x ≡ y) × (more ≡ other)
