-- The options of a command line: names with their values. This project's choice.
use Rattle.std.specs.Prelude.{◌≡◌, ℕ, ◌⊎◌, List, [], ◌∷◌, map, filter, All, Contains}
use Rattle.std.specs.Str.{bytes_eq}
use Rattle.ak_schedule.specs.Schedule.{SpellsNumber}

-- the name of an option, and its value
pub record Pair : Type 0 where
  pub name : List ℕ
  pub value : List ℕ

-- pairs as words, each name before its value
abbrev pub words_of : List Pair → List (List ℕ)
words_of [] = []
words_of (p ∷ pairs) = p.name ∷ p.value ∷ words_of pairs

-- each pair has one of these names
abbrev pub AreNamed : List (List ℕ) → List Pair → Type 0
AreNamed names pairs = All (λ p. Contains names p.name) pairs

-- the values of the pairs that have this name
abbrev pub values : List ℕ → List Pair → List (List ℕ)
values name pairs = map (λ p. p.value) (filter (λ p. bytes_eq p.name name) pairs)

-- the option stands in exactly one pair, with this value
abbrev pub IsOnce : List ℕ → List Pair → List ℕ → Type 0
IsOnce name pairs value = values name pairs ≡ value ∷ []

-- the option stands in no pair
abbrev pub IsAbsent : List ℕ → List Pair → Type 0
IsAbsent name pairs = values name pairs ≡ []

-- the option stands in exactly one pair, with a number from least to most
abbrev pub IsNumberOnce : List ℕ → ℕ → ℕ → List Pair → ℕ → Type 0
IsNumberOnce name least most pairs n = (value : List ℕ) × IsOnce name pairs value × SpellsNumber value least most n

-- or it stands in no pair, which says its default
abbrev pub IsNumberAtMostOnce : List ℕ → ℕ → ℕ → ℕ → List Pair → ℕ → Type 0
IsNumberAtMostOnce name least most default pairs n = IsNumberOnce name least most pairs n ⊎ (IsAbsent name pairs × (n ≡ default))
