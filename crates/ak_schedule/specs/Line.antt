-- The lines of a recorded schedule and the words of a line (this project's format).
use Rattle.std.specs.Prelude.{◌≡◌, ℕ, ◌+◌, ◌<◌, ◌≤◌, ◌⊎◌, Bool, true, false, ◌==◌, List, [], ◌∷◌, ◌++◌, filter, map, length, All, if◌then◌else◌}
use Rattle.std.specs.List.{slice_split}

-- a list is not empty
abbrev pub begins : List ℕ → Bool
begins [] = false
begins (b ∷ bs) = true

-- a line's words stand between spaces
abbrev pub words : List ℕ → List (List ℕ)
words line = filter begins (slice_split (λ b. b == 32) line)

-- without one CR at its end
abbrev pub without_cr : List ℕ → List ℕ
without_cr [] = []
without_cr (b ∷ []) = if b == 13 then [] else b ∷ []
without_cr (b ∷ c ∷ bs) = b ∷ without_cr (c ∷ bs)

-- after a last LF no further line begins
abbrev pub begun : List (List ℕ) → List (List ℕ)
begun [] = []
begun ([] ∷ []) = []
begun ((b ∷ bs) ∷ []) = (b ∷ bs) ∷ []
begun (line ∷ next ∷ lines) = line ∷ begun (next ∷ lines)

-- a line ends with LF or with the input, and a CR before that is no part of it
abbrev pub lines : List ℕ → List (List ℕ)
lines bytes = map without_cr (begun (slice_split (λ b. b == 10) bytes))

-- `#` begins a comment
abbrev pub is_comment : List ℕ → Bool
is_comment [] = false
is_comment (b ∷ bs) = b == 35

-- a line may have this many bytes
abbrev pub most_bytes : ℕ
most_bytes = 4096

-- nothing but spaces, or a comment; a line that is too long is never passed over
pub record IsPassedOver (line : List ℕ) : Type 0 where
  pub short : length line ≤ most_bytes
  pub empty : (words line ≡ []) ⊎ (is_comment line ≡ true)

-- a text is cut at its first such byte
pub record IsFirstPart (byte : ℕ) (bytes prefix rest : List ℕ) : Type 0 where
  pub parts : slice_split (λ b. b == byte) bytes ≡ prefix ∷ slice_split (λ b. b == byte) rest
  pub shorter : length prefix + length rest < length bytes
  pub whole : bytes ≡ prefix ++ byte ∷ rest

-- a text is a piece and what stands after it: after the byte that ends the piece, or nothing where the text ends with it
abbrev pub IsPieceAndRest : ℕ → List ℕ → List ℕ → List ℕ → Type 0
IsPieceAndRest byte bytes piece rest = (bytes ≡ piece ++ byte ∷ rest) ⊎ ((bytes ≡ piece) × (rest ≡ []))

-- the first word of a line, and the bytes after it
pub record IsFirstWord (line word rest : List ℕ) : Type 0 where
  pub first : words line ≡ word ∷ words rest
  pub not_empty : begins word ≡ true
  pub shorter : length rest < length line
  pub spaces : List ℕ
  pub begun : List ℕ
  pub spaces_first : line ≡ spaces ++ begun
  pub only_spaces : All (λ b. b ≡ 32) spaces
  pub whole : IsPieceAndRest 32 begun word rest
