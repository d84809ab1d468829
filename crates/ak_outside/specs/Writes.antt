-- What the answer of a write says of a sink. This project's choice.
use Rattle.std.specs.Prelude.{◌≡◌, ℕ, ◌<◌, ◌≤◌, List, length, take, Option, Some, None, Result, IfOk, ⊤}
use Rattle.std.specs.Io.{WritesAtMost}
use Rattle.std.specs.Io.KnownBytes.{Appends, Keeps, WriteAppends}
use Rattle.std.specs.declared.io.Error.{Error}
use Rattle.ak_outside.specs.declared.sink.Wrote.{Wrote}
use Rattle.ak_outside.specs.declared.sink.Wrote.TheVariants.{Took, Failed}
use Rattle.ak_outside.specs.Outside.{Rose}

-- what was written is some of the piece, and not nothing of a piece that has bytes
abbrev pub FitsPiece : Wrote → List ℕ → Type 0
FitsPiece (Took n) piece = (n ≤ length piece) × (0 < length piece → 0 < n)
FitsPiece Failed piece = ⊤

-- the bytes written grow by the first of the piece; a failed write leaves them
abbrev pub TakesFirst : Option (List ℕ) → Option (List ℕ) → Wrote → List ℕ → Type 0
TakesFirst old new (Took n) piece = Appends old new (take n piece)
TakesFirst old new Failed piece = Keeps old new

-- a failed write has its cause, and another counts no fault
abbrev pub WriteCause : ℕ → ℕ → Wrote → Type 0
WriteCause old new (Took n) = new ≡ old
WriteCause old new Failed = Rose old new

-- the count that a write answers
abbrev pub write_count : Wrote → Option ℕ
write_count (Took n) = Some n
write_count Failed = None

-- a write took some first bytes of the piece, not nothing of a piece that has bytes, and failed only with none of it written
abbrev pub WritesFrom : Option (List ℕ) → Option (List ℕ) → Result ℕ Error → List ℕ → Type 0
WritesFrom old new answer piece =
    WritesAtMost answer piece × IfOk answer (λ n. 0 < length piece → 0 < n) × WriteAppends old new answer piece

-- one call of a writer with the piece
abbrev pub writer_gives : {S : Type 0} → (S → Option (List ℕ)) → List ℕ → S → Result ℕ Error → S → Type 0
writer_gives known piece old answer new = WritesFrom (known old) (known new) answer piece

-- writes that are settled took some first bytes of the piece, not nothing of a piece that has bytes, or failed with none of it written
abbrev pub WritesSome : Option (List ℕ) → Option (List ℕ) → Option ℕ → List ℕ → Type 0
WritesSome old new (Some n) piece = (n ≤ length piece) × (0 < length piece → 0 < n) × Appends old new (take n piece)
WritesSome old new None piece = Keeps old new
