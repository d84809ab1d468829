-- What the answer of a read says of a source. This project's choice.
use Rattle.std.specs.Prelude.{◌≡◌, ℕ, ◌<◌, ◌≤◌, List, [], length, take, drop, Option, Some, None, IfSome, Result, min, ⊤}
use Rattle.std.specs.Io.{ReadsAtMost}
use Rattle.std.specs.Io.KnownBytes.{Consumes, IsAtEnd, Keeps, ReadConsumes}
use Rattle.std.specs.declared.io.Error.{Error}
use Rattle.ak_outside.specs.declared.source.Read.{Read}
use Rattle.ak_outside.specs.declared.source.Read.TheVariants.{Got, Failed}
use Rattle.ak_outside.specs.Outside.{Rose}

-- standard input as its callers see it: the bytes left, where the runtime's reader says, and the count of faults
pub record StandardInput : Type 0 where
  pub left : Option (List ℕ)
  pub faults : ℕ

-- what was got lies in the buffer
abbrev pub FitsBuffer : Read → List ℕ → Type 0
FitsBuffer (Got n) buffer = n ≤ length buffer
FitsBuffer Failed buffer = ⊤

-- past what was got the buffer is as it was; a failed read leaves the whole of it
abbrev pub LeavesRest : Read → List ℕ → List ℕ → Type 0
LeavesRest (Got n) old new = drop n new ≡ drop n old
LeavesRest Failed old new = new ≡ old

-- the start of the buffer has the first bytes of those left, and the rest is left; a failed read leaves them
abbrev pub GivesFirst : Option (List ℕ) → Option (List ℕ) → Read → List ℕ → Type 0
GivesFirst old new (Got n) buffer = Consumes old new (take n buffer)
GivesFirst old new Failed buffer = Keeps old new

-- a buffer with room gets nothing exactly where nothing is left
abbrev pub EndsExactly : Option (List ℕ) → Read → List ℕ → Type 0
EndsExactly old (Got n) buffer = 0 < length buffer → (n ≡ 0 → IsAtEnd old) × IfSome old (λ left. left ≡ [] → n ≡ 0)
EndsExactly old Failed buffer = ⊤

-- a failed read has its cause, and another counts no fault
abbrev pub ReadCause : ℕ → ℕ → Read → Type 0
ReadCause old new (Got n) = new ≡ old
ReadCause old new Failed = Rose old new

-- the count that a read answers
abbrev pub read_count : Read → Option ℕ
read_count (Got n) = Some n
read_count Failed = None

-- a read gave bytes at the start of the buffer, the first of those left, and failed only with all of them left
abbrev pub ReadsInto : Option (List ℕ) → Option (List ℕ) → Result ℕ Error → List ℕ → Type 0
ReadsInto old new answer buffer = ReadsAtMost answer buffer × ReadConsumes old new answer buffer

-- one call of a reader into the first `room` bytes of its buffer
abbrev pub reader_gives : {S : Type 0} → (S → Option (List ℕ)) → (S → List ℕ) → ℕ → S → Result ℕ Error → S → Type 0
reader_gives known buffer room old answer new = ReadsInto (known old) (known new) answer (take room (buffer new))

-- reads that are settled gave at most `room` bytes at the start of the buffer, the first of those left, or failed with all of them left
abbrev pub ReadsSome : Option (List ℕ) → Option (List ℕ) → Option ℕ → ℕ → List ℕ → Type 0
ReadsSome old new (Some n) room buffer =
    (n ≤ min room (length buffer)) × Consumes old new (take n buffer) × (n ≡ 0 → 0 < min room (length buffer) → IsAtEnd new)
ReadsSome old new None room buffer = Keeps old new
