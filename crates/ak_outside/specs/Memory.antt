-- A source and a sink in memory, as their callers see them, and what one call does to each. This project's choice.
use Rattle.std.specs.Prelude.{◌≡◌, ℕ, min, List, ◌++◌, length, drop, Bool, ◌==◌}
use Rattle.std.specs.List.{list_any}
use Rattle.ak_outside.specs.declared.source.Read.{Read}
use Rattle.ak_outside.specs.declared.source.Read.TheVariants as read
use Rattle.ak_outside.specs.declared.sink.Wrote.{Wrote}
use Rattle.ak_outside.specs.declared.sink.Wrote.TheVariants as wrote
use Rattle.ak_outside.specs.Outside.{counted}

-- the bytes left, the most that a read gives, the numbers of the calls that fail, and the counts of calls and faults
pub record Reader : Type 0 where
  pub left : List ℕ
  pub piece : ℕ
  pub failing : List ℕ
  pub calls : ℕ
  pub faults : ℕ

-- the bytes written, the numbers of the calls that fail, and the counts of calls, of faults, and of those for lack of memory
pub record Writer : Type 0 where
  pub written : List ℕ
  pub failing : List ℕ
  pub calls : ℕ
  pub faults : ℕ
  pub starved : ℕ

-- whether the call of this number is to fail
abbrev pub is_listed : List ℕ → ℕ → Bool
is_listed failing call = list_any (λ listed. listed == call) failing

-- the read gave as much as there was, as fits and as a read may give, and is counted as a call
abbrev pub ReadGave : Reader → Reader → Read → ℕ → Type 0
ReadGave old new (read.Got n) room =
    (n ≡ min old.piece (min room (length old.left))) × (new ≡ record old { left = drop n old.left; calls = counted old.calls })
ReadGave old new read.Failed room = ⊥

-- the read failed, and is counted as a call and as a fault
abbrev pub ReadFailed : Reader → Reader → Read → Type 0
ReadFailed old new answer = (answer ≡ read.Failed) × (new ≡ record old { calls = counted old.calls; faults = counted old.faults })

-- the write failed, and is counted as a call and as a fault
abbrev pub WriteFailed : Writer → Writer → Wrote → Type 0
WriteFailed old new answer = (answer ≡ wrote.Failed) × (new ≡ record old { calls = counted old.calls; faults = counted old.faults })

-- the write took the piece, or found no memory, which is counted as a fault and by itself
abbrev pub WriteTook : Writer → Writer → Wrote → List ℕ → Type 0
WriteTook old new (wrote.Took n) piece = (n ≡ length piece) × (new ≡ record old { written = old.written ++ piece; calls = counted old.calls })
WriteTook old new wrote.Failed piece = new ≡ record old { calls = counted old.calls; faults = counted old.faults; starved = counted old.starved }
