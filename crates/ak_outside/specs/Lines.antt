-- The lines of an input, one after another: a line ends with LF or with the input, and one CR before that is no part of it. This
-- project's format.
use Rattle.std.specs.Prelude.{◌≡◌, ◌≢◌, ◌⊎◌, ℕ, ◌+◌, ◌<◌, ◌≤◌, Bool, true, false, if◌then◌else◌, List, [], ◌∷◌, ◌++◌, All, length, take, drop, Option, Some, IfSome}
use Rattle.std.specs.Bool.{MatchBool}
use Rattle.std.specs.Io.KnownBytes.{IsAtEnd, prepend_known}
use Rattle.ak_outside.specs.Outside.{Rose}
use Rattle.ak_outside.specs.declared.lines.Next.{Next}
use Rattle.ak_outside.specs.declared.lines.Next.TheVariants.{Line, TooLong, End, Failed}

-- a reader of lines as its callers see it: the bytes that it has read and not given yet, the last line that it gave, and whether it
-- has found the end of its source
pub record LineState : Type 0 where
  pub held : List ℕ
  pub line : List ℕ
  pub ended : Bool

-- a line may have this many bytes
abbrev pub most_line : ℕ
most_line = 4096

-- the bytes that are still to be given: those held, and then those that the source has left, where they are known
abbrev pub to_come : LineState → Option (List ℕ) → Option (List ℕ)
to_come s remaining = if s.ended then Some s.held else prepend_known s.held remaining

-- no line ends in these bytes
abbrev pub HasNoEnd : List ℕ → Type 0
HasNoEnd bytes = All (λ b. b ≢ 10) bytes

-- a line is these bytes, without one CR at their end
abbrev pub IsTrimmed : List ℕ → List ℕ → Type 0
IsTrimmed bytes line = (bytes ≡ line ++ 13 ∷ []) ⊎ ((bytes ≡ line) × ((before : List ℕ) → line ≡ before ++ 13 ∷ [] → ⊥))

-- bytes begin with this line, and the rest comes after it; the input ends a line only where its end was found
pub record IsLineAndRest (at_end : Bool) (bytes line rest : List ℕ) : Type 0 where
  pub with_cr : List ℕ
  pub no_end : HasNoEnd with_cr
  pub trimmed : IsTrimmed with_cr line
  pub whole : (bytes ≡ with_cr ++ 10 ∷ rest) ⊎ ((at_end ≡ true) × (bytes ≡ with_cr) × (with_cr ≢ []) × (rest ≡ []))

-- the first line of these bytes begins so, whatever follows
pub record BeginsLine (bytes line : List ℕ) : Type 0 where
  pub part : List ℕ
  pub no_end : HasNoEnd part
  pub trimmed : IsTrimmed part line
  pub more : List ℕ
  pub whole : bytes ≡ part ++ more

-- What an answer says of what is to come, before and after. A line is given whole, and is short enough; one that is too long is as it
-- begins, and stays to come; at the end nothing is to come; a failed read leaves all to come, and no line ends in what is held.
abbrev pub Gives : Next → LineState → Option (List ℕ) → Option (List ℕ) → Type 0
Gives (Line n) new before after =
    (n ≡ length new.line) × (n ≤ most_line) × IfSome before (λ bytes. (rest : List ℕ) × (after ≡ Some rest) × IsLineAndRest new.ended bytes new.line rest)
Gives TooLong new before after =
    (most_line < length new.line) × IfSome before (λ bytes. (after ≡ Some bytes) × BeginsLine bytes new.line)
Gives End new before after = (new.ended ≡ true) × IfSome before (λ bytes. (bytes ≡ []) × (after ≡ Some []))
Gives Failed new before after = (new.ended ≡ false) × HasNoEnd new.held × IfSome before (λ bytes. after ≡ Some bytes)

-- a failed read has its cause, and another answer counts no fault
abbrev pub NextCause : ℕ → ℕ → Next → Type 0
NextCause old new (Line n) = new ≡ old
NextCause old new TooLong = new ≡ old
NextCause old new End = new ≡ old
NextCause old new Failed = Rose old new

-- a reader that has found the end had found it before, and left the source alone; or the source, where it is known, is at its end
abbrev pub EndedBy : Bool → Option (List ℕ) → Option (List ℕ) → Type 0
EndedBy before old new = MatchBool before (new ≡ old) (IfSome old (λ left. IsAtEnd new))

-- the first line of these bytes ends at this index
pub record IsEndAt (bytes : List ℕ) (index : ℕ) : Type 0 where
  pub within : index < length bytes
  pub no_end : HasNoEnd (take index bytes)
  pub whole : bytes ≡ take index bytes ++ 10 ∷ drop (index + 1) bytes

-- this part of what was held is given as a line, and this rest is held then; or it is too long, and stays
abbrev pub IsGiven : Next → List ℕ → List ℕ → LineState → LineState → Type 0
IsGiven (Line n) part rest old new = (n ≡ length new.line) × (n ≤ most_line) × IsTrimmed part new.line × (new.held ≡ rest)
IsGiven TooLong part rest old new = (most_line < length new.line) × IsTrimmed part new.line × (new.held ≡ old.held)
IsGiven End part rest old new = ⊥
IsGiven Failed part rest old new = ⊥
