-- Calls of a socket that are tried again. This project's choice.
use Rattle.std.specs.Prelude.{◌≡◌, ℕ, ◌≤◌, ◌⊎◌, List, length, Result, Ok, Err}
use Rattle.std.specs.List.{FoldsTo}
use Rattle.std.specs.IoError.{error_kind}
use Rattle.std.specs.declared.io.Error.{Error}
use Rattle.std.specs.declared.io.ErrorKind.{ErrorKind}
use Rattle.std.specs.declared.io.ErrorKind.TheVariants.{Interrupted, ConnectionRefused}

-- so often a call is tried again
abbrev pub most_retries : ℕ
most_retries = 100

-- a signal came, or an earlier packet was refused
abbrev pub IsPassing : ErrorKind → Type 0
IsPassing kind = (kind ≡ Interrupted) ⊎ (kind ≡ ConnectionRefused)

-- one call that says nothing of what was asked; `gives` relates the state before a call, what the call gave, and the state after it
abbrev pub PassingCall : {S : Type 0} → (S → Result ℕ Error → S → Type 0) → S → Error → S → Type 0
PassingCall gives before e after = gives before (Err e) after × IsPassing (error_kind e)

-- an error that passes is an answer only where the call was tried again as often as may be
abbrev pub IsLast : ℕ → Result ℕ Error → Type 0
IsLast tried (Ok n) = Unit {0}
IsLast tried (Err e) = IsPassing (error_kind e) → tried ≡ most_retries

-- some calls passed, at most a hundred, and the next one gave the answer
pub record Settles {S : Type 0} (gives : S → Result ℕ Error → S → Type 0) (old : S) (answer : Result ℕ Error) (new : S) : Type 0 where
  pub errors : List Error
  pub few : length errors ≤ most_retries
  pub before : S
  pub passed : FoldsTo (PassingCall gives) old errors before
  pub last_call : gives before answer new
  pub is_last : IsLast (length errors) answer
