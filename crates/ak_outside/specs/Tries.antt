-- Calls to the outside that are tried again while a signal interrupts them. This project's choice.
use Rattle.std.specs.Prelude.{◌≡◌, ◌≢◌, ℕ, ◌-◌, ◌^◌, List, length, Option, Some, None, Result, Ok, Err, ◌⊎◌}
use Rattle.std.specs.List.{FoldsTo}
use Rattle.std.specs.IoError.{error_kind}
use Rattle.std.specs.declared.io.Error.{Error}
use Rattle.std.specs.declared.io.ErrorKind.TheVariants.{Interrupted}
use Rattle.ak_outside.specs.Outside.{counted}

-- one call that was interrupted; `gives` relates the state before a call, what the call gave, and the state after it
abbrev pub InterruptedCall : {S : Type 0} → (S → Result ℕ Error → S → Type 0) → S → Error → S → Type 0
InterruptedCall gives before e after = gives before (Err e) after × (error_kind e ≡ Interrupted)

-- the call that ends the tries: it gave a count, or an error that is no interruption; or all 2^64 - 1 tries were interrupted
abbrev pub LastCall : {S : Type 0} → (S → Result ℕ Error → S → Type 0) → ℕ → S → Option ℕ → S → Type 0
LastCall gives tried before (Some n) after = gives before (Ok n) after
LastCall gives tried before None after =
    ((e : Error) × gives before (Err e) after × (error_kind e ≢ Interrupted)) ⊎ ((tried ≡ 2 ^ 64 - 1) × (after ≡ before))

-- some calls were interrupted, and the next one settled the answer: a count, or none for a failure
pub record Settles {S : Type 0} (gives : S → Result ℕ Error → S → Type 0) (old : S) (answer : Option ℕ) (new : S) : Type 0 where
  pub errors : List Error
  pub before : S
  pub interrupted : FoldsTo (InterruptedCall gives) old errors before
  pub last : LastCall gives (length errors) before answer new

-- the count of faults is one more where the answer is none, a failure, and stays at a count of bytes
abbrev pub CountsFailure : ℕ → ℕ → Option ℕ → Type 0
CountsFailure old new (Some n) = new ≡ old
CountsFailure old new None = new ≡ counted old
