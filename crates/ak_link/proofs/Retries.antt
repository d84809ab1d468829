-- Calls of a socket that passed, one after another.
use Rattle.std.proofs.Common.{◌≡◌, ℕ, ◌+◌, ◌≤◌, List, [], ◌∷◌, ◌++◌, length, length-append, Result, Ok, Err, arith, refl}
use Rattle.std.proofs.lemmas.Fn.{FoldsTo-push}
use Rattle.std.specs.List.{FoldsTo}
use Rattle.std.specs.IoError.{error_kind}
use Rattle.std.specs.declared.io.Error.{Error}
use Rattle.ak_link.specs.Calls.{most_retries, IsPassing, PassingCall, IsLast, Settles}

-- so many calls passed
pub record Tried {S : Type 0} (gives : S → Result ℕ Error → S → Type 0) (old : S) (count : ℕ) (now : S) : Type 0 where
  pub errors : List Error
  pub counted : length errors ≡ count
  pub passed : FoldsTo (PassingCall gives) old errors now

pub tried_again : {S : Type 0} (gives : S → Result ℕ Error → S → Type 0) (old : S) (count : ℕ) (now after : S) (e : Error)
    → Tried gives old count now → gives now (Err e) after → IsPassing (error_kind e) → Tried gives old (count + 1) after
tried_again gives old count now after e t call passing = record {
  errors = t.errors ++ (e ∷ []);
  counted = grind (arith, length-append, t.counted);
  passed = FoldsTo-push (PassingCall gives) old t.errors now e after t.passed (call, passing);
}

pub settled : {S : Type 0} (gives : S → Result ℕ Error → S → Type 0) (old : S) (count : ℕ) (now after : S) (answer : Result ℕ Error)
    → Tried gives old count now → count ≤ most_retries → gives now answer after → IsLast count answer → Settles gives old answer after
settled gives old count now after answer t few call last = record {
  errors = t.errors;
  few = omega (arith, t.counted, few);
  before = now;
  passed = t.passed;
  last_call = call;
  is_last = rw t.counted last;
}

-- the answer of the last try that may be made
pub last_try : (answer : Result ℕ Error) → IsLast most_retries answer
last_try (Ok n) = tt
last_try (Err e) = λ _. refl
