-- What a call that may fail answered.
use Rattle.std.proofs.Common.{◌≡◌, ◌≢◌, Result, Ok, Err, OnErr}

-- what holds anyway holds where it fails
pub on_err : {A E P : Type 0} (r : Result A E) → P → OnErr r P
on_err (Ok x) p = tt
on_err (Err e) p = p

pub on_err_not : {A E X : Type 0} (r : Result A E) (x y : X) → (x ≡ y → ⊥) → OnErr r (x ≢ y)
on_err_not (Ok e) x y apart = tt
on_err_not (Err e) x y apart = apart
