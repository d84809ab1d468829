-- How many there are of a kind, said without a walk along any list: there is a list of them all that has each once, and that is
-- its length.
use Rattle.std.specs.Prelude.{◌≡◌, ◌↔◌, ℕ, List, length, slice_get, Some, Contains}

-- nothing stands at two indices
abbrev pub HasEachOnce : {X : Type 0} → List X → Type 0
HasEachOnce {X} xs = (i j : ℕ) (x : X) → slice_get xs i ≡ Some x → slice_get xs j ≡ Some x → i ≡ j

-- there are so many of a kind
pub record AreMany {X : Type 0} (IsOne : X → Type 0) (number : ℕ) : Type 0 where
  pub all : List X
  pub them : (x : X) → Contains all x ↔ IsOne x
  pub once : HasEachOnce all
  pub many : length all ≡ number
