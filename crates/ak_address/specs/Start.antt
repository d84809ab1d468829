-- The first bytes of a text as one number, from which the order of most texts is told.
use Rattle.std.specs.Prelude.{◌≡◌, ◌<◌, ℕ, zero, suc, ◌+◌, ◌*◌, min, List, length, get_or}

-- the first n bytes as a number, the first of them weighing most; past the end each is 0
abbrev pub first_bytes : ℕ → List ℕ → ℕ
first_bytes zero bytes = 0
first_bytes (suc n) bytes = first_bytes n bytes * 256 + get_or bytes n 0

-- The first seven bytes, and how many bytes there are, counted up to eight: all of a text of at most seven bytes, in a number of 64
-- bits
unfoldable pub start_of : List ℕ → ℕ
start_of bytes = first_bytes 7 bytes * 256 + min (length bytes) 8

-- what a text keeps beside its bytes, each of which is one
pub record IsKept (start : ℕ) (bytes : List ℕ) : Type 0 where
  pub told : start ≡ start_of bytes
  pub are_bytes : (i : ℕ) → get_or bytes i 0 < 256
