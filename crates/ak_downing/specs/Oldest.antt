-- The oldest of some members, found one by one.
use Rattle.std.specs.Prelude.{ℕ, nat_lt, Option, None, Some, if◌then◌else◌}
use Rattle.ak_address.specs.Unique.{UniqueModel}

-- of one that was found before, if there is one, and the next: at equal numbers the one that came before
abbrev pub older_of : Option (UniqueModel × ℕ) → UniqueModel × ℕ → UniqueModel × ℕ
older_of None next = next
older_of (Some found) next = if nat_lt next.1 found.1 then next else found
