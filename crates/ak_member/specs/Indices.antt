-- The counted members with their indices, as the calls walk them.
use Rattle.std.specs.Prelude.{ℕ, ◌+◌, List, [], ◌∷◌, if◌then◌else◌}
use Rattle.ak_address.specs.Unique.{UniqueModel}
use Rattle.ak_member.specs.declared.status.Status.{Status}
use Rattle.ak_member.specs.Age.{counts}

-- the number and the index of each counted one of these members, of which the first has this index
abbrev pub indexed_from : ℕ → List (UniqueModel × (Status × ℕ)) → List (ℕ × ℕ)
indexed_from index [] = []
indexed_from index (pair ∷ pairs) = if counts pair.1.0 then (pair.1.1, index) ∷ indexed_from (index + 1) pairs else indexed_from (index + 1) pairs
