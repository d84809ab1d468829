-- The members on one side of a node in the order of processes, as the ring is walked.
use Rattle.std.specs.Prelude.{◌≡◌, ◌≢◌, ℕ, ◌-◌, ◌≤◌, Bool, true, false, List, Option, None, Some, length, map, take, drop, nat_lt}
use Rattle.std.specs.List.{filter}
use Rattle.std.specs.Ordering.{is_lt}
use Rattle.ak_address.specs.Unique.{UniqueModel, unique_cmp}
use Rattle.ak_member.specs.declared.status.Status.{Status}
use Rattle.ak_member.specs.declared.standing.Standing.{Standing}
use Rattle.ak_member.specs.Standing.{member_pairs}

-- a process comes after the node, or else before it
abbrev pub is_on_side : Bool → UniqueModel → UniqueModel → Bool
is_on_side true me who = is_lt (unique_cmp me who)
is_on_side false me who = is_lt (unique_cmp who me)

-- the members among these pairs, and those on that side
abbrev pub names_of : List (UniqueModel × Standing) → List UniqueModel
names_of pairs = map (λ (pair : UniqueModel × (Status × ℕ)). pair.0) (member_pairs pairs)

abbrev pub side_pairs : Bool → UniqueModel → List (UniqueModel × Standing) → List UniqueModel
side_pairs is_after me pairs = filter (is_on_side is_after me) (names_of pairs)

-- the pairs from one index on, up to before another
abbrev pub run : ℕ → ℕ → List (UniqueModel × Standing) → List (UniqueModel × Standing)
run from to pairs = drop from (take to pairs)

-- how many are left to find after a pair, where the process that is found stands there too, if one is found
abbrev pub Agrees : ℕ → ℕ → Option UniqueModel → Option UniqueModel → Type 0
Agrees left next None other = next ≡ left
Agrees left next (Some who) other = (next ≡ left - 1) × (other ≡ Some who)

-- a process is found, and does not stand there
abbrev pub Differs : Option UniqueModel → Option UniqueModel → Type 0
Differs None other = ⊥
Differs (Some who) other = other ≢ Some who

-- there are so many processes, and other ones begin with these
abbrev pub BeginWith : ℕ → List UniqueModel → List UniqueModel → Type 0
BeginWith n whos others = (n ≤ length whos) × (take n others ≡ take n whos)

-- the processes of these pairs whose counter is above a limit
abbrev pub above_pairs : ℕ → List (UniqueModel × ℕ) → List UniqueModel
above_pairs limit pairs = map (λ (e : UniqueModel × ℕ). e.0) (filter (λ (e : UniqueModel × ℕ). nat_lt limit e.1) pairs)
