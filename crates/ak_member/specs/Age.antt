-- The age of members: Up and Leaving members count, and the one that became Up first is the oldest (Akka's Cluster
-- Singleton: the singleton runs on the oldest member).
use Rattle.std.specs.Prelude.{◌≡◌, ◌↔◌, ℕ, ◌<◌, nat_lt, Bool, true, false, IsTrue, List, [], ◌∷◌, Option, None, Some, option_map, slice_get, Contains, ◌⊎◌, if◌then◌else◌}
use Rattle.std.specs.Prelude as list
use Rattle.std.specs.FinMap as map
use Rattle.std.specs.List.{filter}
use Rattle.ak_address.specs.Distinct.{is_among}
use Rattle.std.specs.declared.cmp.Ordering.TheVariants.{Less}
use Rattle.ak_address.specs.Unique.{AddressModel, UniqueModel, unique_cmp}
use Rattle.ak_member.specs.declared.status.Status.{Status}
use Rattle.ak_member.specs.declared.status.Status.TheVariants.{Joining, WeaklyUp, Up, Leaving, Exiting, Down}
use Rattle.ak_member.specs.Standing.{Standings, member_of, members_of}

-- the members that count: those that serve the cluster
abbrev pub counts : Status → Bool
counts Joining = false
counts WeaklyUp = false
counts Up = true
counts Leaving = true
counts Exiting = false
counts Down = false

-- the counted members with their numbers, in the order of processes
abbrev pub counted_pairs : List (UniqueModel × (Status × ℕ)) → List (UniqueModel × ℕ)
counted_pairs [] = []
counted_pairs (pair ∷ pairs) = if counts pair.1.0 then (pair.0, pair.1.1) ∷ counted_pairs pairs else counted_pairs pairs

abbrev pub older_pair : UniqueModel × ℕ → Option (UniqueModel × ℕ) → Option (UniqueModel × ℕ)
older_pair pair None = Some pair
older_pair pair (Some later) = if nat_lt later.1 pair.1 then Some later else Some pair

-- the first of the pairs with the least number
abbrev pub least_pair : List (UniqueModel × ℕ) → Option (UniqueModel × ℕ)
least_pair [] = None
least_pair (pair ∷ pairs) = older_pair pair (least_pair pairs)

-- the oldest member: of the counted ones that with the least number, at equal numbers the first process
abbrev pub oldest : Standings → Option UniqueModel
oldest s = option_map (λ pair. pair.0) (least_pair (counted_pairs (members_of s)))

-- a member counts, with this number
abbrev pub IsCounted : Standings → UniqueModel → ℕ → Type 0
IsCounted s who number = (status : Status) × (member_of (map.get s who) ≡ Some (status, number)) × IsTrue (counts status)

-- the oldest of the counted members is this one, or there is none
abbrev pub IsOldest : Standings → Option UniqueModel → Type 0
IsOldest s None = (who : UniqueModel) (number : ℕ) → IsCounted s who number → ⊥
IsOldest s (Some who) =
    (number : ℕ) × IsCounted s who number
    × ((other : UniqueModel) (later : ℕ) → IsCounted s other later → (number < later) ⊎ ((number ≡ later) × ((other ≡ who) ⊎ (unique_cmp who other ≡ Less))))

-- the addresses of the counted members
abbrev pub counted_addresses : Standings → List AddressModel
counted_addresses s = list.map (λ pair. pair.0.address) (counted_pairs (members_of s))

-- the counted members at addresses that have the role, and their addresses: what a quorum is counted over
abbrev pub has_role : List AddressModel → UniqueModel × ℕ → Bool
has_role role pair = is_among role pair.0.address

abbrev pub role_pairs : List AddressModel → List (UniqueModel × (Status × ℕ)) → List (UniqueModel × ℕ)
role_pairs role pairs = filter (has_role role) (counted_pairs pairs)

abbrev pub role_addresses : List AddressModel → Standings → List AddressModel
role_addresses role s = list.map (λ pair. pair.0.address) (role_pairs role (members_of s))

-- at an index among the members there is a counted one with this number
abbrev pub IsCountedAt : Standings → ℕ → ℕ → Type 0
IsCountedAt s index number = (who : UniqueModel) × (status : Status) × (slice_get (members_of s) index ≡ Some (who, (status, number))) × IsTrue (counts status)

-- the one index is older than the other: a lesser number, or the same and an earlier index
abbrev pub IsOlder : Standings → ℕ → ℕ → Type 0
IsOlder s p q = (n : ℕ) (m : ℕ) → IsCountedAt s p n → IsCountedAt s q m → (n < m) ⊎ ((n ≡ m) × (p < q))

-- these are the indices of the counted members among the members, the oldest first, each once
pub record IsByAge (s : Standings) (indices : List ℕ) : Type 0 where
  pub all : (index : ℕ) → Contains indices index ↔ ((number : ℕ) × IsCountedAt s index number)
  pub rising : (i j p q : ℕ) → i < j → slice_get indices i ≡ Some p → slice_get indices j ≡ Some q → IsOlder s p q
