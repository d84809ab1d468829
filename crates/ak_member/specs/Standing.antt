-- What a view knows of each process, and what two views of it come to (Akka's Cluster Specification, "Membership
-- Lifecycle" and "Gossip": a status only rises, and a process that was removed never comes back).
use Rattle.std.specs.Prelude.{ℕ, min, nat_lt, ◌==◌, Bool, true, false, ◌||◌, List, [], ◌∷◌, Option, None, Some, is_some, if◌then◌else◌}
use Rattle.std.specs.Prelude as list
use Rattle.std.specs.List.{filter}
use Rattle.std.specs.FinMap as map
use Rattle.ak_address.specs.Unique.{UniqueModel, unique_cmp}
use Rattle.ak_address.specs.Table.{value_with, merged_tables}
use Rattle.ak_address.specs.Uniques.{UniqueSet, set_of}
use Rattle.ak_member.specs.declared.status.Status.{Status}
use Rattle.ak_member.specs.declared.status.Status.TheVariants.{Joining, WeaklyUp, Up, Leaving, Exiting, Down}
use Rattle.ak_member.specs.declared.standing.Standing.{Standing}
use Rattle.ak_member.specs.declared.standing.Standing.TheVariants.{Member, Buried}

abbrev pub rank : Status → ℕ
rank Joining = 1
rank WeaklyUp = 2
rank Up = 3
rank Leaving = 4
rank Exiting = 5
rank Down = 6

abbrev pub greater_status : Status → Status → Status
greater_status one other = if nat_lt (rank one) (rank other) then other else one

-- the least of two numbers that is not 0, and 0 where both are
abbrev pub older_number : ℕ → ℕ → ℕ
older_number one other = if one == 0 then other else (if other == 0 then one else min one other)

-- A tombstone stays one, confirmed where either is. A member has the greater status and the older number.
abbrev pub merged_standing : Standing → Standing → Standing
merged_standing (Member status number) (Member other other_number) = Member (greater_status status other) (older_number number other_number)
merged_standing (Member status number) (Buried confirmed) = Buried confirmed
merged_standing (Buried confirmed) (Member status number) = Buried confirmed
merged_standing (Buried confirmed) (Buried other) = Buried (confirmed || other)

-- who is a member or a tombstone; of everybody else nothing is known
abbrev pub Standings : Type 0
Standings = map.FinMap unique_cmp Standing

abbrev pub nobody : Standings
nobody = map.empty

-- what is known of each process by both
abbrev pub merged_standings : Standings → Standings → Standings
merged_standings s t = merged_tables merged_standing s t

-- the same of one process, merged with what is known of it
abbrev pub known : Standings → UniqueModel → Standing → Standings
known s who standing = map.insert s who (value_with merged_standing (map.get s who) standing)

-- a member has at least this status; a tombstone stays one
abbrev pub raised : Standings → UniqueModel → Status → ℕ → Standings
raised s who status number = known s who (Member status number)

-- a process is removed
abbrev pub buried : Standings → UniqueModel → Bool → Standings
buried s who confirmed = known s who (Buried confirmed)

-- a member's status and number, and whether a tombstone is confirmed
abbrev pub as_member : Standing → Option (Status × ℕ)
as_member (Member status number) = Some (status, number)
as_member (Buried confirmed) = None

abbrev pub as_tombstone : Standing → Option Bool
as_tombstone (Member status number) = None
as_tombstone (Buried confirmed) = Some confirmed

abbrev pub member_of : Option Standing → Option (Status × ℕ)
member_of None = None
member_of (Some standing) = as_member standing

abbrev pub tombstone_of : Option Standing → Option Bool
tombstone_of None = None
tombstone_of (Some standing) = as_tombstone standing

abbrev pub is_member : Standings → UniqueModel → Bool
is_member s who = is_some (member_of (map.get s who))

-- tests of a status
abbrev pub is_joining : Status → Bool
is_joining Joining = true
is_joining WeaklyUp = false
is_joining Up = false
is_joining Leaving = false
is_joining Exiting = false
is_joining Down = false

-- a member that waits to come Up
abbrev pub is_waiting : Status → Bool
is_waiting Joining = true
is_waiting WeaklyUp = true
is_waiting Up = false
is_waiting Leaving = false
is_waiting Exiting = false
is_waiting Down = false

abbrev pub is_up : Status → Bool
is_up Joining = false
is_up WeaklyUp = false
is_up Up = true
is_up Leaving = false
is_up Exiting = false
is_up Down = false

abbrev pub is_exiting : Status → Bool
is_exiting Joining = false
is_exiting WeaklyUp = false
is_exiting Up = false
is_exiting Leaving = false
is_exiting Exiting = true
is_exiting Down = false

abbrev pub is_down : Status → Bool
is_down Joining = false
is_down WeaklyUp = false
is_down Up = false
is_down Leaving = false
is_down Exiting = false
is_down Down = true

-- a process that is Down or a tombstone is gone; any other, and one of whom nothing is known, is not
abbrev pub is_gone : Option Standing → Bool
is_gone None = false
is_gone (Some (Member status number)) = is_down status
is_gone (Some (Buried confirmed)) = true

-- there is a member, and its status passes the test
abbrev pub has_status : (Status → Bool) → Option (Status × ℕ) → Bool
has_status test None = false
has_status test (Some member) = test member.0

-- the process is a member, and its status passes the test
abbrev pub is_member_with : (Status → Bool) → Standings → UniqueModel → Bool
is_member_with test s who = has_status test (member_of (map.get s who))

-- the pairs that have one, in their order
abbrev pub pair_of : {X : Type 0} → UniqueModel → Option X → List (UniqueModel × X) → List (UniqueModel × X)
pair_of who None pairs = pairs
pair_of who (Some x) pairs = (who, x) ∷ pairs

abbrev pub member_pairs : List (UniqueModel × Standing) → List (UniqueModel × (Status × ℕ))
member_pairs [] = []
member_pairs (pair ∷ pairs) = pair_of pair.0 (as_member pair.1) (member_pairs pairs)

abbrev pub tombstone_pairs : List (UniqueModel × Standing) → List (UniqueModel × Bool)
tombstone_pairs [] = []
tombstone_pairs (pair ∷ pairs) = pair_of pair.0 (as_tombstone pair.1) (tombstone_pairs pairs)

-- the members, and the tombstones, in the order of processes
abbrev pub members_of : Standings → List (UniqueModel × (Status × ℕ))
members_of s = member_pairs (map.entries s)

abbrev pub tombstones_of : Standings → List (UniqueModel × Bool)
tombstones_of s = tombstone_pairs (map.entries s)

-- the members whose status passes a test, and all members, as sets
abbrev pub members_with : (Status → Bool) → Standings → UniqueSet
members_with test s = set_of (list.map (λ (pair : UniqueModel × (Status × ℕ)). pair.0) (filter (λ (pair : UniqueModel × (Status × ℕ)). test pair.1.0) (members_of s)))

abbrev pub all_members : Standings → UniqueSet
all_members s = set_of (list.map (λ (pair : UniqueModel × (Status × ℕ)). pair.0) (members_of s))
