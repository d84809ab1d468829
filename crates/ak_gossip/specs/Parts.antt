-- A gossip as a list of parts, one for each process in it, as it stands in a datagram (this project's choice). The parts
-- ascend by process; a part names other processes by their indices in the list, from 0 on.
use Rattle.std.specs.Prelude.{◌≡◌, ℕ, ◌+◌, ◌<◌, ◌≤◌, Bool, true, false, IsTrue, List, [], ◌∷◌, map, length, slice_get, Option, Some, None, if◌then◌else◌, IsSome}
use Rattle.std.specs.FinMap as table
use Rattle.std.specs.declared.cmp.Ordering.TheVariants.{Less}
use Rattle.ak_address.specs.Unique.{UniqueModel, unique_cmp}
use Rattle.ak_address.specs.Uniques.{UniqueSet, has}
use Rattle.ak_clock.specs.declared.version.TheConstants.{BOUND}
use Rattle.ak_clock.specs.Version.{count}
use Rattle.ak_member.specs.declared.standing.Standing.{Standing}
use Rattle.ak_member.specs.declared.standing.Standing.TheVariants.{Member, Buried}
use Rattle.ak_member.specs.declared.status.Status.{Status}
use Rattle.ak_member.specs.declared.status.Status.TheVariants.{Joining, WeaklyUp, Up, Leaving, Exiting, Down}
use Rattle.ak_member.specs.Standing.{as_member}
use Rattle.ak_member.specs.View.{Row}
use Rattle.ak_gossip.specs.declared.part.Part.{Part}
use Rattle.ak_gossip.specs.Gossip.{GossipState, most_uniques, IsStanding}

-- the numbers of a datagram are a table of their own: a status that comes later gets a number that is free then
abbrev pub state_of_status : Status → ℕ
state_of_status Joining = 1
state_of_status WeaklyUp = 8
state_of_status Up = 2
state_of_status Leaving = 3
state_of_status Exiting = 4
state_of_status Down = 5

-- and 6 for a tombstone, 7 for a confirmed one
abbrev pub state_of : Standing → ℕ
state_of (Member status number) = state_of_status status
state_of (Buried false) = 6
state_of (Buried true) = 7

abbrev pub number_of : Standing → ℕ
number_of (Member status number) = number
number_of (Buried confirmed) = 0

-- the number of a row, 0 where there is none
abbrev pub row_number_of : Option Row → ℕ
row_number_of None = 0
row_number_of (Some row) = row.number

-- the indices, counted on from the first, of those in a list that are in a set
abbrev pub indices_of : UniqueSet → ℕ → List UniqueModel → List ℕ
indices_of set first [] = []
indices_of set first (who ∷ rest) = if has set who then first ∷ indices_of set (first + 1) rest else indices_of set (first + 1) rest

abbrev pub subjects_of : Option Row → List UniqueModel → List ℕ
subjects_of None everybody = []
subjects_of (Some row) everybody = indices_of row.subjects 0 everybody

abbrev pub part_of : GossipState → UniqueModel × Standing → Part
part_of g row =
    record {
      unique = row.0;
      count = count g.version row.0;
      state = state_of row.1;
      up_number = number_of row.1;
      seen = has g.seen row.0;
      row_number = row_number_of (table.get g.view.rows row.0);
      subjects = subjects_of (table.get g.view.rows row.0) (table.keys g.view.standings);
    }

-- a part for each process, in the order of processes
abbrev pub parts_of : GossipState → List Part
parts_of g = map (part_of g) (table.entries g.view.standings)

-- the state and the number are those of a standing that may be, and only a member may have seen the gossip
pub record IsState (state number : ℕ) (seen : Bool) : Type 0 where
  pub standing : Standing
  pub state_is : state ≡ state_of standing
  pub number_is : number ≡ number_of standing
  pub may_be : IsStanding standing
  pub by_member : IsTrue seen → IsSome (as_member standing)

-- each is below the next
abbrev pub IsAscending : List ℕ → Type 0
IsAscending indices = (i j p q : ℕ) → i < j → slice_get indices i ≡ Some p → slice_get indices j ≡ Some q → p < q

-- one part among so many
pub record IsPart (many : ℕ) (part : Part) : Type 0 where
  pub count : part.count ≤ BOUND
  pub state : IsState part.state part.up_number part.seen
  pub row_number : part.row_number ≤ part.count
  pub no_row : part.row_number ≡ 0 → part.subjects ≡ []
  pub ascending : IsAscending part.subjects
  pub below : (i p : ℕ) → slice_get part.subjects i ≡ Some p → p < many

-- the ranges and the order of the parts of a gossip
pub record AreParts (parts : List Part) : Type 0 where
  pub few : length parts ≤ most_uniques
  pub each : (i : ℕ) (part : Part) → slice_get parts i ≡ Some part → IsPart (length parts) part
  pub ascending : (i j : ℕ) (one other : Part) → i < j → slice_get parts i ≡ Some one → slice_get parts j ≡ Some other → unique_cmp one.unique other.unique ≡ Less
