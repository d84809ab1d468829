-- Versions (Akka's Cluster Specification, "Gossip": vector clocks): for each process, how many entries of its
-- history are counted.
use Rattle.std.specs.Prelude.{◌≡◌, ◌≢◌, ℕ, ◌+◌, ◌≤◌, max, Bool, true, false, Some, unwrap_or, nat_le, if◌then◌else◌}
use Rattle.std.specs.List.{list_all}
use Rattle.std.specs.FinMap as map
use Rattle.std.specs.Coded.{Coded, coded_ℕ}
use Rattle.ak_address.specs.Unique.{UniqueModel, unique_cmp, coded_unique}
use Rattle.ak_address.specs.Table.{merged_tables}
use Rattle.ak_clock.specs.declared.version.TheConstants.{BOUND}
use Rattle.ak_clock.specs.declared.version.Relation.{Relation}
use Rattle.ak_clock.specs.declared.version.Relation.TheVariants.{Same, Before, After, Concurrent}

abbrev pub Counts : Type 0
Counts = map.FinMap unique_cmp ℕ

-- how counts are stored: as the map that they are
abbrev pub coded_counts : Coded Counts
coded_counts = map.code coded_unique coded_ℕ

-- the count of a process, 0 where it has none
abbrev pub count : Counts → UniqueModel → ℕ
count v u = unwrap_or (map.get v u) 0

-- each count that stands in it is from 1 to BOUND
pub record IsVersion (v : Counts) : Type 0 where
  pub no_zero : (u : UniqueModel) → map.get v u ≢ Some 0
  pub bounded : (u : UniqueModel) → count v u ≤ BOUND

-- each count of w is at most that of v
abbrev pub Covers : Counts → Counts → Type 0
Covers v w = (u : UniqueModel) → count w u ≤ count v u

-- v is below w: w covers v, and they differ
abbrev pub IsBelow : Counts → Counts → Type 0
IsBelow v w = Covers w v × (v ≢ w)

-- how v stands to w
abbrev pub Relates : Relation → Counts → Counts → Type 0
Relates Same v w = v ≡ w
Relates Before v w = IsBelow v w
Relates After v w = IsBelow w v
Relates Concurrent v w = ¬ (Covers v w) × ¬ (Covers w v)

-- the test of `Covers`, by the counts that stand in w
unfoldable pub covers : Counts → Counts → Bool
covers v w = list_all (λ pair. nat_le pair.1 (count v pair.0)) (map.entries w)

-- by whether the first covers the second, and the second the first
abbrev pub relation_by : Bool → Bool → Relation
relation_by true true = Same
relation_by true false = After
relation_by false true = Before
relation_by false false = Concurrent

-- the one of the four that holds
abbrev pub relation : Counts → Counts → Relation
relation v w = relation_by (covers v w) (covers w v)

-- the greater count of each process
abbrev pub merged : Counts → Counts → Counts
merged v w = merged_tables max v w

-- one more entry of this process
abbrev pub bumped : Counts → UniqueModel → Counts
bumped v u = map.insert v u (count v u + 1)

-- at least so many entries of this process
abbrev pub reaching : Counts → UniqueModel → ℕ → Counts
reaching v u n = if nat_le n (count v u) then v else map.insert v u n
