-- What a node knows of its cluster besides its version, how two such views are merged, and what an entry of the
-- history adds (Akka's Cluster Specification, "Gossip" and "Failure Detector").
use Rattle.std.specs.Prelude.{◌≡◌, ℕ, nat_lt, List, [], ◌∷◌, Option, None, Some, IsSome, if◌then◌else◌, refl}
use Rattle.std.specs.FinMap as map
use Rattle.std.specs.FinSet as set
use Rattle.std.specs.Coded.{Coded, code_by, coded×, coded_ℕ}
use Rattle.ak_address.specs.Unique.{UniqueModel, unique_cmp, coded_unique}
use Rattle.ak_address.specs.Uniques.{UniqueSet}
use Rattle.ak_address.specs.Table.{merged_tables}
use Rattle.ak_member.specs.contracts.standing.Standing as standing
use Rattle.ak_member.specs.declared.status.Status.TheVariants.{Joining}
use Rattle.ak_member.specs.declared.effect.Effect.{Effect}
use Rattle.ak_member.specs.declared.effect.Effect.TheVariants.{Joined, Rise, Removed, Observed}
use Rattle.ak_member.specs.Standing.{Standings, nobody, merged_standings, raised, buried}

-- whom an observer found unreachable, by the entry of that number
pub record Row : Type 0 where
  pub number : ℕ
  pub subjects : UniqueSet

-- the last row of each observer that has one
abbrev pub RowTable : Type 0
RowTable = map.FinMap unique_cmp Row

abbrev pub coded_uniques : Coded UniqueSet
coded_uniques = set.code coded_unique

abbrev pub coded_row : Coded Row
coded_row = code_by (ℕ × UniqueSet) (coded× coded_ℕ coded_uniques) (λ r. (r.number, r.subjects)) (λ p. record { number = p.0; subjects = p.1 }) (λ _. refl)

-- the row with the greater number, at equal numbers the own one
abbrev pub later_row : Row → Row → Row
later_row own other = if nat_lt own.number other.number then other else own

abbrev pub merged_rows : RowTable → RowTable → RowTable
merged_rows rows others = merged_tables later_row rows others

pub record View : Type 0 where
  pub standings : Standings
  pub rows : RowTable

-- a view is stored as its two parts
abbrev pub coded_view : Coded View
coded_view =
    code_by (Standings × RowTable)
    (coded× (map.code coded_unique standing.the_row.coded) (map.code coded_unique coded_row))
    (λ v. (v.standings, v.rows))
    (λ p. record { standings = p.0; rows = p.1 })
    (λ _. refl)

abbrev pub empty_view : View
empty_view = record { standings = nobody; rows = map.empty }

-- what two views know together: of each process what both know of it, of each observer its later row
abbrev pub merged_views : View → View → View
merged_views own other = record { standings = merged_standings own.standings other.standings; rows = merged_rows own.rows other.rows }

-- what an effect, and several in their order, make of the members and tombstones
abbrev pub after_effect : Effect → Standings → Standings
after_effect (Joined who) s = raised s who Joining 0
after_effect (Rise who status number) s = raised s who status number
after_effect (Removed who confirmed) s = buried s who confirmed
after_effect (Observed subjects) s = s

abbrev pub after_effects : List Effect → Standings → Standings
after_effects [] s = s
after_effects (effect ∷ effects) s = after_effects effects (after_effect effect s)

-- the process that an effect is about is known: a member or a tombstone; one that observes is about nobody
abbrev pub IsAboutKnown : Standings → Effect → Type 0
IsAboutKnown s (Joined who) = IsSome (map.get s who)
IsAboutKnown s (Rise who status number) = IsSome (map.get s who)
IsAboutKnown s (Removed who confirmed) = IsSome (map.get s who)
IsAboutKnown s (Observed subjects) = Unit {0}

-- whom the last of the effects that observes found unreachable
abbrev pub observed_by : Effect → Option UniqueSet → Option UniqueSet
observed_by (Joined who) later = later
observed_by (Rise who status number) later = later
observed_by (Removed who confirmed) later = later
observed_by (Observed subjects) None = Some subjects
observed_by (Observed subjects) (Some later) = Some later

abbrev pub observed : List Effect → Option UniqueSet
observed [] = None
observed (effect ∷ effects) = observed_by effect (observed effects)

-- the row of the author, where its entry of this number observes
abbrev pub after_observed : UniqueModel → ℕ → Option UniqueSet → RowTable → RowTable
after_observed author number None rows = rows
after_observed author number (Some subjects) rows = map.insert rows author (record { number = number; subjects = subjects })

-- what the author's entry of this number adds to a view
abbrev pub after_entry : UniqueModel → ℕ → List Effect → View → View
after_entry author number effects v =
    record { standings = after_effects effects v.standings; rows = after_observed author number (observed effects) v.rows }

-- an observer's rows of one number are one row, as all rows of one history are
abbrev pub RowsAgree : RowTable → RowTable → Type 0
RowsAgree rows others = (observer : UniqueModel) (row other : Row) → map.get rows observer ≡ Some row → map.get others observer ≡ Some other → row.number ≡ other.number → row ≡ other
