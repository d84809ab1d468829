-- The last settled view of a node, and how long ago its tombstones were noted (this project's: a removed process that did
-- not say that it stops is waited for as long as the margin).
use Rattle.std.specs.Prelude.{◌≡◌, ℕ, ◌+◌, ◌≤◌, ◌==◌, Bool, true, false, not, ◌||◌, List, [], map, Option, None, Some}
use Rattle.std.specs.FinMap as finmap
use Rattle.std.specs.List.{filter}
use Rattle.ak_address.specs.Unique.{UniqueModel}
use Rattle.ak_address.specs.Uniques.{UniqueSet, no_one, set_of}
use Rattle.ak_address.specs.Counters.{Counters, counter, raised, with_each}
use Rattle.ak_clock.specs.Version.{Counts}
use Rattle.ak_member.specs.declared.status.Status.{Status}
use Rattle.ak_member.specs.declared.status.Status.TheVariants.{Joining, WeaklyUp, Up, Leaving, Exiting, Down}
use Rattle.ak_member.specs.Standing.{Standings, nobody, tombstone_of, tombstone_pairs}
use Rattle.ak_member.specs.declared.standing.Standing.{Standing}
use Rattle.ak_member.specs.declared.standing.Standing.TheVariants.{Member, Buried}
use Rattle.ak_member.specs.Age.{oldest}
use Rattle.ak_settled.specs.SettledView.{SettledView, SettledModel}

-- what stands in a settled view: where there is none, nothing
abbrev pub version_of : SettledView → Counts
version_of None = finmap.empty
version_of (Some noted) = noted.version

abbrev pub standings_of : SettledView → Standings
standings_of None = nobody
standings_of (Some noted) = noted.standings

abbrev pub counters_of : SettledView → Counters
counters_of None = finmap.empty
counters_of (Some noted) = noted.counters

-- the tombstones of processes that did not say that they stop, among these pairs
abbrev pub unconfirmed_pairs : List (UniqueModel × Standing) → List UniqueModel
unconfirmed_pairs pairs = map (λ (pair : UniqueModel × Bool). pair.0) (filter (λ (pair : UniqueModel × Bool). not pair.1) (tombstone_pairs pairs))

abbrev pub unconfirmed : Standings → List UniqueModel
unconfirmed s = unconfirmed_pairs (finmap.entries s)

-- A settled view is noted: each unconfirmed tombstone keeps its counter, a new one begins at 0.
abbrev pub noted_as : Counts → Standings → SettledView → SettledView
noted_as version s before = Some (record { version = version; standings = s; counters = with_each (counters_of before) (unconfirmed s) finmap.empty })

-- one tick of the counters
abbrev pub ticked : ℕ → SettledView → SettledView
ticked margin None = None
ticked margin (Some noted) = Some (record noted { counters = raised margin noted.counters })

-- those whose counter reaches the margin at the next tick, in their order
abbrev pub ending : ℕ → SettledView → List UniqueModel
ending margin settled = map (λ (e : UniqueModel × ℕ). e.0) (filter (λ (e : UniqueModel × ℕ). e.1 + 1 == margin) (finmap.entries (counters_of settled)))

-- no view is noted yet
abbrev pub unsettled : SettledModel
unsettled = record { view = None; just_ended = [] }

-- after a view is noted nobody has just ended
abbrev pub after_note : Counts → Standings → SettledModel → SettledModel
after_note version s before = record { view = noted_as version s before.view; just_ended = [] }

-- after a tick those have just ended whose counter reached the margin in it
abbrev pub after_tick : ℕ → SettledModel → SettledModel
after_tick margin before = record { view = ticked margin before.view; just_ended = ending margin before.view }

-- a tombstone is finished where it is confirmed, or was noted as long ago as the margin
abbrev pub is_over : ℕ → ℕ → Option Bool → Bool
is_over margin ticks None = false
is_over margin ticks (Some confirmed) = confirmed || ticks == margin

abbrev pub is_finished : ℕ → SettledView → UniqueModel → Bool
is_finished margin None who = false
is_finished margin (Some noted) who = is_over margin (counter noted.counters who) (tombstone_of (finmap.get noted.standings who))

-- a member has risen: it is more than Joining
abbrev pub has_risen : Status → Bool
has_risen Joining = false
has_risen WeaklyUp = true
has_risen Up = true
has_risen Leaving = true
has_risen Exiting = true
has_risen Down = true

-- a process of the settled view is needed: a member that has risen, or a tombstone that is not finished
abbrev pub is_needed_as : ℕ → ℕ → Standing → Bool
is_needed_as margin ticks (Member status number) = has_risen status
is_needed_as margin ticks (Buried confirmed) = not (is_over margin ticks (Some confirmed))

-- those that are needed among these pairs
abbrev pub needed_pairs : ℕ → Counters → List (UniqueModel × Standing) → List UniqueModel
needed_pairs margin counters pairs = map (λ (e : UniqueModel × Standing). e.0) (filter (λ (e : UniqueModel × Standing). is_needed_as margin (counter counters e.0) e.1) pairs)

abbrev pub needed : ℕ → SettledView → UniqueSet
needed margin None = no_one
needed margin (Some noted) = set_of (needed_pairs margin noted.counters (finmap.entries noted.standings))

-- the candidate: the oldest member of the settled view
abbrev pub candidate : SettledView → Option UniqueModel
candidate None = None
candidate (Some noted) = oldest noted.standings

-- The counters are counted towards a margin: who has one is an unconfirmed tombstone, and none exceeds the margin.
pub record IsCounting (margin : ℕ) (settled : SettledView) : Type 0 where
  pub unconfirmed : (who : UniqueModel) → finmap.contains_key (counters_of settled) who ≡ true → tombstone_of (finmap.get (standings_of settled) who) ≡ Some false
  pub bounded : (who : UniqueModel) → counter (counters_of settled) who ≤ margin
