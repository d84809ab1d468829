-- How the counters of a settled view are kept: each with a mark whether it reached the margin in the last tick.
use Rattle.std.specs.Prelude.{◌≡◌, ℕ, ◌+◌, ◌==◌, min, Bool, true, false, List, map, None, Some}
use Rattle.std.specs.FinMap as finmap
use Rattle.std.specs.List.{filter}
use Rattle.ak_address.specs.Unique.{UniqueModel, unique_cmp}
use Rattle.ak_address.specs.Changed.{changed}
use Rattle.ak_address.specs.Counters.{Counters, counter}
use Rattle.ak_clock.specs.Version.{Counts}
use Rattle.ak_member.specs.Standing.{Standings, nobody}
use Rattle.ak_settled.specs.declared.ticks.Ticks.{Ticks}
use Rattle.ak_settled.specs.SettledView.{SettledView, SettledModel}

abbrev pub MarkedCounters : Type 0
MarkedCounters = finmap.FinMap unique_cmp Ticks

-- the numbers alone
abbrev pub counts_of : MarkedCounters → Counters
counts_of counters = changed (λ t. t.count) counters

-- a counter that did not reach the margin in the last tick
abbrev pub unmarked : ℕ → Ticks
unmarked n = record { count = n; has_just_ended = false }

-- one tick, up to the margin
abbrev pub after_one : ℕ → Ticks → Ticks
after_one margin t = record { count = min (t.count + 1) margin; has_just_ended = t.count + 1 == margin }

-- those that are marked, among these pairs
abbrev pub marked_pairs : List (UniqueModel × Ticks) → List UniqueModel
marked_pairs pairs = map (λ (e : UniqueModel × Ticks). e.0) (filter (λ (e : UniqueModel × Ticks). e.1.has_just_ended) pairs)

abbrev pub marked : MarkedCounters → List UniqueModel
marked counters = marked_pairs (finmap.entries counters)

-- one more tombstone, with the counter that is kept, or 0
abbrev pub with_unmarked : Counters → MarkedCounters → UniqueModel → MarkedCounters
with_unmarked kept counters who = finmap.insert counters who (unmarked (counter kept who))

-- the parts of a settled view
abbrev pub view_of : Bool → Counts → Standings → Counters → SettledView
view_of false version s counters = None
view_of true version s counters = Some (record { version = version; standings = s; counters = counters })

-- without a settled view there is nothing in any part
pub record IsNothing (version : Counts) (s : Standings) (counters : MarkedCounters) : Type 0 where
  pub no_version : version ≡ finmap.empty
  pub no_standing : s ≡ nobody
  pub no_counter : counters ≡ finmap.empty

abbrev pub IsKept : Bool → Counts → Standings → MarkedCounters → Type 0
IsKept false version s counters = IsNothing version s counters
IsKept true version s counters = Unit {0}

abbrev pub settled_of : Bool → Counts → Standings → MarkedCounters → SettledModel
settled_of exists version s counters = record { view = view_of exists version s (counts_of counters); just_ended = marked counters }
