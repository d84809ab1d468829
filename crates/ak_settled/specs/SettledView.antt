-- The last settled view of a node, as a value.
use Rattle.std.specs.Prelude.{List, Option, refl}
use Rattle.std.specs.FinMap as map
use Rattle.std.specs.Coded.{Coded, code_by, coded×, coded_ℕ, coded_list, coded_option}
use Rattle.ak_address.specs.Unique.{UniqueModel, coded_unique}
use Rattle.ak_address.specs.Counters.{Counters}
use Rattle.ak_clock.specs.Version.{Counts}
use Rattle.ak_member.specs.contracts.standing.Standing as standing
use Rattle.ak_member.specs.Standing.{Standings}

-- a view that was settled, with the ticks since each unconfirmed tombstone in it was noted
pub record NotedView : Type 0 where
  pub version : Counts
  pub standings : Standings
  pub counters : Counters

-- a node without a settled view noted none
abbrev pub SettledView : Type 0
SettledView = Option NotedView

-- a noted view is stored as its three parts
abbrev pub coded_noted : Coded NotedView
coded_noted =
    code_by (Counts × (Standings × Counters))
    (coded× (map.code coded_unique coded_ℕ) (coded× (map.code coded_unique standing.the_row.coded) (map.code coded_unique coded_ℕ)))
    (λ n. (n.version, (n.standings, n.counters)))
    (λ p. record { version = p.0; standings = p.1.0; counters = p.1.1 })
    (λ _. refl)

-- the settled view, and those whose counter reached the margin in the last tick, where nothing was noted after it
pub record SettledModel : Type 0 where
  pub view : SettledView
  pub just_ended : List UniqueModel

abbrev pub coded_settled : Coded SettledModel
coded_settled =
    code_by (SettledView × List UniqueModel)
    (coded× (coded_option coded_noted) (coded_list coded_unique))
    (λ s. (s.view, s.just_ended))
    (λ p. record { view = p.0; just_ended = p.1 })
    (λ _. refl)
