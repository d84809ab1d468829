-- A view after some entries, as the call walks them: a row that is as new as the entry's stays. Under the numbering of a
-- history no row is, and then all of it is what `view` of `History` is.
use Rattle.std.specs.Prelude.{ℕ, List, [], ◌∷◌, Option, None, Some, if◌then◌else◌}
use Rattle.ak_address.specs.Unique.{UniqueModel}
use Rattle.ak_address.specs.Uniques.{UniqueSet}
use Rattle.ak_clock.specs.Version.{Counts}
use Rattle.ak_member.specs.View.{RowTable, View, empty_view, after_effects, observed}
use Rattle.ak_reach.specs.Reach.{with_row}
use Rattle.ak_history.specs.declared.entry.Entry.{Entry}
use Rattle.ak_history.specs.History.{is_covered}

abbrev pub with_observed : UniqueModel → ℕ → Option UniqueSet → RowTable → RowTable
with_observed author number None rows = rows
with_observed author number (Some subjects) rows = with_row rows author (record { number = number; subjects = subjects })

abbrev pub with_entry : Entry → View → View
with_entry e v = record { standings = after_effects e.effects v.standings; rows = with_observed e.author e.number (observed e.effects) v.rows }

abbrev pub with_covered : Counts → Entry → View → View
with_covered version e v = if is_covered version e then with_entry e v else v

-- the newest entry stands first
abbrev pub with_all_covered : Counts → List Entry → View
with_all_covered version [] = empty_view
with_all_covered version (e ∷ entries) = with_covered version e (with_all_covered version entries)
