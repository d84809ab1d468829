-- Answers at one index of a set, and of one row, as the calls walk them.
use Rattle.std.specs.Prelude.{Bool, false, ◌&&◌, List, [], ◌∷◌, Option, None, Some, if◌then◌else◌}
use Rattle.ak_address.specs.Unique.{UniqueModel}
use Rattle.ak_address.specs.Uniques.{UniqueSet, has, with_one}
use Rattle.ak_member.specs.Standing.{Standings, member_of, has_status}
use Rattle.ak_member.specs.View.{Row, RowTable}
use Rattle.std.specs.FinMap as map
use Rattle.ak_reach.specs.Reach.{row_has}
use Rattle.ak_reach.specs.Unreachable.{observes}

-- the process, if there is one, has the subject in its row
abbrev pub reports : RowTable → UniqueModel → Option UniqueModel → Bool
reports rows subject None = false
reports rows subject (Some observer) = row_has (map.get rows observer) subject

-- the process, if there is one, joins those that pass the test
abbrev pub with_reported : (UniqueModel → Bool) → Option UniqueModel → UniqueSet → UniqueSet
with_reported test None them = them
with_reported test (Some who) them = if test who then with_one them who else them

-- so do several
abbrev pub with_all_reported : (UniqueModel → Bool) → List UniqueModel → UniqueSet → UniqueSet
with_all_reported test [] them = them
with_all_reported test (who ∷ rest) them = with_all_reported test rest (with_reported test (Some who) them)

-- the observer of the row is a member that is not Down, and the process is in the row
abbrev pub row_shows : Standings → UniqueModel → UniqueModel × Row → Bool
row_shows s who pair = has_status observes (member_of (map.get s pair.0)) && has pair.1.subjects who
