-- Whom observers find unreachable (Akka's Cluster Specification, "Failure Detector": a member is unreachable where
-- one of the others observes it as such).
use Rattle.std.specs.Prelude.{◌≡◌, ℕ, nat_le, Bool, false, IsTrue, Option, None, Some}
use Rattle.std.specs.List.{list_any}
use Rattle.std.specs.FinMap as map
use Rattle.ak_address.specs.Unique.{UniqueModel}
use Rattle.ak_address.specs.Uniques.{UniqueSet, has, those, in_order}
use Rattle.ak_address.specs.Table.{value_with}
use Rattle.ak_member.specs.View.{Row, RowTable, later_row}

-- the observer's row, merged with the one that is there
abbrev pub with_row : RowTable → UniqueModel → Row → RowTable
with_row rows observer row = map.insert rows observer (value_with later_row (map.get rows observer) row)

-- a row of this number or a greater one is there
abbrev pub is_as_new : Option Row → ℕ → Bool
is_as_new None number = false
is_as_new (Some row) number = nat_le number row.number

-- the observer has the subject in its row
abbrev pub row_has : Option Row → UniqueModel → Bool
row_has None subject = false
row_has (Some row) subject = has row.subjects subject

-- one of these observers has the subject in its row
abbrev pub reported : RowTable → UniqueSet → UniqueModel → Bool
reported rows observers subject = list_any (λ observer. row_has (map.get rows observer) subject) (in_order observers)

pub record IsReported (rows : RowTable) (observers : UniqueSet) (subject : UniqueModel) : Type 0 where
  pub observer : UniqueModel
  pub row : Row
  pub observes : IsTrue (has observers observer)
  pub has_row : map.get rows observer ≡ Some row
  pub in_row : IsTrue (has row.subjects subject)

-- those of the subjects that are reported
abbrev pub unreachable : RowTable → UniqueSet → UniqueSet → UniqueSet
unreachable rows observers subjects = those subjects (reported rows observers)
