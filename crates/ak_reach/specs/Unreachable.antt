-- Who is unreachable in a view: the members that a member which is not Down has in its row. Every other member is
-- reachable. (Akka's Cluster Specification, "Failure Detector"; that a Down member observes nobody any more is this
-- project's choice.)
use Rattle.std.specs.Prelude.{◌≡◌, ◌≢◌, ℕ, Bool, true, false, IsTrue, Some}
use Rattle.std.specs.FinMap as map
use Rattle.ak_address.specs.Unique.{UniqueModel}
use Rattle.ak_address.specs.Uniques.{UniqueSet, has}
use Rattle.ak_member.specs.declared.status.Status.{Status}
use Rattle.ak_member.specs.declared.status.Status.TheVariants.{Joining, WeaklyUp, Up, Leaving, Exiting, Down}
use Rattle.ak_member.specs.Standing.{member_of, is_member, members_with, all_members}
use Rattle.ak_member.specs.View.{View, Row}
use Rattle.ak_reach.specs.Reach.{unreachable}

-- the members that observe: those that are not Down
abbrev pub observes : Status → Bool
observes Joining = true
observes WeaklyUp = true
observes Up = true
observes Leaving = true
observes Exiting = true
observes Down = false

-- the members that one of the observing members has in its row
abbrev pub unreachable_members : View → UniqueSet
unreachable_members v = unreachable v.rows (members_with observes v.standings) (all_members v.standings)

-- a member, and another one or itself that is not Down and has it in its row
pub record IsUnreachable (v : View) (who : UniqueModel) : Type 0 where
  pub member : IsTrue (is_member v.standings who)
  pub observer : UniqueModel
  pub status : Status
  pub number : ℕ
  pub observer_is : member_of (map.get v.standings observer) ≡ Some (status, number)
  pub not_down : status ≢ Down
  pub row : Row
  pub row_is : map.get v.rows observer ≡ Some row
  pub in_row : IsTrue (has row.subjects who)
