-- Views that differ in no more than which of their waiting members are Joining and which are WeaklyUp.
use Rattle.std.specs.Prelude.{◌≡◌, ◌⊎◌, ℕ, Some, IsTrue}
use Rattle.std.specs.FinMap as map
use Rattle.ak_address.specs.Unique.{UniqueModel}
use Rattle.ak_member.specs.declared.status.Status.{Status}
use Rattle.ak_member.specs.Standing.{Standings, member_of, is_waiting}
use Rattle.ak_member.specs.View.{View}

-- a process is a member in both that waits, with one number
pub record WaitsInBoth (s t : Standings) (who : UniqueModel) : Type 0 where
  pub number : ℕ
  pub one : Status
  pub other : Status
  pub one_is : member_of (map.get s who) ≡ Some (one, number)
  pub other_is : member_of (map.get t who) ≡ Some (other, number)
  pub one_waits : IsTrue (is_waiting one)
  pub other_waits : IsTrue (is_waiting other)

-- of each process both show the same member, or one that waits; and they have the same rows
pub record AreAlikeBut (v w : View) : Type 0 where
  pub rows : v.rows ≡ w.rows
  pub each : (who : UniqueModel) → (member_of (map.get v.standings who) ≡ member_of (map.get w.standings who)) ⊎ WaitsInBoth v.standings w.standings who
