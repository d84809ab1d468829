-- What each effect of the leader, and of the founding, comes from.
use Rattle.std.specs.Prelude.{◌≡◌, ℕ, ◌≤◌, true, false, IsTrue, Some, ◌⊎◌}
use Rattle.std.specs.FinMap as map
use Rattle.ak_address.specs.Unique.{UniqueModel}
use Rattle.ak_address.specs.Uniques.{UniqueSet, has}
use Rattle.ak_clock.specs.declared.version.TheConstants.{BOUND}
use Rattle.ak_member.specs.declared.effect.Effect.{Effect}
use Rattle.ak_member.specs.declared.effect.Effect.TheVariants.{Joined, Rise, Removed, Observed}
use Rattle.ak_member.specs.declared.status.Status.{Status}
use Rattle.ak_member.specs.declared.status.Status.TheVariants.{Joining, WeaklyUp, Up, Leaving, Exiting, Down}
use Rattle.ak_member.specs.Standing.{Standings, member_of, is_waiting}
use Rattle.ak_member.specs.View.{View}
use Rattle.ak_reach.specs.Unreachable.{IsUnreachable}

-- the process is a member with this status
abbrev pub IsMemberWith : Standings → UniqueModel → Status → Type 0
IsMemberWith s who status = (number : ℕ) × (member_of (map.get s who) ≡ Some (status, number))

-- the process is a member that waits to come Up
abbrev pub IsWaiting : Standings → UniqueModel → Type 0
IsWaiting s who = (status : Status) × IsMemberWith s who status × IsTrue (is_waiting status)

-- the effect changes what is known of this process
abbrev pub IsAbout : Effect → UniqueModel → Type 0
IsAbout (Joined other) who = other ≡ who
IsAbout (Rise other status number) who = other ≡ who
IsAbout (Removed other confirmed) who = other ≡ who
IsAbout (Observed subjects) who = ⊥

-- what the leader makes of a member with this status, and why
pub data LedTo (v : View) (confirmed : UniqueSet) (who : UniqueModel) (status : Status) : Effect → Type 0 where
  rises : (number : ℕ) → IsTrue (is_waiting status) → 1 ≤ number → number ≤ BOUND → LedTo v confirmed who status (Rise who Up number)
  exits : status ≡ Leaving → LedTo v confirmed who status (Rise who Exiting 0)
  confirms : (status ≡ Exiting) ⊎ (status ≡ Down) → IsTrue (has confirmed who) → LedTo v confirmed who status (Removed who true)
  removes : status ≡ Down → has confirmed who ≡ false → IsUnreachable v who → LedTo v confirmed who status (Removed who false)
