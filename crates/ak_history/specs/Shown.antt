-- What a version shows of one process and of one observer, said of the covered entries and not of a fold over them.
use Rattle.std.specs.Prelude.{◌≡◌, ◌⊎◌, ◌↔◌, ℕ, ◌≤◌, ◌<◌, true, false, IsTrue, List, Contains, Option, None, Some}
use Rattle.ak_address.specs.Unique.{UniqueModel}
use Rattle.ak_clock.specs.Version.{Counts}
use Rattle.ak_member.specs.declared.status.Status.{Status}
use Rattle.ak_member.specs.declared.status.Status.TheVariants.{Joining}
use Rattle.ak_member.specs.declared.standing.Standing.TheVariants.{Member, Buried}
use Rattle.ak_member.specs.declared.standing.Standing.{Standing}
use Rattle.ak_member.specs.declared.effect.Effect.{Effect}
use Rattle.ak_member.specs.declared.effect.Effect.TheVariants.{Joined, Rise, Removed}
use Rattle.ak_member.specs.Standing.{rank}
use Rattle.ak_member.specs.View.{Row, observed}
use Rattle.ak_history.specs.declared.entry.Entry.{Entry}
use Rattle.ak_history.specs.History.{is_covered}

-- a covered entry has this effect
pub record Did (history : List Entry) (version : Counts) (effect : Effect) : Type 0 where
  pub entry : Entry
  pub in_history : Contains history entry
  pub covered : IsTrue (is_covered version entry)
  pub does : Contains entry.effects effect

-- a covered entry removed the process, whether it says that the process has stopped or not
abbrev pub IsRemoved : List Entry → Counts → UniqueModel → Type 0
IsRemoved history version who = (Did history version (Removed who true)) ⊎ (Did history version (Removed who false))

-- a covered entry raised the process to this status, with this number
abbrev pub Rose : List Entry → Counts → UniqueModel → Status → ℕ → Type 0
Rose history version who status number = Did history version (Rise who status number)

-- a covered entry names the process as a member
abbrev pub IsNamed : List Entry → Counts → UniqueModel → Type 0
IsNamed history version who = Did history version (Joined who) ⊎ ((status : Status) × (number : ℕ) × Rose history version who status number)

-- the greatest of Joining and the statuses to which covered entries raised the process
pub record IsGreatest (history : List Entry) (version : Counts) (who : UniqueModel) (status : Status) : Type 0 where
  pub reached : (status ≡ Joining) ⊎ ((number : ℕ) × Rose history version who status number)
  pub greatest : (other : Status) (number : ℕ) → Rose history version who other number → rank other ≤ rank status

-- the least number other than 0 of the covered rises of the process, or 0 where there is none
pub record IsLeast (history : List Entry) (version : Counts) (who : UniqueModel) (number : ℕ) : Type 0 where
  pub reached : (number ≡ 0) ⊎ ((status : Status) × Rose history version who status number)
  pub least : (status : Status) (other : ℕ) → Rose history version who status other → (other ≡ 0) ⊎ ((1 ≤ number) × (number ≤ other))

-- what a version shows of a process
abbrev pub Stands : List Entry → Counts → UniqueModel → Option Standing → Type 0
Stands history version who None = (IsNamed history version who → ⊥) × (IsRemoved history version who → ⊥)
Stands history version who (Some (Buried confirmed)) =
    IsRemoved history version who × ((confirmed ≡ true) ↔ Did history version (Removed who true))
Stands history version who (Some (Member status number)) =
    IsNamed history version who × (IsRemoved history version who → ⊥) × IsGreatest history version who status × IsLeast history version who number

-- the last covered entry of the observer that observes has this number and these subjects
pub record IsLastRow (history : List Entry) (version : Counts) (observer : UniqueModel) (row : Row) : Type 0 where
  pub entry : Entry
  pub in_history : Contains history entry
  pub author : entry.author ≡ observer
  pub covered : IsTrue (is_covered version entry)
  pub number : entry.number ≡ row.number
  pub subjects : observed entry.effects ≡ Some row.subjects
  pub last : (later : Entry) → Contains history later → later.author ≡ observer → IsTrue (is_covered version later) → row.number < later.number → observed later.effects ≡ None

-- what a version shows of an observer
abbrev pub Observes : List Entry → Counts → UniqueModel → Option Row → Type 0
Observes history version observer None = (entry : Entry) → Contains history entry → entry.author ≡ observer → IsTrue (is_covered version entry) → observed entry.effects ≡ None
Observes history version observer (Some row) = IsLastRow history version observer row
