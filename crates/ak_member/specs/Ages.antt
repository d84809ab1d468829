-- The places of the slots of the members that count, the oldest first, as a view keeps them (this project's choice).
use Rattle.std.specs.Prelude.{◌≡◌, ℕ, ◌≤◌, Bool, true, not, ◌&&◌, nat_eq, List, length, get_or, Option, None, Some, is_some, unwrap_or, IsTrue, if◌then◌else◌}
use Rattle.std.specs.Prelude as list
use Rattle.std.specs.FinMap as map
use Rattle.std.specs.Ordering.{nat_cmp, ordering_then}
use Rattle.std.specs.declared.cmp.Ordering.{Ordering}
use Rattle.ak_address.specs.Unique.{UniqueModel, unique_cmp}
use Rattle.ak_member.specs.declared.standing.Standing.{Standing}
use Rattle.ak_member.specs.declared.standing.Standing.TheVariants.{Member, Buried}
use Rattle.ak_member.specs.Age.{counts}
use Rattle.ak_member.specs.Slots.{Slot, no_slot, InOrder}

-- the up number of a member that counts
abbrev pub age : Standing → Option ℕ
age (Member status number) = if counts status then Some number else None
age (Buried confirmed) = None

-- by the up number, then by process
abbrev pub AgeKey : Type 0
AgeKey = ℕ × UniqueModel

abbrev pub age_cmp : AgeKey → AgeKey → Ordering
age_cmp a b = ordering_then (nat_cmp a.0 b.0) (unique_cmp a.1 b.1)

-- of the slot at a place
abbrev pub age_at : List Slot → ℕ → Option ℕ
age_at slots place = age (get_or slots place no_slot).1

abbrev pub has_age : List Slot → ℕ → Bool
has_age slots place = is_some (age_at slots place)

abbrev pub key_at : List Slot → ℕ → AgeKey
key_at slots place = (unwrap_or (age_at slots place) 0, (get_or slots place no_slot).0)

-- the same, but for one slot
abbrev pub has_age_but : ℕ → List Slot → ℕ → Bool
has_age_but slot slots place = has_age slots place && not (nat_eq place slot)

-- places, each with its key
abbrev pub keyed : (ℕ → AgeKey) → List ℕ → List (AgeKey × ℕ)
keyed key places = list.map (λ place. (key place, place)) places

-- These are the wanted places, each once, and their keys rise.
pub record Lists (wanted : ℕ → Bool) (key : ℕ → AgeKey) (places : List ℕ) : Type 0 where
  pub sorted : IsTrue (map.is_sorted age_cmp (keyed key places))
  pub all : (place : ℕ) → wanted place ≡ true → map.find age_cmp (key place) (keyed key places) ≡ Some place
  pub only : (q : AgeKey) (place : ℕ) → map.find age_cmp q (keyed key places) ≡ Some place → (wanted place ≡ true) × (key place ≡ q)

-- the places of the slots that count, the oldest first
abbrev pub AreByAge : List Slot → List ℕ → Type 0
AreByAge slots places = Lists (has_age slots) (key_at slots) places

-- What is kept beside the slots: the places of all in the order of processes, and of those that count by age, in a list that has room
-- for so many.
pub record KeepsSlots (slots : List Slot) (places by_age : List ℕ) (capacity : ℕ) : Type 0 where
  pub in_order : InOrder slots places
  pub ages : AreByAge slots by_age
  pub roomy : length slots ≤ capacity
