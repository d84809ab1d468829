-- How another view's standings are taken in: those of processes that are known, and then those of the others.
use Rattle.std.specs.Prelude.{◌≡◌, ℕ, ◌≤◌, Bool, not, List, [], ◌∷◌, length, None, IsTrue, if◌then◌else◌}
use Rattle.std.specs.List.{AllByRecursion}
use Rattle.std.specs.FinMap as map
use Rattle.std.specs.FinMap.Entries.{where_key}
use Rattle.ak_address.specs.Unique.{UniqueModel, unique_cmp}
use Rattle.ak_member.specs.Standing.{Standings, known}
use Rattle.ak_member.specs.Slots.{Slot}

-- what is known of a process, merged with one more standing of it; of any other process nothing is noted
abbrev pub noted : Standings → Slot → Standings
noted s slot = if map.contains_key s slot.0 then known s slot.0 slot.1 else s

-- the same for several
abbrev pub all_noted : List Slot → Standings → Standings
all_noted [] s = s
all_noted (slot ∷ slots) s = all_noted slots (noted s slot)

-- of the process nothing is known
abbrev pub is_unknown : Standings → UniqueModel → Bool
is_unknown s who = not (map.contains_key s who)

-- the standings of those of whom nothing is known
abbrev pub unknown : Standings → List Slot → List Slot
unknown s slots = where_key unique_cmp (is_unknown s) slots

-- These can get a slot each: they go by process, nothing is known of them, and there is room.
pub record CanBeAdded (s : Standings) (room : ℕ) (slots : List Slot) : Type 0 where
  pub sorted : IsTrue (map.is_sorted unique_cmp slots)
  pub absent : AllByRecursion (λ (slot : Slot). map.get s slot.0 ≡ None) slots
  pub fits : length slots ≤ room
