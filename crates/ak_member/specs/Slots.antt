-- The slots in which a view keeps what it knows of each process, in the order in which processes came (this project's choice).
use Rattle.std.specs.Prelude.{◌≡◌, ℕ, ◌<◌, false, List, [], length, get_or, refl}
use Rattle.std.specs.Prelude as list
use Rattle.std.specs.List.{AllByRecursion}
use Rattle.std.specs.FinMap as map
use Rattle.std.specs.Coded.{Coded, code_by, coded×, coded_list, coded_ℕ}
use Rattle.ak_address.specs.Unique.{UniqueModel, coded_unique}
use Rattle.ak_member.specs.contracts.standing.Standing as standing
use Rattle.ak_member.specs.declared.standing.Standing.{Standing}
use Rattle.ak_member.specs.declared.standing.Standing.TheVariants.{Buried}
use Rattle.ak_member.specs.Standing.{Standings}

-- a process and what is known of it
abbrev pub Slot : Type 0
Slot = UniqueModel × Standing

-- the slots, and for how many more there is room
pub record SlotsModel : Type 0 where
  pub entries : List Slot
  pub room : ℕ

abbrev pub coded_slots : Coded SlotsModel
coded_slots =
    code_by (List Slot × ℕ) (coded× (coded_list (coded× coded_unique standing.the_row.coded)) coded_ℕ) (λ s. (s.entries, s.room)) (λ p. record { entries = p.0; room = p.1 }) (λ _. refl)

-- what slots say of each process
abbrev pub standings_of : List Slot → Standings
standings_of slots = map.from_entries slots

-- what stands past the last slot: nothing asks for it
abbrev pub no_slot : Slot
no_slot = (record { address = record { host = []; port = 0 }; uid = 0 }, Buried false)

-- the slots at these places, one after the other
abbrev pub picked : List ℕ → List Slot → List Slot
picked places slots = list.map (λ place. get_or slots place no_slot) places

-- These are the places of all slots, in the order of processes.
pub record InOrder (slots : List Slot) (places : List ℕ) : Type 0 where
  pub placed : AllByRecursion (λ place. place < length slots) places
  pub pairs : map.entries (standings_of slots) ≡ picked places slots
