-- How many different addresses there are, of a list of them and of processes, and how they are counted one by one.
use Rattle.std.specs.Prelude.{ℕ, ◌+◌, Bool, false, List, [], ◌∷◌, Option, None, Some, if◌then◌else◌, refl}
use Rattle.std.specs.Prelude as list
use Rattle.std.specs.List.{list_any}
use Rattle.std.specs.Coded.{Coded, code_by, coded×, coded_ℕ, coded_option}
use Rattle.std.specs.Ordering.{is_eq}
use Rattle.ak_address.specs.Unique.{AddressModel, UniqueModel, address_cmp, coded_unique}

-- how many different addresses there are
abbrev pub distinct : List AddressModel → ℕ
distinct [] = 0
distinct (a ∷ rest) = if list_any (λ b. is_eq (address_cmp a b)) rest then distinct rest else distinct rest + 1

-- an address is one of these
abbrev pub is_among : List AddressModel → AddressModel → Bool
is_among list a = list_any (λ b. is_eq (address_cmp b a)) list

-- where the processes are reached
abbrev pub addresses_of : List UniqueModel → List AddressModel
addresses_of = list.map (λ (who : UniqueModel). who.address)

-- the first process, if there is one, is at the address of the second
abbrev pub is_at_address : Option UniqueModel → UniqueModel → Bool
is_at_address None who = false
is_at_address (Some first) who = is_eq (address_cmp first.address who.address)

-- how many addresses are counted, of processes that come in their order, and the last of these
pub record AddressCountModel : Type 0 where
  pub count : ℕ
  pub last : Option UniqueModel

abbrev pub coded_address_count : Coded AddressCountModel
coded_address_count = code_by (ℕ × Option UniqueModel) (coded× coded_ℕ (coded_option coded_unique)) (λ c. (c.count, c.last)) (λ p. record { count = p.0; last = p.1 }) (λ _. refl)

abbrev pub none_counted : AddressCountModel
none_counted = record { count = 0; last = None }

-- a process more: its address is another one unless the last process has it too
abbrev pub counted_with : AddressCountModel → UniqueModel → AddressCountModel
counted_with c who = record { count = if is_at_address c.last who then c.count else c.count + 1; last = Some who }
