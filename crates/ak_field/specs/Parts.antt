-- A gossip: how many parts it has, and each of them, field by field (this project's choice).
use Rattle.std.specs.Prelude.{ℕ, zero, suc, ◌==◌, Bool, true, ◌||◌, not, List, [], ◌++◌, length, Option, Some, None, option_map, Result, Ok, nat_le, nat_lt, if◌then◌else◌}
use Rattle.std.specs.Int.{w64}
use Rattle.std.specs.List.{AllByRecursion, flat_map}
use Rattle.ak_address.specs.Unique.{IsUnique}
use Rattle.ak_clock.specs.declared.version.TheConstants.{BOUND}
use Rattle.ak_gossip.specs.declared.part.Part.{Part}
use Rattle.ak_gossip.specs.Parts.{AreParts}
use Rattle.ak_field.specs.declared.fault.WireFault.{WireFault}
use Rattle.ak_field.specs.declared.fault.WireFault.TheVariants.{Order, Range}
use Rattle.ak_field.specs.Reading.{◌>>=◌, byte_at, wide_at, checked, items_at}
use Rattle.ak_field.specs.Ranges.{is_from}
use Rattle.ak_field.specs.Fields.{length_at, number_at, flag_at}
use Rattle.ak_field.specs.Lists.{next_unique_at}
use Rattle.ak_field.specs.Spelling.{byte, eight_bytes, process, flag}

-- 1 joining, 2 up, 3 leaving, 4 exiting, 5 down, 6 removed, 7 removed and confirmed, 8 weakly up
unfoldable pub state_at : List ℕ → Result (ℕ × List ℕ) WireFault
state_at bytes = checked Range (is_from 1 8) (byte_at bytes)

-- the up number of a state: none of those that are joining, weakly up or removed, some of those that are up, leaving or
-- exiting, and some or none of those that are down
abbrev pub is_up_number : ℕ → ℕ → Bool
is_up_number state number =
    if state == 1 || nat_le 6 state then number == 0 else (if state == 5 then nat_le number BOUND else is_from 1 BOUND number)

unfoldable pub up_number_at : ℕ → List ℕ → Result (ℕ × List ℕ) WireFault
up_number_at state bytes = checked Range (is_up_number state) (wide_at w64 bytes)

-- whether the process has seen the gossip, which no removed one has
abbrev pub may_see : ℕ → Bool → Bool
may_see state seen = not seen || (nat_le state 5 || state == 8)

unfoldable pub seen_at : ℕ → List ℕ → Result (Bool × List ℕ) WireFault
seen_at state bytes = checked Range (may_see state) (flag_at bytes)

-- an index after the last one is above it
abbrev pub is_after : Option ℕ → ℕ → Bool
is_after None index = true
is_after (Some last) index = nat_lt last index

-- an index of a part, out of so many
unfoldable pub index_at : ℕ → Option ℕ → List ℕ → Result (ℕ × List ℕ) WireFault
index_at many last bytes = checked Order (is_after last) (checked Range (λ index. nat_lt index many) (byte_at bytes))

unfoldable pub indices_at : ℕ → List ℕ → Result (List ℕ × List ℕ) WireFault
indices_at many bytes = do
  length ← length_at 0 many bytes
  items_at (index_at many) None length.0 length.1

-- the subjects of a row: there only where there is a row, whose number is then not 0
unfoldable pub subjects_at : ℕ → ℕ → List ℕ → Result (List ℕ × List ℕ) WireFault
subjects_at many zero bytes = Ok ([], bytes)
subjects_at many (suc number) bytes = indices_at many bytes

-- a part out of so many, after the last one
unfoldable pub part_at : ℕ → Option Part → List ℕ → Result (Part × List ℕ) WireFault
part_at many last bytes = do
  who ← next_unique_at (option_map (λ (part : Part). part.unique) last) bytes
  count ← number_at 0 BOUND who.1
  state ← state_at count.1
  up_number ← up_number_at state.0 state.1
  seen ← seen_at state.0 up_number.1
  row_number ← number_at 0 count.0 seen.1
  subjects ← subjects_at many row_number.0 row_number.1
  Ok (record { unique = who.0; count = count.0; state = state.0; up_number = up_number.0; seen = seen.0; row_number = row_number.0; subjects = subjects.0 }, subjects.1)

unfoldable pub parts_at : List ℕ → Result (List Part × List ℕ) WireFault
parts_at bytes = do
  many ← length_at 0 128 bytes
  items_at (part_at many.0) None many.0 many.1

-- how many indices there are, and each of them
abbrev pub indices : List ℕ → List ℕ
indices list = byte (length list) ++ list

abbrev pub subjects : ℕ → List ℕ → List ℕ
subjects zero list = []
subjects (suc number) list = indices list

abbrev pub part : Part → List ℕ
part p =
    process p.unique
    ++ (eight_bytes p.count ++ (byte p.state ++ (eight_bytes p.up_number ++ (flag p.seen ++ (eight_bytes p.row_number ++ subjects p.row_number p.subjects)))))

abbrev pub parts : List Part → List ℕ
parts list = byte (length list) ++ flat_map part list

-- parts that have a spelling: those of a gossip
pub record AreSpelled (list : List Part) : Type 0 where
  pub parts : AreParts list
  pub uniques : AllByRecursion (λ (p : Part). IsUnique p.unique) list
