-- Each field as small fields, with their checks: a length is a field of its own, and so is each number; the host, the port and
-- the uid of a process are one together, and so are the bytes of an entity's name (this project's choice).
use Rattle.std.specs.Prelude.{ℕ, ◌+◌, ◌-◌, ◌^◌, ◌==◌, ◌&&◌, Bool, false, List, [], ◌∷◌, take, drop, Result, Ok, nat_le, if◌then◌else◌}
use Rattle.std.specs.List.{list_all}
use Rattle.std.specs.Int.{w16, w64, from_be_bytes}
use Rattle.ak_address.specs.Unique.{UniqueModel}
use Rattle.ak_clock.specs.declared.version.TheConstants.{BOUND}
use Rattle.ak_promise.specs.Ballot.{BallotModel}
use Rattle.ak_field.specs.declared.fault.WireFault.{WireFault}
use Rattle.ak_field.specs.declared.fault.WireFault.TheVariants.{Magic, Version, Kind, Count, Range}
use Rattle.ak_field.specs.Reading.{◌>>=◌, bytes_at, byte_at, wide_at, checked}
use Rattle.ak_field.specs.Ranges.{is_from, is_process, most_entity}
use Rattle.ak_shard_id.specs.Division.{is_entity_byte}
use Rattle.ak_field.specs.Spelling.{format}

-- a length of one byte
unfoldable pub length_at : ℕ → ℕ → List ℕ → Result (ℕ × List ℕ) WireFault
length_at least most bytes = checked Count (is_from least most) (byte_at bytes)

-- a number of eight bytes in a range
unfoldable pub number_at : ℕ → ℕ → List ℕ → Result (ℕ × List ℕ) WireFault
number_at least most bytes = checked Range (is_from least most) (wide_at w64 bytes)

unfoldable pub shard_at : List ℕ → Result (ℕ × List ℕ) WireFault
shard_at bytes = checked Range (λ n. nat_le n 999) (wide_at w16 bytes)

unfoldable pub flag_at : List ℕ → Result (Bool × List ℕ) WireFault
flag_at bytes = do
  n ← checked Range (λ n. nat_le n 1) (byte_at bytes)
  Ok (n.0 == 1, n.1)

-- a host of so many bytes, a port and a uid
abbrev pub process_of : ℕ → List ℕ → UniqueModel
process_of host bytes =
    record {
      address = record { host = take host bytes; port = from_be_bytes w16 (take 2 (drop host bytes)) };
      uid = from_be_bytes w64 (drop 2 (drop host bytes));
    }

unfoldable pub process_bytes_at : ℕ → List ℕ → Result (UniqueModel × List ℕ) WireFault
process_bytes_at host bytes = do
  field ← bytes_at (host + 10) bytes
  Ok (process_of host field.0, field.1)

unfoldable pub process_at : ℕ → ℕ → List ℕ → Result (UniqueModel × List ℕ) WireFault
process_at least most bytes = do
  host ← length_at 1 64 bytes
  checked Range (is_process least most) (process_bytes_at host.0 host.1)

abbrev pub unique_at : List ℕ → Result (UniqueModel × List ℕ) WireFault
unique_at bytes = process_at 1 (2 ^ 63 - 1) bytes

-- a receiver: any process at an address has uid 0
abbrev pub receiver_at : Bool → List ℕ → Result (UniqueModel × List ℕ) WireFault
receiver_at anybody bytes = if anybody then process_at 0 0 bytes else unique_at bytes

unfoldable pub ballot_at : List ℕ → Result (BallotModel × List ℕ) WireFault
ballot_at bytes = do
  term ← number_at 1 BOUND bytes
  who ← unique_at term.1
  Ok (record { term = term.0; unique = who.0 }, who.1)

-- in a version of the format
unfoldable pub entity_at : ℕ → List ℕ → Result (List ℕ × List ℕ) WireFault
entity_at version bytes = do
  n ← length_at 1 (most_entity version) bytes
  checked Range (list_all is_entity_byte) (bytes_at n.0 n.1)

abbrev pub is_magic : List ℕ → Bool
is_magic [] = false
is_magic (a ∷ []) = false
is_magic (a ∷ b ∷ []) = false
is_magic (a ∷ b ∷ c ∷ rest) = a == 65 && (b == 75 && c == 67)

-- the first five bytes of a datagram: the version of the format, and the kind, from 1 to 25
unfoldable pub header_at : List ℕ → Result ((ℕ × ℕ) × List ℕ) WireFault
header_at bytes = do
  first ← checked Magic is_magic (bytes_at 3 bytes)
  version ← checked Version (is_from 1 format) (byte_at first.1)
  kind ← checked Kind (is_from 1 25) (byte_at version.1)
  Ok ((version.0, kind.0), kind.1)
