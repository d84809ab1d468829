-- How each field is spelled as bytes (this project's choice).
use Rattle.std.specs.Prelude.{ℕ, Bool, List, [], ◌∷◌, ◌++◌, length, if◌then◌else◌}
use Rattle.std.specs.Int.{w16, w64, to_be_bytes}
use Rattle.ak_address.specs.Unique.{UniqueModel}
use Rattle.std.specs.List.{flat_map}
use Rattle.std.specs.FinMap as map
use Rattle.ak_promise.specs.Ballot.{BallotModel}
use Rattle.ak_clock.specs.Version.{Counts}
use Rattle.ak_shard_id.specs.declared.report.Report.{Report}

-- numbers of one, two and eight bytes, the greatest byte first
abbrev pub byte : ℕ → List ℕ
byte n = n ∷ []

abbrev pub two_bytes : ℕ → List ℕ
two_bytes n = to_be_bytes w16 n

abbrev pub eight_bytes : ℕ → List ℕ
eight_bytes n = to_be_bytes w64 n

-- `AK` and `C`
abbrev pub magic : List ℕ
magic = 65 ∷ 75 ∷ 67 ∷ []

-- the version of the format that is written; the ones before it, from 1 on, are read too
abbrev pub format : ℕ
format = 2

-- then the version of the format, and the kind of a message
abbrev pub header : ℕ × ℕ → List ℕ
header x = magic ++ (byte x.0 ++ byte x.1)

-- the length of the host, the host, the port and the uid
abbrev pub process : UniqueModel → List ℕ
process u = byte (length u.address.host) ++ (u.address.host ++ (two_bytes u.address.port ++ eight_bytes u.uid))

abbrev pub ballot : BallotModel → List ℕ
ballot b = eight_bytes b.term ++ process b.unique

abbrev pub shard : ℕ → List ℕ
shard n = two_bytes n

abbrev pub flag : Bool → List ℕ
flag holds = byte (if holds then 1 else 0)

-- the length of an entity's name, and the name
abbrev pub entity : List ℕ → List ℕ
entity name = byte (length name) ++ name

-- a process and its count
abbrev pub counted : UniqueModel × ℕ → List ℕ
counted pair = process pair.0 ++ eight_bytes pair.1

-- how many processes have a count, and each with its count
abbrev pub version : Counts → List ℕ
version v = byte (map.len v) ++ flat_map counted (map.entries v)

abbrev pub report : Report → List ℕ
report r = shard r.shard ++ (eight_bytes r.number ++ flag r.hosted)

-- how many reports there are, and each of them
abbrev pub reports : List Report → List ℕ
reports rs = two_bytes (length rs) ++ flat_map report rs
