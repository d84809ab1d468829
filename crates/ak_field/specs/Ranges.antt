-- The ranges of fields (this project's choice).
use Rattle.std.specs.Prelude.{ℕ, ◌≤◌, ◌==◌, Bool, ◌&&◌, nat_le, List, length, IsTrue, if◌then◌else◌}
use Rattle.std.specs.List.{list_all}
use Rattle.ak_address.specs.Unique.{UniqueModel, IsAddress, is_host_byte}
use Rattle.ak_clock.specs.declared.version.TheConstants.{BOUND}
use Rattle.ak_shard_id.specs.Division.{is_entity_byte}
use Rattle.ak_field.specs.Spelling.{format}

abbrev pub is_from : ℕ → ℕ → ℕ → Bool
is_from least most n = nat_le least n && nat_le n most

-- a process whose uid is in a range: that of a receiver may be 0 where a message is for any process at an address
abbrev pub is_process : ℕ → ℕ → UniqueModel → Bool
is_process least most u = list_all is_host_byte u.address.host && (nat_le 1 u.address.port && is_from least most u.uid)

pub record IsProcess (least most : ℕ) (u : UniqueModel) : Type 0 where
  pub address : IsAddress u.address
  pub uid : least ≤ u.uid
  pub uid_fits : u.uid ≤ most

-- how many bytes an entity has at most in a version of the format: an id has 64, and in the second version a type and `/` may
-- come before it
abbrev pub most_entity : ℕ → ℕ
most_entity version = if version == 1 then 64 else 97

-- what an entity may be called in a version: so many bytes from `!` to `~`
pub record IsEntityIn (version : ℕ) (name : List ℕ) : Type 0 where
  pub not_empty : 1 ≤ length name
  pub short : length name ≤ most_entity version
  pub printable : IsTrue (list_all is_entity_byte name)

-- and in the version that is written: 1 to 97 bytes
abbrev pub IsEntity : List ℕ → Type 0
IsEntity name = IsEntityIn format name

-- a version of the format that is read
pub record IsVersionOfFormat (version : ℕ) : Type 0 where
  pub first : 1 ≤ version
  pub last : version ≤ format

-- the version of the format and the kind of a message
abbrev pub IsHeader : ℕ × ℕ → Type 0
IsHeader x = IsVersionOfFormat x.0 × ((1 ≤ x.1) × (x.1 ≤ 25))

-- a number of terms, counts and allocations
pub record IsNumber (n : ℕ) : Type 0 where
  pub some : 1 ≤ n
  pub bounded : n ≤ BOUND

abbrev pub IsShard : ℕ → Type 0
IsShard n = n ≤ 999
