-- How numbers, addresses and uniques are written as bytes, and which bytes spell them. All of it is this project's
-- choice: an address is `host:port`, a unique is `host:port#uid`.
use Rattle.std.specs.Prelude.{◌≡◌, ℕ, ◌<◌, ◌≤◌, ◌^◌, ◌==◌, List, ◌∷◌, ◌++◌, length, All, Result, Ok, Err, decimal}
use Rattle.std.specs.List.{before_first, after_first}
use Rattle.std.specs.Str.Parse.{AllDigits, digits_value}
use Rattle.ak_address.specs.Unique.{AddressModel, UniqueModel, IsAddress, IsUnique, IsHost}
use Rattle.ak_address.specs.declared.parse.AddressFault.{AddressFault}
use Rattle.ak_address.specs.declared.parse.AddressFault.TheVariants.{BadHost, BadPort, BadUid, NoMemory}

-- the bytes are 1 to 20 decimal digits, leading zeros allowed, and n is their value
pub record IsNumber (bytes : List ℕ) (n : ℕ) : Type 0 where
  pub not_empty : 1 ≤ length bytes
  pub short : length bytes ≤ 20
  pub digits : AllDigits 10 bytes
  pub value : digits_value 10 bytes ≡ n

-- the bytes are a host, `:` (58) and a number, and these are the parts of an address
pub record SpellsAddress (bytes : List ℕ) (a : AddressModel) : Type 0 where
  pub range : IsAddress a
  pub digits : List ℕ
  pub port : IsNumber digits a.port
  pub whole : bytes ≡ a.host ++ 58 ∷ digits

-- the bytes are the spelling of an address, `#` (35) and a number, and these are the parts of a unique
pub record SpellsUnique (bytes : List ℕ) (u : UniqueModel) : Type 0 where
  pub range : IsUnique u
  pub prefix : List ℕ
  pub digits : List ℕ
  pub address : SpellsAddress prefix u.address
  pub uid : IsNumber digits u.uid
  pub whole : bytes ≡ prefix ++ 35 ∷ digits

-- what is printed: the spelling without leading zeros
abbrev pub address_text : AddressModel → List ℕ
address_text a = a.host ++ 58 ∷ decimal a.port

abbrev pub unique_text : UniqueModel → List ℕ
unique_text u = address_text u.address ++ 35 ∷ decimal u.uid

-- what stands before the first of a byte, or all where there is none
abbrev pub before_byte : ℕ → List ℕ → List ℕ
before_byte c bytes = before_first (λ b. b == c) bytes

-- what stands after the first of a byte, or nothing where there is none; and nothing is no number
abbrev pub after_byte : ℕ → List ℕ → List ℕ
after_byte c bytes = after_first (λ b. b == c) bytes

-- a number from 1 to 65535
abbrev pub IsPort : List ℕ → Type 0
IsPort bytes = (n : ℕ) × IsNumber bytes n × (1 ≤ n) × (n < 2 ^ 16)

-- a number from 1 to 9223372036854775807
abbrev pub IsUid : List ℕ → Type 0
IsUid bytes = (n : ℕ) × IsNumber bytes n × (1 ≤ n) × (n < 2 ^ 63)

-- what a check of the bytes of a host and of a port answers
abbrev pub ChecksPort : List ℕ → List ℕ → Result ℕ AddressFault → Type 0
ChecksPort host port (Ok n) = IsHost host × IsNumber port n × (1 ≤ n) × (n < 2 ^ 16)
ChecksPort host port (Err BadHost) = ¬ IsHost host
ChecksPort host port (Err BadPort) = IsHost host × (¬ IsPort port)
ChecksPort host port (Err BadUid) = ⊥
ChecksPort host port (Err (NoMemory _)) = ⊥

-- a reader's answer to bytes that spell a value: that value, unless memory ran out
abbrev pub ReadsAs : {T : Type 0} → Result T AddressFault → T → Type 0
ReadsAs (Ok x) value = x ≡ value
ReadsAs (Err BadHost) value = ⊥
ReadsAs (Err BadPort) value = ⊥
ReadsAs (Err BadUid) value = ⊥
ReadsAs (Err (NoMemory _)) value = Unit {0}

-- it answers that memory ran out
abbrev pub RanOut : {T : Type 0} → Result T AddressFault → Type 0
RanOut (Ok x) = ⊥
RanOut (Err BadHost) = ⊥
RanOut (Err BadPort) = ⊥
RanOut (Err BadUid) = ⊥
RanOut (Err (NoMemory _)) = Unit {0}

-- the bytes spell some address, and some unique
abbrev pub SomeAddress : List ℕ → Type 0
SomeAddress bytes = (a : AddressModel) × SpellsAddress bytes a

abbrev pub SomeUnique : List ℕ → Type 0
SomeUnique bytes = (u : UniqueModel) × SpellsUnique bytes u

-- at least one byte, and each from `!` to `~`: no space and no line end
abbrev pub IsWord : List ℕ → Type 0
IsWord bytes = (1 ≤ length bytes) × All (λ b. (32 < b) × (b < 127)) bytes
