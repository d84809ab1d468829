-- A datagram is a list of small fields, which are read from left to right: each has a width and a check. A field whose bytes are
-- not all there is short; then comes its check (that a datagram is read so is this project's choice).
use Rattle.std.specs.Prelude.{◌≡◌, ℕ, suc, zero, Bool, List, [], ◌∷◌, ◌++◌, ◌-◌, length, slice_get, take, drop, Option, None, Some, Result, Ok, Err, nat_lt, if◌then◌else◌}
use Rattle.std.specs.Int.{Width, byte_len, from_be_bytes}
use Rattle.ak_field.specs.declared.fault.WireFault.{WireFault}
use Rattle.ak_field.specs.declared.fault.WireFault.TheVariants.{Short, Magic, Version, Kind, Count, Order, Range, Trailing, NoMemory}

-- first the one, and then what is made of it; the first fault ends it
infixl 10 ◌>>=◌
abbrev pub ◌>>=◌ : {A B : Type 0} → Result A WireFault → (A → Result B WireFault) → Result B WireFault
(Ok x) >>= f = f x
(Err fault) >>= f = Err fault

-- a field is its value and the bytes after it, or its fault

-- so many bytes
unfoldable pub bytes_at : ℕ → List ℕ → Result (List ℕ × List ℕ) WireFault
bytes_at width bytes = if nat_lt (length bytes) width then Err Short else Ok (take width bytes, drop width bytes)

-- a number of one byte
unfoldable pub byte_at : List ℕ → Result (ℕ × List ℕ) WireFault
byte_at [] = Err Short
byte_at (byte ∷ rest) = Ok (byte, rest)

-- a number of more bytes, the greatest first
unfoldable pub wide_at : Width → List ℕ → Result (ℕ × List ℕ) WireFault
wide_at w bytes = do
  field ← bytes_at (byte_len w) bytes
  Ok (from_be_bytes w field.0, field.1)

-- what was read passes its check, or else this is the fault
abbrev pub checked : {X : Type 0} → WireFault → (X → Bool) → Result (X × List ℕ) WireFault → Result (X × List ℕ) WireFault
checked fault passes (Ok field) = if passes field.0 then Ok field else Err fault
checked fault passes (Err first) = Err first

-- so many items, each read under the one before it
unfoldable pub items_at : {X : Type 0} → (Option X → List ℕ → Result (X × List ℕ) WireFault) → Option X → ℕ → List ℕ → Result (List X × List ℕ) WireFault
items_at item last zero bytes = Ok ([], bytes)
items_at item last (suc many) bytes = do
  first ← item last bytes
  others ← items_at item (Some first.0) many first.1
  Ok (first.0 ∷ others.0, others.1)

-- the last item, where there is one
abbrev pub last_of : {X : Type 0} → List X → Option X
last_of xs = slice_get xs (length xs - 1)

-- a call's fault is the first one, unless memory ran out
abbrev pub Fails : {Y : Type 0} → WireFault → Result Y WireFault → Type 0
Fails Short read = read ≡ Err Short
Fails Magic read = read ≡ Err Magic
Fails Version read = read ≡ Err Version
Fails Kind read = read ≡ Err Kind
Fails Count read = read ≡ Err Count
Fails Order read = read ≡ Err Order
Fails Range read = read ≡ Err Range
Fails Trailing read = read ≡ Err Trailing
Fails (NoMemory _) read = Unit {0}

-- where memory ran out, what was to be read stands there, without a fault
abbrev pub IsThere : {X Y : Type 0} → Result Y WireFault → Result X WireFault → Type 0
IsThere {X} (Err (NoMemory _)) read = (x : X) × (read ≡ Ok x)
IsThere _ _ = Unit {0}

-- what a call answers, seen by view, and the bytes that it leaves are what reading gives, unless memory ran out
abbrev pub GivesAs : {X Y : Type 0} → (X → Y) → Result X WireFault → List ℕ → Result (Y × List ℕ) WireFault → Type 0
GivesAs view (Ok value) left read = read ≡ Ok (view value, left)
GivesAs view (Err fault) left read = Fails fault read

abbrev pub Gives : {X : Type 0} → Result X WireFault → List ℕ → Result (X × List ℕ) WireFault → Type 0
Gives result left read = GivesAs (λ value. value) result left read

-- the same of a call that takes no memory
abbrev pub GivesExactlyAs : {X Y : Type 0} → (X → Y) → Result X WireFault → List ℕ → Result (Y × List ℕ) WireFault → Type 0
GivesExactlyAs view (Ok value) left read = read ≡ Ok (view value, left)
GivesExactlyAs view (Err fault) left read = read ≡ Err fault

abbrev pub GivesExactly : {X : Type 0} → Result X WireFault → List ℕ → Result (X × List ℕ) WireFault → Type 0
GivesExactly result left read = GivesExactlyAs (λ value. value) result left read

-- a call that reads one more item adds it to a list, unless memory ran out
abbrev pub Adds : {X Y : Type 0} → Result Y WireFault → List X → List X → List ℕ → Result (X × List ℕ) WireFault → Type 0
Adds {X} (Ok _) old new left read = (x : X) × (read ≡ Ok (x, left)) × (new ≡ old ++ x ∷ [])
Adds (Err fault) old new left read = Fails fault read

-- the number of a fault; that memory ran out is none of the bytes' faults
abbrev pub fault_number : WireFault → Option ℕ
fault_number Short = Some 1
fault_number Magic = Some 2
fault_number Version = Some 3
fault_number Kind = Some 4
fault_number Count = Some 5
fault_number Order = Some 6
fault_number Range = Some 7
fault_number Trailing = Some 8
fault_number (NoMemory _) = None

-- the number of the first fault, where there is one
abbrev pub first_fault : {X : Type 0} → Result X WireFault → Option ℕ
first_fault (Ok value) = None
first_fault (Err fault) = fault_number fault
