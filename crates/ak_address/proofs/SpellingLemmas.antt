-- The parts of a spelling stand before and after the first `:` and the first `#`, and each list of bytes spells one
-- value at most.
use Rattle.std.proofs.Common.{◌≡◌, ℕ, ◌+◌, ◌^◌, ◌<◌, ◌≤◌, Bool, true, false, eqb, List, ◌∷◌, ◌++◌, length, drop, get_or, All, Result, Ok, Err, is_ok, Option, None, Some, is_some, IfSome, IfNone, IsTrue, ◌↔◌, sym, refl, ap, ◌∙◌, arith, append_assoc, length-append, length-drop, decimal}
use Rattle.std.proofs.lemmas.Bool.{false≢true, eqb-true}
use Rattle.std.specs.List.{position_or_len}
use Rattle.std.specs.Int.{IsInRange}
use Rattle.std.specs.Str.Parse.{AllDigits}
use Rattle.std.proofs.lemmas.List.{get_or_append_left, get_or_at, take_at, drop_at, drop-drop}
use Rattle.std.proofs.lemmas.List.Elements.{All-get_or, All-from_get_or, All-weaker, All-append, All-cons}
use Rattle.std.proofs.lemmas.Fmt.{decimal_is_IsNumeral, length-decimal-le}
use Rattle.std.proofs.lemmas.Bool.Decides.{nat_tests}
use Rattle.std.proofs.lemmas.List.Sums.{split_at_first, passes_at_first, AllPass-from_list_all}
use Rattle.std.proofs.lemmas.Str.Parse.{digit_at}
use Rattle.ak_address.specs.Unique.{AddressModel, UniqueModel, IsHost, IsAddress, IsUnique, is_host_byte}
use Rattle.ak_address.specs.Spelling.{IsNumber, IsPort, SpellsAddress, SpellsUnique, IsWord, ReadsAs, SomeAddress, SomeUnique, ChecksPort, address_text, unique_text, before_byte, after_byte}
use Rattle.ak_address.specs.declared.parse.AddressFault.{AddressFault}
use Rattle.ak_address.specs.declared.parse.AddressFault.TheVariants.{BadHost, BadPort, BadUid, NoMemory}
use Rattle.ak_address.proofs.Reading.{index_is}

-- what stands before and after the first of a byte
pub parts_at : (c : ℕ) (prefix rest : List ℕ) → All (λ b. b ≡ c → ⊥) prefix → (before_byte c (prefix ++ c ∷ rest) ≡ prefix) × (after_byte c (prefix ++ c ∷ rest) ≡ rest)
parts_at c prefix rest others =
    let index : length prefix ≡ position_or_len (λ b. eqb b c) (prefix ++ c ∷ rest) =
    index_is (prefix ++ c ∷ rest) c (length prefix) (omega (arith, length-append prefix (c ∷ rest)))
    (λ k below. rw get_or_append_left (All-get_or (λ b. b ≡ c → ⊥) prefix k 0 below others))
    (λ _. get_or_at prefix c rest 0 (length prefix) refl) in (
      rw (← index) (take_at prefix (c ∷ rest) (length prefix) refl),
      rw (← index) (sym (drop-drop 1 (length prefix) (prefix ++ c ∷ rest)) ∙ ap (drop 1) (drop_at prefix (c ∷ rest) (length prefix) refl)),
    )

-- bytes with something after the first of a byte are what stands before it, it, and what stands after it
pub whole_at : (c : ℕ) (bytes : List ℕ) → 1 ≤ length (after_byte c bytes) → bytes ≡ before_byte c bytes ++ c ∷ after_byte c bytes
whole_at c bytes more =
    let test : ℕ → Bool = λ b. eqb b c in
    let index = position_or_len test bytes in
    let within : index < length bytes = omega (arith, length-drop (index + 1) bytes) in
    let here : get_or bytes index 0 ≡ c = eqb-true (get_or bytes index 0) c (passes_at_first test bytes 0 within) in
    split_at_first test bytes 0 within ∙ ap (λ b. before_byte c bytes ++ b ∷ after_byte c bytes) here

-- no byte of a host is `:` or `#`
host_byte_apart : (b c : ℕ) → is_host_byte c ≡ false → is_host_byte b ≡ true → b ≡ c → ⊥
host_byte_apart b c outside inside same = absurd (false≢true (sym outside ∙ ap is_host_byte (sym same) ∙ inside))

pub host_apart : (host : List ℕ) (c : ℕ) → is_host_byte c ≡ false → IsHost host → All (λ b. b ≡ c → ⊥) host
host_apart host c outside good =
    All-weaker (λ b. is_host_byte b ≡ true) (λ b. b ≡ c → ⊥) (λ b. host_byte_apart b c outside) host (AllPass-from_list_all is_host_byte host good.letters)

pub digits_in_range : (bytes : List ℕ) → AllDigits 10 bytes → All (IsInRange 48 57) bytes
digits_in_range bytes all = All-from_get_or (IsInRange 48 57) bytes 0 (λ i within. digit_at bytes i all within)

-- no digit is `#`
pub digits_apart : (bytes : List ℕ) → AllDigits 10 bytes → All (λ b. b ≡ 35 → ⊥) bytes
digits_apart bytes all = All-weaker (IsInRange 48 57) (λ b. b ≡ 35 → ⊥) (λ b within same. omega arith) bytes (digits_in_range bytes all)

-- a spelling is a word
number_byte_visible : (b : ℕ) → IsInRange 48 57 b → (32 < b) × (b < 127)
number_byte_visible b range = (omega arith, omega arith)

pub number_word : (bytes : List ℕ) (n : ℕ) → IsNumber bytes n → IsWord bytes
number_word bytes n number =
    (number.not_empty, All-weaker (IsInRange 48 57) (λ b. (32 < b) × (b < 127)) number_byte_visible bytes (digits_in_range bytes number.digits))

host_byte_visible : (b : ℕ) → is_host_byte b ≡ true → (32 < b) × (b < 127)
host_byte_visible b good = grind (arith, nat_tests)

host_word : (host : List ℕ) → IsHost host → IsWord host
host_word host good =
    (good.not_empty, All-weaker (λ b. is_host_byte b ≡ true) (λ b. (32 < b) × (b < 127)) host_byte_visible host (AllPass-from_list_all is_host_byte host good.letters))

-- two words and a byte between them
joined_word : (prefix : List ℕ) (c : ℕ) (rest : List ℕ) → 32 < c → c < 127 → IsWord prefix → IsWord rest → IsWord (prefix ++ c ∷ rest)
joined_word prefix c rest low high first second =
    let visible : ℕ → Type 0 = λ b. (32 < b) × (b < 127) in
    (omega (arith, length-append prefix (c ∷ rest)), All-append visible prefix (c ∷ rest) first.1 (All-cons visible c rest (low, high) second.1))

pub address_word : (bytes : List ℕ) (a : AddressModel) → SpellsAddress bytes a → IsWord bytes
address_word bytes a spelt = rw spelt.whole (joined_word a.host 58 spelt.digits (omega arith) (omega arith) (host_word a.host spelt.range.host) (number_word spelt.digits a.port spelt.port))

pub unique_word : (bytes : List ℕ) (u : UniqueModel) → SpellsUnique bytes u → IsWord bytes
unique_word bytes u spelt = rw spelt.whole (joined_word spelt.prefix 35 spelt.digits (omega arith) (omega arith) (address_word spelt.prefix u.address spelt.address) (number_word spelt.digits u.uid spelt.uid))

-- what is printed is a spelling
pub number_text_spells : (n : ℕ) → n < 2 ^ 64 → IsNumber (decimal n) n
number_text_spells n fits =
    let numeral = decimal_is_IsNumeral n fits in
    record {
      not_empty = numeral.0.0;
      short = length-decimal-le 20 n (omega arith) (omega arith) fits;
      digits = numeral.0.1;
      value = numeral.1;
    }

pub address_text_spells : (a : AddressModel) → IsAddress a → SpellsAddress (address_text a) a
address_text_spells a range = record { range = range; digits = decimal a.port; port = number_text_spells a.port (omega arith); whole = refl }

pub unique_text_spells : (u : UniqueModel) → IsUnique u → SpellsUnique (unique_text u) u
unique_text_spells u range = record {
  range = range;
  prefix = address_text u.address;
  digits = decimal u.uid;
  address = address_text_spells u.address range.address;
  uid = number_text_spells u.uid (omega arith);
  whole = refl;
}

pub number_same : (bytes : List ℕ) (m n : ℕ) → IsNumber bytes m → IsNumber bytes n → m ≡ n
number_same bytes m n one two = sym one.value ∙ two.value

same_address_model : (a b : AddressModel) → a.host ≡ b.host → a.port ≡ b.port → a ≡ b
same_address_model a b hosts ports =
    ap (λ (h : List ℕ). record { host = h; port = a.port }) hosts ∙ ap (λ (n : ℕ). record { host = b.host; port = n }) ports

pub address_parts : (bytes : List ℕ) (a : AddressModel) → SpellsAddress bytes a → (before_byte 58 bytes ≡ a.host) × IsNumber (after_byte 58 bytes) a.port
address_parts bytes a spelt =
    let parts = parts_at 58 a.host spelt.digits (host_apart a.host 58 refl spelt.range.host) in
    rw (spelt.whole, parts.0, parts.1) (refl, spelt.port)

pub address_read : (bytes : List ℕ) (a : AddressModel) → a.host ≡ before_byte 58 bytes → ChecksPort (before_byte 58 bytes) (after_byte 58 bytes) (Ok a.port) → SpellsAddress bytes a
address_read bytes a host checked = record {
  range = record { host = rw host checked.0; port = checked.2; port_fits = checked.3 };
  digits = after_byte 58 bytes;
  port = checked.1;
  whole = rw host (whole_at 58 bytes checked.1.not_empty);
}

pub address_same : (bytes : List ℕ) (a b : AddressModel) → SpellsAddress bytes a → SpellsAddress bytes b → a ≡ b
address_same bytes a b one two =
    let first = address_parts bytes a one in
    let second = address_parts bytes b two in
    let hosts : a.host ≡ b.host = sym first.0 ∙ second.0 in
    let ports : a.port ≡ b.port = number_same (after_byte 58 bytes) a.port b.port first.1 second.1 in
    same_address_model a b hosts ports

pub unique_parts : (bytes : List ℕ) (u : UniqueModel) → SpellsUnique bytes u → (before_byte 58 bytes ≡ u.address.host) × IsNumber (before_byte 35 (after_byte 58 bytes)) u.address.port × IsNumber (after_byte 35 (after_byte 58 bytes)) u.uid
unique_parts bytes u spelt =
    let address = spelt.address in
    let host = u.address.host in
    let whole : bytes ≡ host ++ 58 ∷ (address.digits ++ 35 ∷ spelt.digits) = rw (spelt.whole, address.whole) (append_assoc host (58 ∷ address.digits) (35 ∷ spelt.digits)) in
    let outer = parts_at 58 host (address.digits ++ 35 ∷ spelt.digits) (host_apart host 58 refl address.range.host) in
    let inner = parts_at 35 address.digits spelt.digits (digits_apart address.digits address.port.digits) in
    rw (whole, outer.0, outer.1, inner.0, inner.1) (refl, address.port, spelt.uid)

pub unique_read : (bytes : List ℕ) (u : UniqueModel) → u.address.host ≡ before_byte 58 bytes → ChecksPort (before_byte 58 bytes) (before_byte 35 (after_byte 58 bytes)) (Ok u.address.port) → IsNumber (after_byte 35 (after_byte 58 bytes)) u.uid → 1 ≤ u.uid → u.uid < 2 ^ 63 → SpellsUnique bytes u
unique_read bytes u host checked uid low high =
    let range : IsAddress u.address = record { host = rw host checked.0; port = checked.2; port_fits = checked.3 } in
    let rest = after_byte 58 bytes in
    let inner : rest ≡ before_byte 35 rest ++ 35 ∷ after_byte 35 rest = whole_at 35 rest uid.not_empty in
    let outer : bytes ≡ before_byte 58 bytes ++ 58 ∷ rest = whole_at 58 bytes (omega (arith, ap length inner, length-append (before_byte 35 rest) (35 ∷ after_byte 35 rest))) in
    record {
      range = record { address = range; uid = low; uid_fits = high };
      prefix = u.address.host ++ 58 ∷ before_byte 35 rest;
      digits = after_byte 35 rest;
      address = record { range = range; digits = before_byte 35 rest; port = checked.1; whole = refl };
      uid = uid;
      whole = outer ∙ ap (λ tail. before_byte 58 bytes ++ 58 ∷ tail) inner ∙ sym (append_assoc (before_byte 58 bytes) (58 ∷ before_byte 35 rest) (35 ∷ after_byte 35 rest))
          ∙ ap (λ prefix. prefix ++ 58 ∷ before_byte 35 rest ++ 35 ∷ after_byte 35 rest) (sym host);
    }

pub unique_same : (bytes : List ℕ) (u v : UniqueModel) → SpellsUnique bytes u → SpellsUnique bytes v → u ≡ v
unique_same bytes u v one two =
    let first = unique_parts bytes u one in
    let second = unique_parts bytes v two in
    let hosts : u.address.host ≡ v.address.host = sym first.0 ∙ second.0 in
    let ports : u.address.port ≡ v.address.port = number_same (before_byte 35 (after_byte 58 bytes)) u.address.port v.address.port first.1 second.1 in
    let addresses : u.address ≡ v.address = same_address_model u.address v.address hosts ports in
    let uids : u.uid ≡ v.uid = number_same (after_byte 35 (after_byte 58 bytes)) u.uid v.uid first.2 second.2 in
    ap (λ (a : AddressModel). record { address = a; uid = u.uid }) addresses ∙ ap (λ (n : ℕ). record { address = v.address; uid = n }) uids

-- good parts are not refused
not_refused : {T : Type 0} (host port : List ℕ) (value : T) (fault : AddressFault) → ChecksPort host port (Err fault) → IsHost host → IsPort port → ReadsAs (Err fault) value
not_refused host port value BadHost checked good_host good_port = checked good_host
not_refused host port value BadPort checked good_host good_port = checked.1 good_port
not_refused host port value BadUid checked good_host good_port = checked
not_refused host port value (NoMemory _) checked good_host good_port = tt

pub address_not_refused : (bytes host port : List ℕ) (a : AddressModel) (fault : AddressFault) → host ≡ before_byte 58 bytes → port ≡ after_byte 58 bytes → ChecksPort host port (Err fault) → SpellsAddress bytes a → ReadsAs (Err fault) a
address_not_refused bytes host port a fault host_is port_is checked spelt =
    let parts = address_parts bytes a spelt in
    not_refused host port a fault checked (rw (host_is, parts.0) spelt.range.host) (a.port, rw port_is parts.1, spelt.range.port, spelt.range.port_fits)

pub unique_not_refused : (bytes host port : List ℕ) (u : UniqueModel) (fault : AddressFault) → host ≡ before_byte 58 bytes → port ≡ before_byte 35 (after_byte 58 bytes) → ChecksPort host port (Err fault) → SpellsUnique bytes u → ReadsAs (Err fault) u
unique_not_refused bytes host port u fault host_is port_is checked spelt =
    let parts = unique_parts bytes u spelt in
    let range = spelt.range.address in
    not_refused host port u fault checked (rw (host_is, parts.0) range.host) (u.address.port, rw port_is parts.1, range.port, range.port_fits)

-- ---- whether bytes spell a value at all
pub address_test : (bytes host port : List ℕ) (r : Result ℕ AddressFault) → host ≡ before_byte 58 bytes → port ≡ after_byte 58 bytes → ChecksPort host port r → IsTrue (is_ok r) ↔ SomeAddress bytes
address_test bytes host port (Ok n) host_is port_is checked =
    let here : ChecksPort (before_byte 58 bytes) (after_byte 58 bytes) (Ok n) = rw (host_is, port_is) at checked in
    (λ _. (record { host = before_byte 58 bytes; port = n }, address_read bytes (record { host = before_byte 58 bytes; port = n }) refl here), λ _. refl)
address_test bytes host port (Err BadHost) host_is port_is checked = (λ is. absurd (false≢true is), λ s. absurd (address_not_refused bytes host port s.0 BadHost host_is port_is checked s.1))
address_test bytes host port (Err BadPort) host_is port_is checked = (λ is. absurd (false≢true is), λ s. absurd (address_not_refused bytes host port s.0 BadPort host_is port_is checked s.1))
address_test bytes host port (Err BadUid) host_is port_is checked = absurd checked
address_test bytes host port (Err (NoMemory _)) host_is port_is checked = absurd checked

-- the port of bytes that spell a unique is good
pub unique_port : (bytes host port : List ℕ) (r : Result ℕ AddressFault) → host ≡ before_byte 58 bytes → port ≡ before_byte 35 (after_byte 58 bytes) → ChecksPort host port r → SomeUnique bytes → IsTrue (is_ok r)
unique_port bytes host port (Ok n) host_is port_is checked s = refl
unique_port bytes host port (Err BadHost) host_is port_is checked s = absurd (unique_not_refused bytes host port s.0 BadHost host_is port_is checked s.1)
unique_port bytes host port (Err BadPort) host_is port_is checked s = absurd (unique_not_refused bytes host port s.0 BadPort host_is port_is checked s.1)
unique_port bytes host port (Err BadUid) host_is port_is checked s = absurd checked
unique_port bytes host port (Err (NoMemory _)) host_is port_is checked s = absurd checked

-- and with a good port it is the uid that decides
pub unique_test : (bytes host port uid : List ℕ) (r : Result ℕ AddressFault) (o : Option ℕ) → host ≡ before_byte 58 bytes → port ≡ before_byte 35 (after_byte 58 bytes) → uid ≡ after_byte 35 (after_byte 58 bytes)
    → ChecksPort host port r → IsTrue (is_ok r) → IfSome o (λ n. IsNumber uid n × (1 ≤ n) × (n ≤ 9223372036854775807)) → IfNone o ((n : ℕ) → IsNumber uid n → 1 ≤ n → n ≤ 9223372036854775807 → ⊥)
    → IsTrue (is_some o) ↔ SomeUnique bytes
unique_test bytes host port uid (Err e) o host_is port_is uid_is checked good found none = absurd (false≢true good)
unique_test bytes host port uid (Ok p) (Some n) host_is port_is uid_is checked good found none =
    let here : ChecksPort (before_byte 58 bytes) (before_byte 35 (after_byte 58 bytes)) (Ok p) = rw (host_is, port_is) at checked in
    let number : IsNumber (after_byte 35 (after_byte 58 bytes)) n = rw uid_is at found.0 in
    (λ _. (record { address = record { host = before_byte 58 bytes; port = p }; uid = n }, unique_read bytes (record { address = record { host = before_byte 58 bytes; port = p }; uid = n }) refl here number found.1 (omega (arith, found.2))), λ _. refl)
unique_test bytes host port uid (Ok p) None host_is port_is uid_is checked good found none = (
  λ is. absurd (false≢true is),
  λ s. absurd (none s.0.uid (rw uid_is (unique_parts bytes s.0 s.1).2) s.1.range.uid (omega (arith, s.1.range.uid_fits))),
)
