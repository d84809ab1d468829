-- The address that a text spells by its parts is the one that it spells.
use Rattle.std.proofs.Common.{◌≡◌, ℕ, ◌^◌, ◌<◌, ◌≤◌, Bool, true, false, ◌&&◌, List, [], ◌∷◌, length, Some, None, refl, sym, ◌∙◌, ap, subst, arith, inl, inr}
use Rattle.std.specs.Prelude.{nat_le, nat_lt, if◌then◌else◌}
use Rattle.std.proofs.lemmas.Bool.{and_parts, cases_Bool, and_from}
use Rattle.std.proofs.lemmas.Bool.Decides.{nat_tests}
use Rattle.std.proofs.lemmas.Option.{same_Some}
use Rattle.std.specs.List.{list_all}
use Rattle.std.specs.Char.{digit_value}
use Rattle.std.specs.Str.Parse.{AllDigits, digits_value}
use Rattle.ak_address.specs.Unique.{AddressModel, IsHost, is_host_byte}
use Rattle.ak_address.specs.Spelling.{IsNumber, IsPort, SpellsAddress, before_byte, after_byte}
use Rattle.ak_address.proofs.SpellingLemmas.{address_parts, address_read}
use Rattle.ak_config.specs.Address.{is_host, is_port, spelled_address}

le_from : (m n : ℕ) → nat_le m n ≡ true → m ≤ n
le_from m n h = grind (arith, nat_tests)

le_passes : (m n : ℕ) → m ≤ n → nat_le m n ≡ true
le_passes m n h = grind (arith, nat_tests)

lt_from : (m n : ℕ) → nat_lt m n ≡ true → m < n
lt_from m n h = grind (arith, nat_tests)

lt_passes : (m n : ℕ) → m < n → nat_lt m n ≡ true
lt_passes m n h = grind (arith, nat_tests)

host_passes : (bytes : List ℕ) → IsHost bytes → is_host bytes ≡ true
unfolding is_host
host_passes bytes h =
    and_from _ _ (le_passes 1 (length bytes) h.not_empty) (and_from _ _ (le_passes (length bytes) 64 h.short) h.letters)

host_from : (bytes : List ℕ) → is_host bytes ≡ true → IsHost bytes
unfolding is_host
host_from bytes h =
    let letters = list_all is_host_byte bytes in
    let (first, more) = and_parts (nat_le 1 (length bytes)) (nat_le (length bytes) 64 && letters) h in
    let (second, third) = and_parts (nat_le (length bytes) 64) letters more in
    record { not_empty = le_from 1 (length bytes) first; short = le_from (length bytes) 64 second; letters = third }

abbrev are_digits : List ℕ → Bool
are_digits digits = list_all (λ c. nat_lt (digit_value c) 10) digits

digits_pass : (ds : List ℕ) → AllDigits 10 ds → are_digits ds ≡ true
digits_pass [] h = refl
digits_pass (d ∷ ds) h = and_from _ _ (lt_passes (digit_value d) 10 h.0) (digits_pass ds h.1)

digits_from : (ds : List ℕ) → are_digits ds ≡ true → AllDigits 10 ds
digits_from [] h = tt
digits_from (d ∷ ds) h =
    let (here, more) = and_parts (nat_lt (digit_value d) 10) (are_digits ds) h in
    (lt_from (digit_value d) 10 here, digits_from ds more)

port_range : (n value : ℕ) → value ≡ n → 1 ≤ n → n < 2 ^ 16 → (nat_le 1 value && nat_lt value (2 ^ 16)) ≡ true
port_range n value is least most = and_from _ _ (le_passes 1 value (rw is least)) (lt_passes value (2 ^ 16) (rw is most))

port_passes : (digits : List ℕ) (n : ℕ) → IsNumber digits n → 1 ≤ n → n < 2 ^ 16 → is_port digits ≡ true
unfolding is_port
port_passes digits n number least most =
    and_from _ _ (le_passes 1 (length digits) number.not_empty) (and_from _ _ (le_passes (length digits) 20 number.short) (and_from _ _ (digits_pass digits number.digits) (port_range n (digits_value 10 digits) number.value least most)))

port_from : (digits : List ℕ) → is_port digits ≡ true → IsPort digits
unfolding is_port
port_from digits h =
    let value = digits_value 10 digits in
    let range = nat_le 1 value && nat_lt value (2 ^ 16) in
    let (first, more) = and_parts (nat_le 1 (length digits)) (nat_le (length digits) 20 && (are_digits digits && range)) h in
    let (second, rest) = and_parts (nat_le (length digits) 20) (are_digits digits && range) more in
    let (third, last) = and_parts (are_digits digits) range rest in
    let (fourth, fifth) = and_parts (nat_le 1 value) (nat_lt value (2 ^ 16)) last in
    let number : IsNumber digits (digits_value 10 digits) = record { not_empty = le_from 1 (length digits) first; short = le_from (length digits) 20 second; digits = digits_from digits third; value = refl } in
    (value, number, le_from 1 value fourth, lt_from value (2 ^ 16) fifth)

-- what is spelled is found
pub found_spelled : (bytes : List ℕ) (a : AddressModel) → SpellsAddress bytes a → spelled_address bytes ≡ Some a
unfolding spelled_address
found_spelled bytes a spelt =
    let (host, port) = address_parts bytes a spelt in
    let good_host : is_host (before_byte 58 bytes) ≡ true = host_passes _ (rw host spelt.range.host) in
    let good_port : is_port (after_byte 58 bytes) ≡ true = port_passes _ a.port port spelt.range.port spelt.range.port_fits in
    rw (good_host, good_port, host, port.value) refl

-- without a host, or a port, nothing is found
pub no_host : (bytes : List ℕ) → ¬ IsHost (before_byte 58 bytes) → spelled_address bytes ≡ None
unfolding spelled_address
no_host bytes bad =
    elim (cases_Bool (is_host (before_byte 58 bytes))) [
      | inl good ↦ absurd (bad (host_from _ good))
      | inr is ↦ rw is refl
    ]

pub no_port : (bytes : List ℕ) → IsHost (before_byte 58 bytes) → ¬ IsPort (after_byte 58 bytes) → spelled_address bytes ≡ None
unfolding spelled_address
no_port bytes host bad =
    elim (cases_Bool (is_port (after_byte 58 bytes))) [
      | inl good ↦ absurd (bad (port_from _ good))
      | inr is ↦ rw (host_passes _ host, is) refl
    ]

parts_spell : (bytes : List ℕ) (a : AddressModel) (good : Bool) → good ≡ true → (if good then Some (record { host = before_byte 58 bytes; port = digits_value 10 (after_byte 58 bytes) }) else None) ≡ Some a
    → (a.host ≡ before_byte 58 bytes) × (a.port ≡ digits_value 10 (after_byte 58 bytes))
parts_spell bytes a good is found =
    let same : a ≡ record { host = before_byte 58 bytes; port = digits_value 10 (after_byte 58 bytes) } = sym (same_Some _ _ (rw is at found)) in
    (ap (λ (x : AddressModel). x.host) same, ap (λ (x : AddressModel). x.port) same)

-- what is found is spelled
pub spelled_found : (bytes : List ℕ) (a : AddressModel) → spelled_address bytes ≡ Some a → SpellsAddress bytes a
unfolding spelled_address
spelled_found bytes a found =
    elim (cases_Bool (is_host (before_byte 58 bytes) && is_port (after_byte 58 bytes))) [
      | inl good ↦
          let (host, port) = and_parts (is_host (before_byte 58 bytes)) (is_port (after_byte 58 bytes)) good in
          let parts = parts_spell bytes a (is_host (before_byte 58 bytes) && is_port (after_byte 58 bytes)) good found in
          let (n, number, least, most) = port_from (after_byte 58 bytes) port in
          let same : n ≡ a.port = sym number.value ∙ sym parts.1 in
          address_read bytes a parts.0 (host_from (before_byte 58 bytes) host, subst (IsNumber (after_byte 58 bytes)) same number, rw same at least, rw same at most)
      | inr bad ↦ absurd (none_found _ _ bad found)
    ]
  where
    none_found : (good : Bool) (a : AddressModel) → good ≡ false → (if good then Some (record { host = before_byte 58 bytes; port = digits_value 10 (after_byte 58 bytes) }) else None) ≡ Some a → ⊥
    none_found good a is found = let e : None ≡ Some a = rw is at found in cc
