-- Which bytes are digits, and where the parts of a spelling stand.
use Rattle.std.proofs.Common.{◌≡◌, ℕ, ◌+◌, ◌-◌, ◌*◌, ◌<◌, ◌≤◌, eqb, List, length, take, get_or, sym, arith}
use Rattle.std.specs.List.{position_or_len}
use Rattle.std.specs.Str.Parse.{AllDigits, digits_value}
use Rattle.std.proofs.lemmas.Bool.{ne_eqb}
use Rattle.std.proofs.Common.{eq-eqb}
use Rattle.std.proofs.lemmas.List.Sums.{position_or_len_is}
use Rattle.std.proofs.lemmas.Str.{digit_value_digit}
use Rattle.std.proofs.lemmas.Str.Parse.{digits_value-take-le}
use Rattle.std.proofs.lemmas.Int.Digits.{digits_value_more, digits_more}

-- one more digit
pub one_more : (bytes : List ℕ) (i : ℕ) → i < length bytes → AllDigits 10 (take i bytes) → 48 ≤ get_or bytes i 0 → get_or bytes i 0 ≤ 57 → AllDigits 10 (take (i + 1) bytes) × (digits_value 10 (take (i + 1) bytes) ≡ digits_value 10 (take i bytes) * 10 + (get_or bytes i 0 - 48))
one_more bytes i within all low high =
    let worth = digit_value_digit (get_or bytes i 0) (low, high) in
    (digits_more 10 bytes i within all (omega arith), omega (arith, digits_value_more 10 bytes i within))

-- where the digits up to one are worth too much, all are
pub worth_grows : (bytes : List ℕ) (i : ℕ) → i < length bytes → 48 ≤ get_or bytes i 0 → get_or bytes i 0 ≤ 57 → digits_value 10 (take i bytes) * 10 + (get_or bytes i 0 - 48) ≤ digits_value 10 bytes
worth_grows bytes i within low high =
    let worth = digit_value_digit (get_or bytes i 0) (low, high) in
    omega (arith, digits_value_more 10 bytes i within, digits_value-take-le 10 bytes (i + 1) (omega arith))

-- the first index of a byte, or the length
pub index_is : (bytes : List ℕ) (c i : ℕ) → i ≤ length bytes → ((k : ℕ) → k < i → get_or bytes k 0 ≡ c → ⊥) → (i < length bytes → get_or bytes i 0 ≡ c) → i ≡ position_or_len (λ b. eqb b c) bytes
index_is bytes c i within before here =
    sym (position_or_len_is (λ b. eqb b c) bytes i 0 within (λ k below. ne_eqb (get_or bytes k 0) c (before k below)) (λ below. eq-eqb (get_or bytes i 0) c (here below)))
