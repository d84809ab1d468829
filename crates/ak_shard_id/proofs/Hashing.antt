-- One more byte of a hash that is taken from the left.
use Rattle.std.proofs.Common.{◌≡◌, ℕ, ◌+◌, ◌*◌, ◌%◌, ◌^◌, ◌<◌, List, [], ◌∷◌, ◌++◌, length, length-append, drop, drop-cons, get_or, sym, ap, ◌∙◌, add-one, arith}
use Rattle.std.proofs.Math.Nat.{mod-add-mod, mul_assoc, pow-succ'}
use Rattle.std.proofs.lemmas.Nat.{mul-mod_first}
use Rattle.ak_shard_id.specs.Shard.{weighted}

-- a factor may be cut to its rest before the product and the sum are
through : (x p w m : ℕ) → (x % m * p + w) % m ≡ (x * p + w) % m
through x p w m =
    sym (mod-add-mod (x % m * p) m w)
    ∙ ap (λ r. (r + w) % m) (mul-mod_first x p m)
    ∙ mod-add-mod (x * p) m w

pub next_byte : (hash byte m : ℕ) (rest : List ℕ) → ((hash * 31 % m + byte) % m * 31 ^ length rest + weighted rest) % m ≡ (hash * 31 ^ length (byte ∷ rest) + weighted (byte ∷ rest)) % m
next_byte hash byte m rest =
    let p = 31 ^ length rest in
    let w = weighted rest in
    through (hash * 31 % m + byte) p w m
    ∙ ap (λ n. n % m) (let e : (hash * 31 % m + byte) * p + w ≡ hash * 31 % m * p + (byte * p + w) = grind arith in e)
    ∙ through (hash * 31) p (byte * p + w) m
    ∙ ap (λ n. (n + (byte * p + w)) % m) (mul_assoc hash 31 p ∙ ap (λ n. hash * n) (sym (pow-succ' 31 (length rest))))

-- the same where the bytes that are left are those of a list from an index on
pub next_left : (hash byte i m : ℕ) (bytes : List ℕ) → byte ≡ get_or bytes i 0 → i < length bytes
    → ((hash * 31 % m + byte) % m * 31 ^ length (drop (i + 1) bytes) + weighted (drop (i + 1) bytes)) % m ≡ (hash * 31 ^ length (drop i bytes) + weighted (drop i bytes)) % m
next_left hash byte i m bytes is within =
    next_byte hash byte m (drop (i + 1) bytes)
    ∙ ap (λ xs. (hash * 31 ^ length xs + weighted xs) % m) (ap (λ b. b ∷ drop (i + 1) bytes) is ∙ ap (λ n. get_or bytes i 0 ∷ drop n bytes) (add-one i) ∙ sym (drop-cons bytes i 0 within))

-- a byte after the others counts once, and the others 31 times as much
pub byte_after : (bytes : List ℕ) (byte : ℕ) → weighted (bytes ++ byte ∷ []) ≡ 31 * weighted bytes + byte
byte_after [] byte = grind arith
byte_after (b ∷ bytes) byte =
    let p = 31 ^ length bytes in
    let one = ap (λ n. b * n) (ap (λ n. 31 ^ n) (length-append bytes (byte ∷ []) ∙ add-one (length bytes)) ∙ pow-succ' 31 (length bytes)) in
    let rest = byte_after bytes byte in
    let e : b * (31 * p) + (31 * weighted bytes + byte) ≡ 31 * (b * p + weighted bytes) + byte = grind arith in
    ap (λ n. n + weighted (bytes ++ byte ∷ [])) one ∙ ap (λ n. b * (31 * p) + n) rest ∙ e
