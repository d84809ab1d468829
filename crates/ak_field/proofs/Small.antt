-- Bytes and numbers are read as they are spelled.
use Rattle.std.proofs.Common.{◌≡◌, ℕ, zero, ◌^◌, ◌<◌, ◌≤◌, Bool, true, false, ltb, List, [], ◌∷◌, ◌++◌, length, take, drop, if◌then◌else◌, Ok, Err, refl, sym, subst, arith}
use Rattle.std.specs.Int.{Width, w16, w64, byte_len, from_be_bytes, to_be_bytes}
use Rattle.std.proofs.lemmas.Bool.{ltb-false, le-ltb}
use Rattle.std.proofs.lemmas.List.{take_at, drop_at, take-append-drop, length-append, length-take}
use Rattle.std.proofs.lemmas.Nat.{be_bytes_2, be_bytes_8, from_be_bytes-to_be_bytes_2, from_be_bytes-to_be_bytes_8}
use Rattle.ak_field.specs.declared.fault.WireFault.{WireFault}
use Rattle.ak_field.specs.declared.fault.WireFault.TheVariants.{Short}
use Rattle.ak_field.specs.Reading.{bytes_at, byte_at, wide_at}
use Rattle.ak_field.specs.Spelling.{byte}
use Rattle.ak_field.specs.Laws.{IsBytes, IsField}
use Rattle.ak_field.proofs.Combined.{ok_is, made_field}

guard_long : {A : Type 0} (b : Bool) (x y : A) (own : WireFault) → (if b then Err own else Ok x) ≡ Ok y → (b ≡ false) × (x ≡ y)
guard_long true x y own e = absurd cc
guard_long false x y own e = (refl, cc)

pub bytes_field : (n : ℕ) → IsField (bytes_at n) (λ bytes. bytes) (λ bytes. length bytes ≡ n)
unfolding bytes_at
bytes_field n = record {
  again = λ bytes rest len.
      let long : ltb (length (bytes ++ rest)) n ≡ false = le-ltb _ _ (omega (arith, length-append bytes rest)) in
      rw (long, take_at bytes rest n len, drop_at bytes rest n len) refl;
  was = λ bytes x rest fits e.
      let g = guard_long (ltb (length bytes) n) (take n bytes, drop n bytes) (x, rest) Short e in
      let long : n ≤ length bytes = ltb-false _ _ g.0 in
      subst (λ (p : List ℕ × List ℕ). (bytes ≡ p.0 ++ p.1) × (length p.0 ≡ n)) g.1 (sym (take-append-drop n bytes), omega (arith, length-take n bytes));
}

byte_was : (bytes : List ℕ) (x : ℕ) (rest : List ℕ) → IsBytes bytes → byte_at bytes ≡ Ok (x, rest) → (bytes ≡ byte x ++ rest) × (x < 256)
unfolding byte_at
byte_was [] x rest fits e = absurd cc
byte_was (b ∷ bytes) x rest fits e =
    let same : (b, bytes) ≡ (x, rest) = ok_is (b, bytes) (x, rest) e in
    subst (λ (p : ℕ × List ℕ). (b ∷ bytes ≡ byte p.0 ++ p.1) × (p.0 < 256)) same (refl, fits zero)

pub byte_field : IsField byte_at byte (λ n. n < 256)
unfolding byte_at
byte_field = record { again = λ n rest valid. refl; was = byte_was }

-- ---- numbers of more bytes
pub record IsWide (w : Width) (limit : ℕ) : Type 0 where
  pub len : (n : ℕ) → length (to_be_bytes w n) ≡ byte_len w
  pub back : (bytes : List ℕ) → length bytes ≡ byte_len w → IsBytes bytes → to_be_bytes w (from_be_bytes w bytes) ≡ bytes
  pub again : (n : ℕ) → n < limit → from_be_bytes w (to_be_bytes w n) ≡ n
  pub below : (bytes : List ℕ) → IsBytes bytes → from_be_bytes w bytes < limit

pub wide16 : IsWide w16 (2 ^ 16)
wide16 = record {
  len = λ n. refl;
  back = λ bytes len fits. be_bytes_2 bytes _ len fits refl;
  again = λ n lt. from_be_bytes-to_be_bytes_2 n lt;
  below = λ bytes fits. omega (arith, fits 0, fits 1);
}

pub wide64 : IsWide w64 (2 ^ 64)
wide64 = record {
  len = λ n. refl;
  back = λ bytes len fits. be_bytes_8 bytes _ len fits refl;
  again = λ n lt. from_be_bytes-to_be_bytes_8 n lt;
  below = λ bytes fits. omega (arith, fits 0, fits 1, fits 2, fits 3, fits 4, fits 5, fits 6, fits 7);
}

pub wide_field : (w : Width) (limit : ℕ) → IsWide w limit → IsField (wide_at w) (to_be_bytes w) (λ n. n < limit)
unfolding wide_at
wide_field w limit wide =
    made_field (bytes_at (byte_len w)) (λ bytes. bytes) (λ bytes. length bytes ≡ byte_len w) (from_be_bytes w) (to_be_bytes w) (λ n. n < limit) (bytes_field (byte_len w))
    (λ n lt. (wide.len n, wide.again n lt))
    (λ bytes len fits. (wide.back bytes len fits, wide.below bytes fits))
