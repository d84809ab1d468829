-- Who is chosen runs, and what is true of a world after generated events.
use Rattle.std.proofs.Common.{◌≡◌, ◌≢◌, ℕ, zero, suc, ◌+◌, ◌-◌, ◌<◌, ◌≤◌, ◌*◌, ◌%◌, ◌/◌, ◌^◌, ◌++◌, decimal, ltb, Bool, true, false, ◌&&◌, IsTrue, [], ◌∷◌, slice_get, Contains, Some, refl, sym, ap, ◌∙◌, subst, arith, true≢false}
use Rattle.std.specs.FinMap as finmap
use Rattle.std.specs.Ordering.{is_eq}
use Rattle.std.specs.Cmp.{tied_itself}
use Rattle.std.proofs.Math.Nat.{mod-lt, div-le_self}
use Rattle.std.proofs.lemmas.Nat.{or_lt}
use Rattle.std.proofs.lemmas.Fmt.{decimal_digit, decimal_step}
use Rattle.std.proofs.lemmas.Bool.{ltb-true, ltb-false}
use Rattle.std.proofs.lemmas.Bool.Decides.{nat_tests}
use Rattle.std.specs.Prelude.{bit_xor}
use Rattle.std.specs.Int.{w32, rotate_right}
use Rattle.ak_address.specs.Unique.{AddressModel, UniqueModel, IsUnique, address_cmp}
use Rattle.ak_address.specs.Uniques.{UniqueSet, has, in_order, how_many}
use Rattle.ak_address.proofs.CountersLaws.{is_among, contained}
use Rattle.ak_address.proofs.Elements.{contains_at, any_there}
use Rattle.ak_address.proofs.OrderLemmas.{address_total}
use Rattle.ak_address.proofs.UniquesLaws.{length-in_order}
use Rattle.ak_field.specs.Ranges.{IsEntity}
use Rattle.ak_settings.specs.Settings.{is_entity_in}
use Rattle.ak_shard_id.specs.Division.{is_entity_byte}
use Rattle.rand_pcg.specs.Lcg.{Lcg}
use Rattle.ak_generate.specs.Words.{drawn, moved, words_of}
use Rattle.ak_generate.specs.Fixed.{address, addresses, fixed, process}
use Rattle.ak_generate.specs.Generated.{chosen, is_at, is_in_use}
use Rattle.ak_generate.proofs.GenerateLemmas.{address_is_one, number_at, number_of}

-- ---- who is chosen
pub chosen_runs : (word : ℕ) (s : UniqueSet) (who : UniqueModel) → chosen word s ≡ Some who → IsTrue (has s who)
chosen_runs word s who is = finmap.contains_key-keys s who ∙ is_among (in_order s) who (contains_at (in_order s) (word % how_many s) who is)

pub runs_in_order : (s : UniqueSet) (who : UniqueModel) → IsTrue (has s who) → Contains (in_order s) who
runs_in_order s who runs = contained (in_order s) who (sym (finmap.contains_key-keys s who) ∙ runs)

-- ---- addresses
address_itself : (a : AddressModel) → is_eq (address_cmp a a) ≡ true
address_itself a = ap is_eq (tied_itself address_total a)

-- where an address is not in use nobody runs at it
pub nobody_there : (at : AddressModel) (s : UniqueSet) → is_in_use at s ≡ false → (other : UniqueModel) → IsTrue (has s other) → other.address ≢ at
nobody_there at s free other runs same =
    true≢false (sym (any_there (λ who. is_at at (Some who)) (in_order s) other (runs_in_order s other runs) (ap (λ a. is_eq (address_cmp a at)) same ∙ address_itself at)) ∙ free)

-- where nobody runs nobody is anywhere
pub nobody_runs : (s : UniqueSet) → how_many s ≡ 0 → (other : UniqueModel) → IsTrue (has s other) → ⊥
nobody_runs s none other runs =
    let there = runs_in_order s other runs in
    let lt = there.1 in
    let same = length-in_order s in omega arith

listed_index : (k : ℕ) → k < 5 → slice_get addresses k ≡ Some (address (k + 1))
listed_index zero lt = refl
listed_index (suc zero) lt = refl
listed_index (suc (suc zero)) lt = refl
listed_index (suc (suc (suc zero))) lt = refl
listed_index (suc (suc (suc (suc zero)))) lt = refl
listed_index (suc (suc (suc (suc (suc k))))) lt = absurd (omega arith)

pub is_listed : (k : ℕ) → k < 5 → Contains addresses (address (k + 1))
is_listed k lt = contains_at addresses k (address (k + 1)) (listed_index k lt)

-- different numbers have different addresses
pub apart : (i j : ℕ) → i < 9 → j < 9 → address (i + 1) ≡ address (j + 1) → i ≡ j
apart i j at to same =
    let at_i = number_of (i + 1) (omega arith) in
    let at_j = number_of (j + 1) (omega arith) in
    let both = ap number_at same in omega arith

pub process_is_one : (k uid : ℕ) → k < 5 → 1 ≤ uid → uid ≤ 65 → IsUnique (process (k + 1) uid)
process_is_one k uid lt from to = record { address = address_is_one (k + 1) (omega arith); uid = from; uid_fits = omega arith }

-- ---- entities
two_digits : (n : ℕ) → 10 ≤ n → n < 20 → decimal n ≡ (48 + n / 10) ∷ (48 + n % 10) ∷ []
two_digits n from to = decimal_step n from (omega arith) ∙ ap (λ digits. digits ++ ((48 + n % 10) ∷ [])) (decimal_digit (n / 10) (omega arith))

printable : (b : ℕ) → 33 ≤ b → b ≤ 126 → is_entity_byte b ≡ true
printable b from to = grind (arith, nat_tests)

both_printable : {a b : Bool} → a ≡ true → b ≡ true → (a && b) ≡ true
both_printable {a} {b} first second = ap (λ x. x && b) first ∙ second

named_by_one : (d : ℕ) → d < 10 → IsEntity (101 ∷ (48 + d) ∷ [])
named_by_one d lt = record {
  not_empty = omega arith;
  short = omega arith;
  printable = both_printable (printable 101 (omega arith) (omega arith)) (both_printable (printable (48 + d) (omega arith) (omega arith)) refl);
}

named_by_two : (d e : ℕ) → d < 10 → e < 10 → IsEntity (101 ∷ (48 + d) ∷ (48 + e) ∷ [])
named_by_two d e first second = record {
  not_empty = omega arith;
  short = omega arith;
  printable = both_printable (printable 101 (omega arith) (omega arith)) (both_printable (printable (48 + d) (omega arith) (omega arith)) (both_printable (printable (48 + e) (omega arith) (omega arith)) refl));
}

pub entity_is_one : (n : ℕ) → n < 20 → IsEntity (101 ∷ decimal n)
entity_is_one n lt = elim (ltb n 10) as (λ b. ltb n 10 ≡ b → IsEntity (101 ∷ decimal n)) [
  | true ↦ λ one. let less = ltb-true n 10 one in subst (λ digits. IsEntity (101 ∷ digits)) (sym (decimal_digit n less)) (named_by_one n less)
  | false ↦ λ two. let more = ltb-false n 10 two in subst (λ digits. IsEntity (101 ∷ digits)) (sym (two_digits n more lt)) (named_by_two (n / 10) (n % 10) (omega arith) (omega arith))
] refl

-- without types it is an id
pub entity_is_fixed : (n : ℕ) → n < 20 → IsTrue (is_entity_in fixed (101 ∷ decimal n))
entity_is_fixed n lt = elim (ltb n 10) as (λ b. ltb n 10 ≡ b → IsTrue (is_entity_in fixed (101 ∷ decimal n))) [
  | true ↦ λ one. let less = ltb-true n 10 one in subst (λ digits. IsTrue (is_entity_in fixed (101 ∷ digits))) (sym (decimal_digit n less)) (named_by_one n less).printable
  | false ↦ λ two. let more = ltb-false n 10 two in subst (λ digits. IsTrue (is_entity_in fixed (101 ∷ digits))) (sym (two_digits n more lt)) (named_by_two (n / 10) (n % 10) (omega arith) (omega arith)).printable
] refl

-- ---- words
rotated_below : (x by : ℕ) → x < 2 ^ 32 → rotate_right w32 x by < 2 ^ 32
rotated_below x by lt =
    or_lt 32 (x / 2 ^ (by % 32)) (x * 2 ^ ((32 - by % 32) % 32) % 2 ^ 32)
    (let le = div-le_self x (2 ^ (by % 32)) in omega arith)
    (mod-lt (x * 2 ^ ((32 - by % 32) % 32)) {m = 2 ^ 32} (omega arith))

pub word_below : (g : Lcg) (n : ℕ) → words_of g n < 2 ^ 32
unfolding drawn
word_below g n =
    let shifted = bit_xor ((moved n g).state / 2 ^ 18) (moved n g).state / 2 ^ 27 in
    rotated_below (shifted % 2 ^ 32) ((moved n g).state / 2 ^ 59) (mod-lt shifted {m = 2 ^ 32} (omega arith))
