-- Keys are equal exactly where the addresses and processes are.
use Rattle.std.proofs.Common.{◌≡◌, ◌↔◌, ℕ, Bool, true, false, List, [], ◌∷◌, IsTrue, nat_eq, refl, sym, ap}
use Rattle.std.specs.Cmp.Lexicographic.{pointwise, bytes_decides}
use Rattle.ak_address.specs.Keys.{address_key, unique_key}
use Rattle.ak_address.specs.Unique.{AddressModel, UniqueModel}

abbrev head_or : ℕ → List ℕ → ℕ
head_or n [] = n
head_or n (m ∷ ns) = m

abbrev tail : List ℕ → List ℕ
tail [] = []
tail (n ∷ ns) = ns

abbrev address_of : List ℕ → AddressModel
address_of key = record { host = tail key; port = head_or 0 key }

both_so : (a b : Bool) → (IsTrue a → IsTrue b) → (IsTrue b → IsTrue a) → a ≡ b
both_so true true _ _ = refl
both_so true false f _ = sym (f refl)
both_so false true _ g = g refl
both_so false false _ _ = refl

pub address_keys : (a b : AddressModel) (same : Bool) → (IsTrue same ↔ a ≡ b) → same ≡ pointwise nat_eq (address_key a) (address_key b)
address_keys a b same means =
    both_so same (pointwise nat_eq (address_key a) (address_key b))
    (λ e. (bytes_decides (address_key a) (address_key b)).1 (ap address_key (means.0 e)))
    (λ e. means.1 (ap address_of ((bytes_decides (address_key a) (address_key b)).0 e)))

pub unique_keys : (u v : UniqueModel) (same : Bool) → (IsTrue same ↔ u ≡ v) → same ≡ pointwise nat_eq (unique_key u) (unique_key v)
unique_keys u v same means =
    both_so same (pointwise nat_eq (unique_key u) (unique_key v))
    (λ e. (bytes_decides (unique_key u) (unique_key v)).1 (ap unique_key (means.0 e)))
    (λ e. means.1 (ap (λ key. record { address = address_of (tail key); uid = head_or 0 key }) ((bytes_decides (unique_key u) (unique_key v)).0 e)))
