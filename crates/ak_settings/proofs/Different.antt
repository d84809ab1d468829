-- Addresses, or texts, of which none stands twice.
use Rattle.std.proofs.Common.{◌≡◌, ◌≢◌, Bool, true, false, not, ◌&&◌, suc, List, [], ◌∷◌, sym, subst, arith, refl}
use Rattle.std.proofs.lemmas.Bool.{and_parts, false≢true}
use Rattle.std.proofs.lemmas.List.Kept.{AllPairs-cons}
use Rattle.std.proofs.lemmas.List.Elements.{Contains-get_or}
use Rattle.std.specs.Prelude.{◌↔◌, IsTrue}
use Rattle.std.specs.List.{AllPairs, Contains}
use Rattle.ak_address.specs.Unique.{AddressModel}
use Rattle.ak_settings.specs.Settings.{all_different, is_listed}
use Rattle.ak_address.proofs.AmongLaws.{among_means}

not_true : (b : Bool) → not b ≡ true → b ≡ true → ⊥
not_true true n t = false≢true n
not_true false n t = false≢true t

not_false : (b : Bool) → (b ≡ true → ⊥) → not b ≡ true
not_false true none = absurd (none refl)
not_false false none = refl

-- one element more: it is not among the others, which are different
module _ {X : Type 0} (among : List X → X → Bool) (means : (xs : List X) (x : X) → IsTrue (among xs x) ↔ Contains xs x) where
  pub pairs_more : (x : X) (xs : List X) (b : Bool) → (b ≡ true → AllPairs (λ y z. y ≢ z) xs) → (not (among xs x) && b) ≡ true → AllPairs (λ y z. y ≢ z) (x ∷ xs)
  pairs_more x xs b rest is =
      let (here, more) = and_parts (not (among xs x)) b is in
      AllPairs-cons (λ y z. y ≢ z) x xs (λ k d within same. not_true (among xs x) here ((means xs x).1 (subst (Contains xs) (sym same) (Contains-get_or xs k d within)))) (rest more)

  pub more_pairs : (x : X) (xs : List X) (b : Bool) → (AllPairs (λ y z. y ≢ z) xs → b ≡ true) → AllPairs (λ y z. y ≢ z) (x ∷ xs) → (not (among xs x) && b) ≡ true
  more_pairs x xs b rest pairs =
      let alone : not (among xs x) ≡ true =
      not_false (among xs x) (λ there. let (k, within, here) = (means xs x).0 there in pairs 0 (suc k) x (omega arith) (omega arith) (sym here)) in
      let apart : b ≡ true = rest (λ i j d below within. pairs (suc i) (suc j) d (omega arith) (omega arith)) in
      rw (alone, apart) refl

pub nothing_twice : {X : Type 0} → AllPairs (λ (y z : X). y ≢ z) []
nothing_twice i j d below within = absurd (omega arith)

-- no two of them are equal
pub different_pairs : (listed : List AddressModel) → all_different listed ≡ true → AllPairs (λ a b. a ≢ b) listed
different_pairs [] is = nothing_twice
different_pairs (a ∷ others) is = pairs_more is_listed among_means a others (all_different others) (different_pairs others) is

-- where no two of them are equal none stands twice
pub pairs_different : (listed : List AddressModel) → AllPairs (λ a b. a ≢ b) listed → all_different listed ≡ true
pairs_different [] pairs = refl
pairs_different (a ∷ others) pairs = more_pairs is_listed among_means a others (all_different others) (pairs_different others) pairs

pub different_means : (listed : List AddressModel) → IsTrue (all_different listed) ↔ AllPairs (λ a b. a ≢ b) listed
different_means listed = (different_pairs listed, pairs_different listed)
