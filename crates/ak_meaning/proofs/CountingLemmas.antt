-- Lists that have each once, and how many different addresses there are.
use Rattle.std.proofs.Common.{◌≡◌, zero, suc, ◌+◌, Bool, true, false, if◌then◌else◌, List, [], ◌∷◌, length, Contains, inl, inr, refl, sym, ap, ◌∙◌, subst, arith, true≢false}
use Rattle.std.specs.List.{list_any}
use Rattle.std.specs.Ordering.{is_eq}
use Rattle.std.specs.declared.cmp.Ordering.TheVariants.{Less}
use Rattle.ak_gossip.proofs.PartsPlaces.{not_less_itself}
use Rattle.ak_address.specs.Distinct.{distinct}
use Rattle.ak_address.specs.Unique.{AddressModel, UniqueModel, address_cmp, unique_cmp}
use Rattle.ak_address.proofs.DistinctLaws.{IsBelow, AreRising}
use Rattle.ak_address.proofs.Elements.{contains_first, contains_rest, first_or_rest, contains_nothing, contains_at, any_there, any_found}
use Rattle.ak_address.proofs.OrderLemmas.{tied_is, tied_self}
use Rattle.ak_meaning.specs.Counting.{HasEachOnce}

-- ---- each once
pub once_none : {X : Type 0} → HasEachOnce {X = X} []
once_none {X} i j x at other = absurd cc

pub once_more : {X : Type 0} (y : X) (xs : List X) → (Contains xs y → ⊥) → HasEachOnce xs → HasEachOnce (y ∷ xs)
once_more {X} y xs new once zero zero x at other = refl
once_more {X} y xs new once zero (suc j) x at other = absurd (new (contains_at xs j y (other ∙ sym at)))
once_more {X} y xs new once (suc i) zero x at other = absurd (new (contains_at xs i y (at ∙ sym other)))
once_more {X} y xs new once (suc i) (suc j) x at other = ap suc (once i j x at other)

-- processes that rise
pub below_none : (u : UniqueModel) (us : List UniqueModel) → IsBelow u us → (who : UniqueModel) → Contains us who → unique_cmp u who ≡ Less
below_none u [] below who there = absurd (contains_nothing who there)
below_none u (q ∷ us) below who there = elim (first_or_rest q who us there) [
  | inl same ↦ subst (λ z. unique_cmp u z ≡ Less) (sym same) below.0
  | inr later ↦ below_none u us below.1 who later
]

pub rising_once : (us : List UniqueModel) → AreRising us → HasEachOnce us
rising_once [] rising = once_none
rising_once (u ∷ us) rising = once_more u us (λ there. not_less_itself u (below_none u us rising.0 u there)) (rising_once us rising.1)

-- ---- addresses
-- the last of each
abbrev pub last_ones : List AddressModel → List AddressModel
last_ones [] = []
last_ones (a ∷ rest) = if list_any (λ b. is_eq (address_cmp a b)) rest then last_ones rest else a ∷ last_ones rest

pub last_many : (xs : List AddressModel) → length (last_ones xs) ≡ distinct xs
last_many [] = refl
last_many (a ∷ rest) = by_case (list_any (λ b. is_eq (address_cmp a b)) rest) (last_many rest)
  where
    by_case : (again : Bool) → length (last_ones rest) ≡ distinct rest → length (if again then last_ones rest else a ∷ last_ones rest) ≡ (if again then distinct rest else distinct rest + 1)
    by_case true same = same
    by_case false same = omega arith

pub last_in : (xs : List AddressModel) (x : AddressModel) → Contains (last_ones xs) x → Contains xs x
last_in [] x there = there
last_in (a ∷ rest) x there = by_case (list_any (λ b. is_eq (address_cmp a b)) rest) (λ h. last_in rest x h) there
  where
    by_case : (again : Bool) → (Contains (last_ones rest) x → Contains rest x) → Contains (if again then last_ones rest else a ∷ last_ones rest) x → Contains (a ∷ rest) x
    by_case true below there = contains_rest a x rest (below there)
    by_case false below there = elim (first_or_rest a x (last_ones rest) there) [
      | inl same ↦ subst (Contains (a ∷ rest)) (sym same) (contains_first a rest)
      | inr later ↦ contains_rest a x rest (below later)
    ]

pub in_last : (xs : List AddressModel) (x : AddressModel) → Contains xs x → Contains (last_ones xs) x
in_last [] x there = there
in_last (a ∷ rest) x there = by_case (list_any (λ b. is_eq (address_cmp a b)) rest) (λ h. in_last rest x h) refl
  where
    again_there : (b : Bool) → list_any (λ b. is_eq (address_cmp a b)) rest ≡ true → Contains rest a
    again_there b is = let f = any_found (λ b. is_eq (address_cmp a b)) rest is in subst (Contains rest) (sym (tied_is a f.0 f.2)) f.1

    by_case : (again : Bool) → (Contains rest x → Contains (last_ones rest) x) → list_any (λ b. is_eq (address_cmp a b)) rest ≡ again → Contains (if again then last_ones rest else a ∷ last_ones rest) x
    by_case true above is = above (elim (first_or_rest a x rest there) [
      | inl same ↦ subst (Contains rest) (sym same) (again_there true is)
      | inr later ↦ later
    ])
    by_case false above is = elim (first_or_rest a x rest there) [
      | inl same ↦ subst (Contains (a ∷ last_ones rest)) (sym same) (contains_first a (last_ones rest))
      | inr later ↦ contains_rest a x (last_ones rest) (above later)
    ]

pub last_once : (xs : List AddressModel) → HasEachOnce (last_ones xs)
last_once [] = once_none
last_once (a ∷ rest) = by_case (list_any (λ b. is_eq (address_cmp a b)) rest) (last_once rest) refl
  where
    by_case : (again : Bool) → HasEachOnce (last_ones rest) → list_any (λ b. is_eq (address_cmp a b)) rest ≡ again → HasEachOnce (if again then last_ones rest else a ∷ last_ones rest)
    by_case true once is = once
    by_case false once is =
        once_more a (last_ones rest)
        (λ there. true≢false (sym (any_there (λ b. is_eq (address_cmp a b)) rest a (last_in rest a there) (tied_self a)) ∙ is))
        once
