-- Which addresses are among some.
use Rattle.std.proofs.Common.{◌≡◌, ◌||◌, true, List, [], ◌∷◌, suc, refl, sym, ap, ◌∙◌, arith, true≢false}
use Rattle.std.proofs.lemmas.List.Folds.{list_any_at}
use Rattle.std.specs.Prelude.{IsTrue, ◌↔◌}
use Rattle.std.specs.List.{Contains}
use Rattle.std.specs.Ordering.{is_eq}
use Rattle.std.specs.declared.cmp.Ordering.TheVariants.{Less, Equal, Greater}
use Rattle.std.specs.Cmp.{tied_itself}
use Rattle.ak_address.specs.Unique.{AddressModel, address_cmp}
use Rattle.ak_address.proofs.OrderLemmas.{address_total, address_exact}
use Rattle.ak_address.specs.Distinct.{is_among}

contains_later : (b a : AddressModel) (some : List AddressModel) → Contains some a → Contains (b ∷ some) a
contains_later b a some c = (suc c.0, omega (arith, c.1), c.2)

among_at_head : (b a : AddressModel) (some : List AddressModel) → (is_among some a ≡ true → Contains some a) → is_among (b ∷ some) a ≡ true → Contains (b ∷ some) a
among_at_head b a some rest is =
    elim (address_cmp b a) as (λ r. address_cmp b a ≡ r → (is_eq r || is_among some a) ≡ true → Contains (b ∷ some) a) [
      | Less ↦ λ _ h. contains_later b a some (rest h)
      | Equal ↦ λ tied _. (0, omega arith, address_exact b a tied)
      | Greater ↦ λ _ h. contains_later b a some (rest h)
    ] refl is

pub contains_from : (some : List AddressModel) (a : AddressModel) → is_among some a ≡ true → Contains some a
contains_from [] a is = absurd (true≢false (sym is))
contains_from (b ∷ some) a is = among_at_head b a some (contains_from some a) is

among_from : (some : List AddressModel) (a : AddressModel) → Contains some a → is_among some a ≡ true
among_from some a c =
    list_any_at (λ b. is_eq (address_cmp b a)) some c.0 a c.1 (ap (λ b. is_eq (address_cmp b a)) c.2 ∙ ap is_eq (tied_itself address_total a))

-- an address is among some where it is one of them
pub among_means : (some : List AddressModel) (a : AddressModel) → IsTrue (is_among some a) ↔ Contains some a
among_means some a = (contains_from some a, among_from some a)
