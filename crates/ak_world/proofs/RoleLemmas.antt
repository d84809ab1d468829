-- A quorum of more than half of the listed addresses is one of more than half of those that have the role.
use Rattle.std.proofs.Common.{◌≡◌, ℕ, ◌+◌, ◌*◌, ◌<◌, ◌≤◌, Bool, true, false, not, if◌then◌else◌, List, [], ◌∷◌, length, Contains, refl, sym, subst, arith, true≢false}
use Rattle.std.proofs.lemmas.Bool.{and_parts}
use Rattle.std.specs.List.{list_any}
use Rattle.std.specs.Ordering.{is_eq}
use Rattle.ak_address.specs.Distinct.{distinct}
use Rattle.ak_address.specs.Unique.{AddressModel, address_cmp}
use Rattle.ak_address.proofs.Elements.{any_found}
use Rattle.ak_address.proofs.OrderLemmas.{tied_is}
use Rattle.ak_address.proofs.SharedAddress.{distinct_within}
use Rattle.ak_settings.specs.declared.settings.Strategy.TheVariants.{StaticQuorum}
use Rattle.ak_settings.specs.Settings.{SettingsModel, IsSettings, IsRole, all_different, is_listed}
use Rattle.ak_settings.proofs.Different.{pairs_different}
use Rattle.ak_address.proofs.AmongLaws.{among_means}
use Rattle.ak_world.specs.SettledLine.{IsOverHalf}
use Rattle.ak_world.proofs.InLine.{distinct-length}

-- where none stands twice there are as many different ones
all_counted : (xs : List AddressModel) → all_different xs ≡ true → length xs ≤ distinct xs
all_counted [] is = omega arith
all_counted (a ∷ xs) is =
    let parts = and_parts (not (is_listed xs a)) (all_different xs) is in
    by_case (list_any (λ b. is_eq (address_cmp a b)) xs) refl parts.0 (all_counted xs parts.1)
  where
    not_so : (b : Bool) → not b ≡ true → b ≡ true → ⊥
    not_so true none some = true≢false (sym none)
    not_so false none some = true≢false (sym some)

    by_case : (b : Bool) → list_any (λ b. is_eq (address_cmp a b)) xs ≡ b → not (is_listed xs a) ≡ true → length xs ≤ distinct xs → length (a ∷ xs) ≤ (if b then distinct xs else distinct xs + 1)
    by_case true found alone le =
        let other = any_found (λ b. is_eq (address_cmp a b)) xs found in
        absurd (not_so (is_listed xs a) alone ((among_means xs a).1 (subst (Contains xs) (sym (tied_is a other.0 other.2)) other.1)))
    by_case false found alone le = omega arith

pub role_over_half : (settings : SettingsModel) (quorum : ℕ) → IsRole settings.listed settings.role → settings.strategy ≡ StaticQuorum quorum → length settings.listed < 2 * quorum → IsOverHalf settings quorum
role_over_half settings quorum r strategy few =
    let role = all_counted settings.role (pairs_different settings.role r.listing.different) in
    let within = distinct_within settings.listed settings.role r.among in
    let listed = distinct-length settings.listed in
    (strategy, omega arith)

pub listed_over_half : (settings : SettingsModel) (quorum : ℕ) → IsSettings settings → settings.strategy ≡ StaticQuorum quorum → length settings.listed < 2 * quorum → IsOverHalf settings quorum
listed_over_half settings quorum s = role_over_half settings quorum s.role
