-- The orders of addresses and of processes are total, and only equal ones tie.
use Rattle.std.proofs.Common.{◌≡◌, ℕ, Bool, true, false, ◌&&◌, nat_eq, List, refl, sym, ap, ◌∙◌, true≢false}
use Rattle.std.specs.declared.cmp.Ordering.{Ordering}
use Rattle.std.specs.declared.cmp.Ordering.TheVariants.{Less, Equal, Greater}
use Rattle.std.specs.Ordering.{nat_cmp, is_eq, is_lt, ordering_then}
use Rattle.std.specs.Cmp.{IsTotalOrder, unsigned_ties, both_tied}
use Rattle.std.specs.Cmp.Lexicographic.{slice_cmp, pointwise, lists_ties}
use Rattle.std.specs.FinMap.{IsAntisymmetric}
use Rattle.std.proofs.lemmas.Bool.{eq-eqb}
use Rattle.std.proofs.lemmas.Cmp.{on_total, then_total, nat_cmp_total, nat_list_cmp_total, tied_itself}
use Rattle.std.proofs.lemmas.Map.Lookups.{exact_pairs, exact_bytes, exact_unsigned}
use Rattle.ak_address.specs.Unique.{AddressModel, address_cmp, unique_cmp}

pub address_total : IsTotalOrder address_cmp
address_total = then_total (on_total (λ a. a.host) nat_list_cmp_total) (on_total (λ a. a.port) nat_cmp_total)

pub address_exact : IsAntisymmetric address_cmp
address_exact a b tied =
    ap (λ (p : List ℕ × ℕ). record { host = p.0; port = p.1 }) (exact_pairs (slice_cmp nat_cmp) nat_cmp exact_bytes exact_unsigned (a.host, a.port) (b.host, b.port) tied)

pub unique_total : IsTotalOrder unique_cmp
unique_total = then_total (on_total (λ u. u.address) address_total) (on_total (λ u. u.uid) nat_cmp_total)

pub unique_exact : IsAntisymmetric unique_cmp
unique_exact u v tied =
    ap (λ (p : AddressModel × ℕ). record { address = p.0; uid = p.1 }) (exact_pairs address_cmp nat_cmp address_exact exact_unsigned (u.address, u.uid) (v.address, v.uid) tied)

-- ---- who ties is equal
pub tied_is : (a b : AddressModel) → is_eq (address_cmp a b) ≡ true → a ≡ b
tied_is a b is = by_case (address_cmp a b) refl is
  where
    by_case : (o : Ordering) → address_cmp a b ≡ o → is_eq o ≡ true → a ≡ b
    by_case Less e h = absurd (true≢false (sym h))
    by_case Equal e h = address_exact a b e
    by_case Greater e h = absurd (true≢false (sym h))

pub tied_self : (a : AddressModel) → is_eq (address_cmp a a) ≡ true
tied_self a = ap is_eq (tied_itself address_total a)

-- ---- what an order tells
pub less_of : (o : Ordering) → is_lt o ≡ true → o ≡ Less
less_of Less is = refl
less_of Equal is = absurd (true≢false (sym is))
less_of Greater is = absurd (true≢false (sym is))

-- ---- equal ones tie
pub bytes_tie : (a b : List ℕ) → pointwise nat_eq a b ≡ is_eq (slice_cmp nat_cmp a b)
bytes_tie a b = lists_ties nat_cmp unsigned_ties a b

pub then_ties : (o : Ordering) (p q : ℕ) (b : Bool) → p ≡ q → b ≡ is_eq o → b ≡ is_eq (ordering_then o (nat_cmp p q))
then_ties o p q b same is = and_true b ∙ both_tied b true o (nat_cmp p q) is (sym (eq-eqb p q same) ∙ unsigned_ties p q)
  where
    and_true : (b : Bool) → b ≡ (b && true)
    and_true true = refl
    and_true false = refl
