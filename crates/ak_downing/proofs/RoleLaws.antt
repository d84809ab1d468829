-- A decision depends on the members that have the role alone: on which they are, and on who of them is on the side of the node.
use Rattle.std.proofs.Common.{◌≡◌, ℕ, ◌*◌, Bool, cond, not, nat_lt, nat_le, if◌then◌else◌, List, [], ◌∷◌, Option, None, Some, length, map, Contains, refl, ap, ◌∙◌}
use Rattle.std.specs.List.{filter}
use Rattle.ak_address.specs.Distinct.{distinct}
use Rattle.ak_address.specs.Unique.{AddressModel, UniqueModel}
use Rattle.ak_address.specs.Uniques.{UniqueSet}
use Rattle.ak_address.proofs.Elements.{contains_first, contains_rest}
use Rattle.ak_member.specs.Standing.{members_of}
use Rattle.ak_member.specs.Age.{role_pairs, least_pair}
use Rattle.ak_member.specs.View.{View}
use Rattle.ak_reach.specs.Unreachable.{unreachable_members}
use Rattle.ak_settings.specs.declared.settings.Strategy.{Strategy}
use Rattle.ak_settings.specs.declared.settings.Strategy.TheVariants.{StaticQuorum, KeepMajority, KeepOldest, DownAll}
use Rattle.ak_downing.specs.declared.decision.Decision.TheVariants as decision
use Rattle.ak_downing.specs.Downing.{is_beside, counted_beside, counted_apart, reachable_addresses, by_first, by_side, with_oldest, decide}
use Rattle.ak_downing.proofs.LeastLemmas.{least_there}
use Rattle.ak_downing.proofs.SideLemmas.{beside_pair}

abbrev Pairs : Type 0
Pairs = List (UniqueModel × ℕ)

filter_alike : (p q : UniqueModel × ℕ → Bool) (xs : Pairs) → ((x : UniqueModel × ℕ) → Contains xs x → p x ≡ q x) → filter p xs ≡ filter q xs
filter_alike p q [] each = refl
filter_alike p q (x ∷ xs) each =
    let rest = filter_alike p q xs (λ y there. each y (contains_rest x y xs there)) in
    λ i. cond (each x (contains_first x xs) i) (x ∷ rest i) (rest i)

first_alike : (lost missed : UniqueSet) (me : UniqueModel) (xs : Pairs) → ((x : UniqueModel × ℕ) → Contains xs x → is_beside lost me x.0 ≡ is_beside missed me x.0) → by_first lost me xs ≡ by_first missed me xs
first_alike lost missed me [] each = refl
first_alike lost missed me (x ∷ xs) each = ap (λ b. if b then decision.DownUnreachable else decision.DownReachable) (each x (contains_first x xs))

oldest_alike : (asked : Bool) (beside others : ℕ) (lost missed : UniqueSet) (me : UniqueModel) (xs : Pairs) → ((x : UniqueModel × ℕ) → Contains xs x → is_beside lost me x.0 ≡ is_beside missed me x.0)
    → with_oldest asked beside others lost me (least_pair xs) ≡ with_oldest asked beside others missed me (least_pair xs)
oldest_alike asked beside others lost missed me xs each = by_least (least_pair xs) (λ x is. each x (least_there xs x is))
  where
    by_least : (o : Option (UniqueModel × ℕ)) → ((x : UniqueModel × ℕ) → o ≡ Some x → is_beside lost me x.0 ≡ is_beside missed me x.0)
        → with_oldest asked beside others lost me o ≡ with_oldest asked beside others missed me o
    by_least None same = refl
    by_least (Some x) same = ap (by_side asked beside others) (same x refl)

module _ (role : List AddressModel) (v w : View) (me : UniqueModel) (same : role_pairs role (members_of v.standings) ≡ role_pairs role (members_of w.standings))
    (each : (x : UniqueModel × ℕ) → Contains (role_pairs role (members_of v.standings)) x → beside_pair v me x ≡ beside_pair w me x) where
  beside_same : counted_beside role v me ≡ counted_beside role w me
  beside_same = filter_alike (beside_pair v me) (beside_pair w me) (role_pairs role (members_of v.standings)) each ∙ ap (filter (beside_pair w me)) same

  apart_same : counted_apart role v me ≡ counted_apart role w me
  apart_same =
      filter_alike (λ x. not (beside_pair v me x)) (λ x. not (beside_pair w me x)) (role_pairs role (members_of v.standings)) (λ x there. ap not (each x there))
      ∙ ap (filter (λ x. not (beside_pair w me x))) same

  first_same : by_first (unreachable_members v) me (role_pairs role (members_of v.standings)) ≡ by_first (unreachable_members w) me (role_pairs role (members_of w.standings))
  first_same = first_alike (unreachable_members v) (unreachable_members w) me (role_pairs role (members_of v.standings)) each ∙ ap (by_first (unreachable_members w) me) same

  abbrev addresses : Pairs → ℕ
  addresses xs = distinct (map (λ (pair : UniqueModel × ℕ). pair.0.address) xs)

  pub reached_alike : reachable_addresses role v me ≡ reachable_addresses role w me
  reached_alike = ap addresses beside_same

  pub decided_alike : (strategy : Strategy) → decide strategy role v me ≡ decide strategy role w me
  decided_alike (StaticQuorum quorum) =
      λ i. if nat_le (2 * quorum) (addresses (same i)) then decision.DownAll else (if nat_le quorum (addresses (beside_same i)) then decision.DownUnreachable else decision.DownReachable)
  decided_alike KeepMajority =
      λ i. if nat_lt (length (apart_same i)) (length (beside_same i)) then decision.DownUnreachable
      else (if nat_lt (length (beside_same i)) (length (apart_same i)) then decision.DownReachable else first_same i)
  decided_alike (KeepOldest asked) =
      oldest_alike asked (length (counted_beside role v me)) (length (counted_apart role v me)) (unreachable_members v) (unreachable_members w) me (role_pairs role (members_of v.standings)) each
      ∙ (λ i. with_oldest asked (length (beside_same i)) (length (apart_same i)) (unreachable_members w) me (least_pair (same i)))
  decided_alike DownAll = refl
