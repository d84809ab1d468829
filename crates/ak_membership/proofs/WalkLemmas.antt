-- Walks along lists: for the Joining members and those of them that have the role, and for those of a set that pass a test.
use Rattle.std.proofs.Common.{◌≡◌, ℕ, Bool, true, false, cond, ◌&&◌, ◌⊎◌, inl, inr, List, [], ◌∷◌, ◌++◌, length, slice_get, Option, None, Some, option_map, option_to_list, refl, sym, ap, ◌∙◌, arith}
use Rattle.std.specs.List.{fold, filter}
use Rattle.ak_address.specs.Distinct.{is_among}
use Rattle.ak_address.specs.Unique.{AddressModel, UniqueModel}
use Rattle.ak_address.specs.Uniques.{UniqueSet, no_one, has, with_one, those, in_order, set_of}
use Rattle.ak_address.proofs.CountersLaws.{among-filter, has-set_of, set_of-in_order, set_walked}
use Rattle.ak_address.proofs.UniquesLaws.{same_uniques, has-no_one, has-those}
use Rattle.ak_member.specs.declared.status.Status.{Status}
use Rattle.ak_member.specs.declared.standing.Standing.{Standing}
use Rattle.ak_member.specs.declared.standing.Standing.TheVariants.{Member, Buried}
use Rattle.ak_member.specs.Standing.{member_pairs, is_joining}
use Rattle.ak_member.specs.Age.{has_role}
use Rattle.ak_member.proofs.MemberLemmas.{KeepsPairs, keeps_filtered}
use Rattle.ak_member.proofs.CountedLaws.{KeepsProcess, filtered_process}
use Rattle.ak_sight.specs.Counted.{role_or_not, roles_among}
use Rattle.ak_sight.proofs.CountLemmas.{role_there}
use Rattle.ak_membership.specs.Tick.{joining_pairs}

-- ---- for the Joining ones among the pairs
abbrev pub joining_among : List (UniqueModel × Standing) → List (UniqueModel × ℕ)
joining_among pairs = joining_pairs (member_pairs pairs)

joining_more : (pair : UniqueModel × (Status × ℕ)) (pairs : List (UniqueModel × (Status × ℕ))) → joining_pairs (pair ∷ pairs) ≡ joining_pairs (pair ∷ []) ++ joining_pairs pairs
joining_more pair pairs = elim (is_joining pair.1.0) as (λ b. cond b ((pair.0, pair.1.1) ∷ joining_pairs pairs) (joining_pairs pairs) ≡ cond b ((pair.0, pair.1.1) ∷ []) [] ++ joining_pairs pairs) [ true ↦ refl | false ↦ refl ]

pub keeps_joining : KeepsPairs joining_among
keeps_joining = record { none = refl; more = more }
  where
    more : (x : UniqueModel × Standing) (xs : List (UniqueModel × Standing)) → joining_among (x ∷ xs) ≡ joining_among (x ∷ []) ++ joining_among xs
    more (who, Member status number) xs = joining_more (who, (status, number)) (member_pairs xs)
    more (who, Buried confirmed) xs = refl

pub joining_process : KeepsProcess joining_among
joining_process (who, Buried confirmed) = inl refl
joining_process (who, Member status number) = by_status (is_joining status)
  where
    by_status : (b : Bool) → (◌≡◌ {A = List (UniqueModel × ℕ)} (cond b ((who, number) ∷ []) []) []) ⊎ ((n : ℕ) × (◌≡◌ {A = List (UniqueModel × ℕ)} (cond b ((who, number) ∷ []) []) ((who, n) ∷ [])))
    by_status true = inr (number, refl)
    by_status false = inl refl

-- ---- for those of them that have the role
abbrev pub joining_role : List AddressModel → List (UniqueModel × Standing) → List (UniqueModel × ℕ)
joining_role role pairs = filter (has_role role) (joining_among pairs)

pub keeps_joining_role : (role : List AddressModel) → KeepsPairs (joining_role role)
keeps_joining_role role = keeps_filtered joining_among keeps_joining (has_role role)

pub joining_role_process : (role : List AddressModel) → KeepsProcess (joining_role role)
joining_role_process role = filtered_process joining_among joining_process (has_role role)

module _ (role : List AddressModel) (es : List (UniqueModel × Standing)) (pair : ℕ) (who : UniqueModel) (status : Status) (number : ℕ) where
  at_pair : (o : Option (UniqueModel × Standing)) → (who, (status, number)) ∷ [] ≡ member_pairs (option_to_list o) → option_map (λ (p : UniqueModel × Standing). p.0) o ≡ Some who
  at_pair None is = absurd (let one = ap length is in omega arith)
  at_pair (Some (w, Buried confirmed)) is = absurd (let one = ap length is in omega arith)
  at_pair (Some (w, Member other n)) is = sym (ap (λ (l : List (UniqueModel × (Status × ℕ))). option_map (λ p. p.0) (slice_get l 0)) is)

  -- a Joining member is kept where the role is known of its pair
  pub joining_kept : (has : Bool) → (who, (status, number)) ∷ [] ≡ member_pairs (option_to_list (slice_get es pair)) → has ≡ role_or_not (slice_get (roles_among role es) pair)
      → cond (is_joining status && has) ((who, number) ∷ []) [] ≡ joining_role role (option_to_list (slice_get es pair))
  joining_kept has here is = by_case (is_joining status) has (is ∙ ap role_or_not (role_there role who es pair (at_pair (slice_get es pair) here))) ∙ ap (λ l. filter (has_role role) (joining_pairs l)) here
    where
      by_case : (j b : Bool) → b ≡ is_among role who.address → cond (j && b) ((who, number) ∷ []) [] ≡ filter (has_role role) (cond j ((who, number) ∷ []) [])
      by_case false b is = refl
      by_case true b is = ap (λ c. cond c ((who, number) ∷ []) []) is

-- ---- those of a set that pass a test
pub those_walked : (p : UniqueModel → Bool) (set : UniqueSet) → fold with_one no_one (filter p (in_order set)) ≡ those set p
those_walked p set = set_walked (filter p (in_order set)) ∙ same_uniques (set_of (filter p (in_order set))) (those set p) each
  where
    each : (who : UniqueModel) → has (set_of (filter p (in_order set))) who ≡ has (those set p) who
    each who = has-set_of (filter p (in_order set)) who ∙ among-filter p (in_order set) who ∙ ap (λ b. b && p who) (sym (has-set_of (in_order set) who) ∙ ap (λ s. has s who) (set_of-in_order set)) ∙ sym (has-those set p who)

pub none_those : (p : UniqueModel → Bool) → no_one ≡ those no_one p
none_those p = same_uniques no_one (those no_one p) (λ who. has-no_one who ∙ sym (has-those no_one p who ∙ ap (λ b. b && p who) (has-no_one who)))
