-- Of two sides without a common address, or without a common member, at most one goes on.
use Rattle.std.proofs.Common.{◌≡◌, ℕ, ◌+◌, ◌*◌, ◌<◌, ◌≤◌, Bool, true, false, cond, not, ◌⊎◌, inl, inr, nat_lt, nat_le, if◌then◌else◌, List, [], ◌∷◌, length, Contains, refl, sym, subst, arith}
use Rattle.std.proofs.lemmas.Bool.{leb-true, leb-false, ltb-true, ltb-false}
use Rattle.std.proofs.lemmas.List.Filters.{length-filter_both}
use Rattle.std.specs.List.{filter}
use Rattle.ak_address.specs.Distinct.{distinct}
use Rattle.ak_address.specs.Unique.{AddressModel, UniqueModel}
use Rattle.ak_address.specs.Uniques.{UniqueSet}
use Rattle.ak_address.proofs.Elements.{contains_first, contains_rest, in_filter, filter_in, in_map, map_in}
use Rattle.ak_address.proofs.SharedAddress.{shared_address}
use Rattle.ak_member.specs.Standing.{Standings, members_of}
use Rattle.ak_member.specs.Age.{role_pairs, role_addresses}
use Rattle.ak_member.specs.View.{View, RowTable}
use Rattle.ak_reach.specs.Unreachable.{unreachable_members}
use Rattle.ak_settings.specs.declared.settings.Strategy.TheVariants.{StaticQuorum, KeepMajority}
use Rattle.ak_downing.specs.declared.decision.Decision.{Decision}
use Rattle.ak_downing.specs.declared.decision.Decision.TheVariants as decision
use Rattle.ak_downing.specs.Downing.{is_beside, counted_beside, counted_apart, addresses_beside, by_first}
use Rattle.ak_downing.specs.Sides.{seen_with, HaveNoneInCommon, BothGoOn}
use Rattle.ak_downing.proofs.SideLemmas.{beside_pair}

-- ---- static-quorum
quorum_means : (quorum all beside : ℕ)
    → (if nat_le (2 * quorum) all then decision.DownAll else (if nat_le quorum beside then decision.DownUnreachable else decision.DownReachable)) ≡ decision.DownUnreachable
    → (all < 2 * quorum) × (quorum ≤ beside)
quorum_means quorum all beside is = by_case (nat_le (2 * quorum) all) (nat_le quorum beside) refl refl is
  where
    by_case : (a b : Bool) → nat_le (2 * quorum) all ≡ a → nat_le quorum beside ≡ b → (if a then decision.DownAll else (if b then decision.DownUnreachable else decision.DownReachable)) ≡ decision.DownUnreachable → (all < 2 * quorum) × (quorum ≤ beside)
    by_case true b p q is = absurd cc
    by_case false true p q is = (leb-false (2 * quorum) all p, leb-true quorum beside q)
    by_case false false p q is = absurd cc

address_counts : (role : List AddressModel) (v : View) (me : UniqueModel) (a : AddressModel) → Contains (addresses_beside role v me) a → Contains (role_addresses role v.standings) a
address_counts role v me a there =
    let pairs = role_pairs role (members_of v.standings) in
    let pair = in_map (λ (pair : UniqueModel × ℕ). pair.0.address) (counted_beside role v me) a there in
    let counts = in_filter (beside_pair v me) pairs pair.0 pair.1 in
    subst (Contains (role_addresses role v.standings)) (sym pair.2) (map_in (λ (pair : UniqueModel × ℕ). pair.0.address) pairs pair.0 counts.0)

pub not_both_quorums : (quorum : ℕ) (role : List AddressModel) (members : Standings) (rows others : RowTable) (me you : UniqueModel)
    → HaveNoneInCommon (addresses_beside role (seen_with members rows) me) (addresses_beside role (seen_with members others) you) → BothGoOn (StaticQuorum quorum) role (seen_with members rows) me (seen_with members others) you → ⊥
not_both_quorums quorum role members rows others me you apart both =
    let v = seen_with members rows in
    let w = seen_with members others in
    let one = quorum_means quorum (distinct (role_addresses role members)) (distinct (addresses_beside role v me)) both.0 in
    let other = quorum_means quorum (distinct (role_addresses role members)) (distinct (addresses_beside role w you)) both.1 in
    let shared = shared_address (role_addresses role members) (addresses_beside role v me) (addresses_beside role w you) quorum (address_counts role v me) (address_counts role w you) one.0 one.1 other.1 in
    apart shared.0 shared.1 shared.2

-- ---- keep-majority
abbrev Pairs : Type 0
Pairs = List (UniqueModel × ℕ)

-- where nobody passes both tests
pub disjoint_parts : (p q : UniqueModel × ℕ → Bool) (xs : Pairs) → ((x : UniqueModel × ℕ) → Contains xs x → p x ≡ true → q x ≡ true → ⊥) → length (filter p xs) + length (filter q xs) ≤ length xs
disjoint_parts p q [] none = omega arith
disjoint_parts p q (x ∷ xs) none =
    by_case (p x) (q x) refl refl (disjoint_parts p q xs (λ y there. none y (contains_rest x y xs there)))
  where
    by_case : (a b : Bool) → p x ≡ a → q x ≡ b → length (filter p xs) + length (filter q xs) ≤ length xs
        → length (cond a (x ∷ filter p xs) (filter p xs)) + length (cond b (x ∷ filter q xs) (filter q xs)) ≤ length (x ∷ xs)
    by_case true true is also le = absurd (none x (contains_first x xs) is also)
    by_case true false is also le = omega arith
    by_case false true is also le = omega arith
    by_case false false is also le = omega arith

majority_means : (beside others : ℕ) (first : Decision)
    → (if nat_lt others beside then decision.DownUnreachable else (if nat_lt beside others then decision.DownReachable else first)) ≡ decision.DownUnreachable
    → (others < beside) ⊎ ((others ≡ beside) × (first ≡ decision.DownUnreachable))
majority_means beside others first is = by_case (nat_lt others beside) (nat_lt beside others) refl refl is
  where
    by_case : (a b : Bool) → nat_lt others beside ≡ a → nat_lt beside others ≡ b → (if a then decision.DownUnreachable else (if b then decision.DownReachable else first)) ≡ decision.DownUnreachable
        → (others < beside) ⊎ ((others ≡ beside) × (first ≡ decision.DownUnreachable))
    by_case true b p q is = inl (ltb-true others beside p)
    by_case false true p q is = absurd cc
    by_case false false p q is = let l = ltb-false others beside p in let m = ltb-false beside others q in inr (omega arith, is)

-- the first counted member is on a side that goes on at equal numbers
first_both : (lost missed : UniqueSet) (me you : UniqueModel) (pairs : Pairs) → by_first lost me pairs ≡ decision.DownUnreachable → by_first missed you pairs ≡ decision.DownUnreachable
    → (x : UniqueModel × ℕ) × Contains pairs x × (is_beside lost me x.0 ≡ true) × (is_beside missed you x.0 ≡ true)
first_both lost missed me you [] one other = absurd cc
first_both lost missed me you (x ∷ pairs) one other = (x, contains_first x pairs, beside (is_beside lost me x.0) one, beside (is_beside missed you x.0) other)
  where
    beside : (b : Bool) → (if b then decision.DownUnreachable else decision.DownReachable) ≡ decision.DownUnreachable → b ≡ true
    beside true is = refl
    beside false is = absurd cc

pub not_both_majorities : (role : List AddressModel) (members : Standings) (rows others : RowTable) (me you : UniqueModel)
    → HaveNoneInCommon (counted_beside role (seen_with members rows) me) (counted_beside role (seen_with members others) you) → BothGoOn KeepMajority role (seen_with members rows) me (seen_with members others) you → ⊥
not_both_majorities role members rows others me you apart both =
    let v = seen_with members rows in
    let w = seen_with members others in
    let counted = role_pairs role (members_of members) in
    let never : (x : UniqueModel × ℕ) → Contains counted x → beside_pair v me x ≡ true → beside_pair w you x ≡ true → ⊥ =
    λ x there one other. apart x (filter_in (beside_pair v me) counted x there one) (filter_in (beside_pair w you) counted x there other) in
    let few = disjoint_parts (beside_pair v me) (beside_pair w you) counted never in
    let mine = length-filter_both (beside_pair v me) (λ x. not (beside_pair v me x)) (λ x. refl) counted in
    let yours = length-filter_both (beside_pair w you) (λ x. not (beside_pair w you x)) (λ x. refl) counted in
    let one = majority_means (length (counted_beside role v me)) (length (counted_apart role v me)) (by_first (unreachable_members v) me counted) both.0 in
    let other = majority_means (length (counted_beside role w you)) (length (counted_apart role w you)) (by_first (unreachable_members w) you counted) both.1 in
    elim one [
      | inl more ↦ elim other [ inl also ↦ absurd (omega arith) | inr even ↦ let same = even.0 in absurd (omega arith) ]
      | inr even ↦ elim other [
        | inl more ↦ let same = even.0 in absurd (omega arith)
        | inr also ↦ let x = first_both (unreachable_members v) (unreachable_members w) me you counted even.1 also.1 in never x.0 x.1 x.2 x.3
      ]
    ]
