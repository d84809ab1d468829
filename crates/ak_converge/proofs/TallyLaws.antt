-- What the numbers of a view say of its convergence.
use Rattle.std.proofs.Common.{◌≡◌, ◌↔◌, ℕ, suc, ◌+◌, ◌≤◌, Bool, true, false, not, cond, ◌&&◌, ◌||◌, IsTrue, nat_le, ◌==◌, List, [], ◌∷◌, ◌++◌, drop, slice_get, option_to_list, length, None, is_some, refl, sym, ap, ◌∙◌, true≢false, arith}
use Rattle.std.proofs.lemmas.Bool.{leb-true, le-leb, eq-eqb, eqb-true, ne_eqb, and_parts, and_from}
use Rattle.std.specs.List.{list_all, filter}
use Rattle.std.specs.Prelude as list
use Rattle.std.specs.FinMap as map
use Rattle.ak_address.specs.Unique.{AddressModel, UniqueModel, unique_cmp}
use Rattle.ak_address.specs.Uniques.{UniqueSet, has}
use Rattle.ak_address.proofs.TableLaws.{entries-empty}
use Rattle.ak_address.specs.Distinct.{distinct}
use Rattle.ak_member.specs.declared.status.Status.{Status}
use Rattle.ak_member.specs.Age.{counts, role_pairs, role_addresses}
use Rattle.ak_member.specs.declared.standing.Standing.{Standing}
use Rattle.ak_member.specs.Standing.{members_of, member_pairs}
use Rattle.ak_member.specs.View.{View, Row, empty_view}
use Rattle.ak_member.proofs.MemberLemmas.{KeepsPairs, kept_from, kept_at_end, keeps_members, keeps_filtered}
use Rattle.ak_reach.specs.Unreachable.{unreachable_members}
use Rattle.ak_reach.proofs.UnreachableLaws.{unreachable_means}
use Rattle.ak_converge.specs.Convergence.{is_passed_over, agrees, is_converged, is_settled}
use Rattle.ak_converge.specs.Tally.{TallyModel, one_if, misses, blocks, missing_in, blocking_in, tally_of, nothing_tallied, uses_of}
use Rattle.ak_converge.proofs.UsesLaws.{uses_distinct}

abbrev pub none_of : ℕ → ℕ → Bool
none_of n m = n == 0 && m == 0

not_zero : (n : ℕ) → (suc n == 0) ≡ false
not_zero n = ne_eqb (suc n) 0 (λ is. absurd (omega (arith, is)))

not_first : (n m : ℕ) → false ≡ none_of (suc n) m
not_first n m = sym (ap (λ b. b && m == 0) (not_zero n))

not_second : (n m : ℕ) → false ≡ none_of n (suc m)
not_second n m = and_false (n == 0) ∙ sym (ap (λ b. n == 0 && b) (not_zero m))
  where
    and_false : (b : Bool) → false ≡ (b && false)
    and_false true = refl
    and_false false = refl

-- a member agrees where it neither misses nor blocks
agreed : (a b c d : Bool) (n m : ℕ) → (((not a || b) && (not c || d)) && none_of n m) ≡ none_of (cond (a && not b) (suc n) n) (cond (c && not d) (suc m) m)
agreed true true true true n m = refl
agreed true true true false n m = not_second n m
agreed true true false d n m = refl
agreed true false true true n m = not_first n m
agreed true false true false n m = not_first n (suc m)
agreed true false false d n m = not_first n m
agreed false b true true n m = refl
agreed false b true false n m = not_second n m
agreed false b false d n m = refl

length_if : {X : Type 0} (b : Bool) (x : X) (xs : List X) → length (cond b (x ∷ xs) xs) ≡ cond b (suc (length xs)) (length xs)
length_if true x xs = refl
length_if false x xs = refl

all_agree : (lost seen : UniqueSet) (ms : List (UniqueModel × (Status × ℕ))) → list_all (agrees lost seen) ms ≡ none_of (length (filter (misses seen) ms)) (length (filter (blocks lost) ms))
all_agree lost seen [] = refl
all_agree lost seen (m ∷ ms) =
    ap (λ b. agrees lost seen m && b) (all_agree lost seen ms)
    ∙ agreed (counts m.1.0) (has seen m.0) (has lost m.0) (is_passed_over m.1.0) (length (filter (misses seen) ms)) (length (filter (blocks lost) ms))
    ∙ (λ i. none_of (sym (length_if (misses seen m) m (filter (misses seen) ms)) i) (sym (length_if (blocks lost m) m (filter (blocks lost) ms)) i))

-- a view is converged where nobody misses it and nobody blocks
pub converged_is : (v : View) (seen : UniqueSet) → is_converged v seen ≡ none_of (missing_in v seen) (blocking_in v)
converged_is v seen = all_agree (unreachable_members v) seen (members_of v.standings)

-- the answers of a tally of the view
pub tally_converged : (t : TallyModel) (role : List AddressModel) (v : View) (seen : UniqueSet) → t ≡ tally_of role v seen → none_of t.missing t.blocking ≡ is_converged v seen
tally_converged t role v seen is = ap (λ (t : TallyModel). none_of t.missing t.blocking) is ∙ sym (converged_is v seen)

pub tally_addresses : (t : TallyModel) (role : List AddressModel) (v : View) (seen : UniqueSet) → t ≡ tally_of role v seen → map.len t.uses ≡ distinct (role_addresses role v.standings)
tally_addresses t role v seen is = ap (λ (t : TallyModel). map.len t.uses) is ∙ uses_distinct (role_addresses role v.standings)

pub tally_settled : (t : TallyModel) (quorum : ℕ) (role : List AddressModel) (v : View) (seen : UniqueSet) → t ≡ tally_of role v seen → (none_of t.missing t.blocking && nat_le quorum (map.len t.uses)) ≡ is_settled quorum role v seen
tally_settled t quorum role v seen is = λ i. tally_converged t role v seen is i && nat_le quorum (tally_addresses t role v seen is i)

-- the same in words
none_means : (n m : ℕ) → IsTrue (none_of n m) ↔ ((n ≡ 0) × (m ≡ 0))
none_means n m = (
  λ is. let parts = and_parts (n == 0) (m == 0) is in (eqb-true n 0 parts.0, eqb-true m 0 parts.1),
  λ zeros. and_from (n == 0) (m == 0) (eq-eqb n 0 zeros.0) (eq-eqb m 0 zeros.1),
)

pub converged_numbers : (v : View) (seen : UniqueSet) → IsTrue (is_converged v seen) ↔ ((missing_in v seen ≡ 0) × (blocking_in v ≡ 0))
converged_numbers v seen = (
  λ is. (none_means (missing_in v seen) (blocking_in v)).0 (sym (converged_is v seen) ∙ is),
  λ zeros. converged_is v seen ∙ (none_means (missing_in v seen) (blocking_in v)).1 zeros,
)

pub settled_numbers : (quorum : ℕ) (role : List AddressModel) (v : View) (seen : UniqueSet)
    → IsTrue (is_settled quorum role v seen) ↔ ((missing_in v seen ≡ 0) × (blocking_in v ≡ 0) × (quorum ≤ distinct (role_addresses role v.standings)))
settled_numbers quorum role v seen = (
  λ is.
      let parts = and_parts (is_converged v seen) (nat_le quorum (distinct (role_addresses role v.standings))) is in
      let zeros = (converged_numbers v seen).0 parts.0 in
      (zeros.0, zeros.1, leb-true quorum (distinct (role_addresses role v.standings)) parts.1),
  λ all. and_from (is_converged v seen) (nat_le quorum (distinct (role_addresses role v.standings))) ((converged_numbers v seen).1 (all.0, all.1)) (le-leb quorum (distinct (role_addresses role v.standings)) all.2),
)

-- ---- where there is no row
none_unreachable : (v : View) → map.len v.rows ≡ 0 → (who : UniqueModel) → has (unreachable_members v) who ≡ false
none_unreachable v none who =
    elim (has (unreachable_members v) who) as (λ b. has (unreachable_members v) who ≡ b → b ≡ false) [
      | true ↦ λ is.
          let lost = (unreachable_means v who).0 is in
          let no_row : map.get v.rows lost.observer ≡ None = ap (λ (rows : map.FinMap unique_cmp Row). map.get rows lost.observer) (map.empty_of_len v.rows none) ∙ map.get-empty unique_cmp lost.observer in
          absurd (true≢false (ap is_some (sym lost.row_is ∙ no_row)))
      | false ↦ λ _. refl
    ] refl

pub none_block : (v : View) → 0 ≡ map.len v.rows → 0 ≡ blocking_in v
none_block v none = sym (ap length (all_out (members_of v.standings)))
  where
    all_out : (ms : List (UniqueModel × (Status × ℕ))) → filter (blocks (unreachable_members v)) ms ≡ []
    all_out [] = refl
    all_out (m ∷ ms) = ap (λ b. cond (b && not (is_passed_over m.1.0)) (m ∷ filter (blocks (unreachable_members v)) ms) (filter (blocks (unreachable_members v)) ms)) (none_unreachable v (sym none) m.0) ∙ all_out ms

-- the member of a pair blocks where it is unreachable, if it is not passed over
pub one_blocks : (lost : UniqueSet) (pairs : List (UniqueModel × Standing)) (m : UniqueModel × (Status × ℕ)) (b : Bool) → m ∷ [] ≡ member_pairs pairs → false ≡ is_passed_over m.1.0 → b ≡ has lost m.0 → one_if b ≡ length (filter (blocks lost) (member_pairs pairs))
one_blocks lost pairs m b at passed is = counted b ∙ (λ i. length (cond (is i && not (passed i)) (m ∷ []) [])) ∙ ap (λ l. length (filter (blocks lost) l)) at
  where
    counted : (b : Bool) → one_if b ≡ length (cond (b && not false) (m ∷ []) [])
    counted true = refl
    counted false = refl

-- ---- members that pass a test, counted along the pairs
length_both : {X : Type 0} (xs ys : List X) → length (xs ++ ys) ≡ length xs + length ys
length_both [] ys = omega arith
length_both (x ∷ xs) ys = let rest = length_both xs ys in omega arith

module _ (p : UniqueModel × (Status × ℕ) → Bool) (es : List (UniqueModel × Standing)) (pair : ℕ) where
  abbrev kept : List (UniqueModel × Standing) → List (UniqueModel × (Status × ℕ))
  kept pairs = filter p (member_pairs pairs)

  keeps : KeepsPairs kept
  keeps = keeps_filtered member_pairs keeps_members p

  pub counted_next : (b : Bool) (n next total : ℕ) → one_if b ≡ length (kept (option_to_list (slice_get es pair))) → next ≡ n + one_if b → n + length (kept (drop pair es)) ≡ total → next + length (kept (drop (pair + 1) es)) ≡ total
  counted_next b n next total here is so_far =
      let parts = ap length (kept_from kept keeps es pair) ∙ length_both (kept (option_to_list (slice_get es pair))) (kept (drop (pair + 1) es)) in
      omega arith

  pub counted_all : (n total : ℕ) → length es ≤ pair → n + length (kept (drop pair es)) ≡ total → n ≡ total
  counted_all n total past so_far = let none = ap length (kept_at_end kept keeps es pair past) in omega arith

-- ---- a view that knows nobody
pub empty_tally : (role : List AddressModel) (seen : UniqueSet) → nothing_tallied ≡ tally_of role empty_view seen
empty_tally role seen = λ i.
    record {
      missing = length (filter (misses seen) (member_pairs (sym entries-empty i)));
      blocking = length (filter (blocks (unreachable_members empty_view)) (member_pairs (sym entries-empty i)));
      uses = uses_of (map_addresses (role_pairs role (member_pairs (sym entries-empty i))));
    }
  where
    map_addresses : List (UniqueModel × ℕ) → List AddressModel
    map_addresses = list.map (λ pair. pair.0.address)
