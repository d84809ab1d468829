-- What it says of a view that its members agree on it.
use Rattle.std.proofs.Common.{◌≡◌, ℕ, ◌+◌, ◌≤◌, Bool, true, false, not, ◌&&◌, ◌||◌, IsTrue, ◌↔◌, ◌⊎◌, inl, inr, nat_le, List, drop, slice_get, Option, Some, None, is_some, option_to_list, refl, sym, ap, ◌∙◌, le-leb, true≢false}
use Rattle.std.proofs.lemmas.Bool.{leb-true, and_parts, and_from}
use Rattle.std.proofs.lemmas.List.Folds.{list_all-append}
use Rattle.std.proofs.lemmas.Option.{same_Some}
use Rattle.std.specs.List.{list_all}
use Rattle.std.specs.FinMap as map
use Rattle.ak_address.specs.Unique.{AddressModel, UniqueModel}
use Rattle.ak_address.specs.Uniques.{UniqueSet, has}
use Rattle.ak_member.specs.declared.status.Status.{Status}
use Rattle.ak_member.specs.declared.status.Status.TheVariants.{Joining, WeaklyUp, Up, Leaving, Exiting, Down}
use Rattle.ak_member.specs.declared.standing.Standing.{Standing}
use Rattle.ak_member.specs.Standing.{member_of, member_pairs, members_of}
use Rattle.ak_address.specs.Distinct.{distinct}
use Rattle.ak_member.specs.Age.{counts, role_addresses}
use Rattle.ak_member.specs.View.{View}
use Rattle.ak_address.proofs.Elements.{all_there, all_from}
use Rattle.ak_member.proofs.MemberLemmas.{kept_from, keeps_members}
use Rattle.ak_member.proofs.MembersLaws.{members_have, have_members}
use Rattle.ak_reach.specs.Unreachable.{unreachable_members}
use Rattle.ak_reach.proofs.UnreachableLaws.{unreachable_means}
use Rattle.ak_converge.specs.Convergence.{is_passed_over, agrees, is_converged, is_settled, IsOut, IsConverged}

-- ---- along the pairs
-- a test of the member at an index, and of those from the next one on
pub all_from_index : (p : UniqueModel × (Status × ℕ) → Bool) (es : List (UniqueModel × Standing)) (i : ℕ)
    → list_all p (member_pairs (drop i es)) ≡ (list_all p (member_pairs (option_to_list (slice_get es i))) && list_all p (member_pairs (drop (i + 1) es)))
all_from_index p es i = ap (list_all p) (kept_from member_pairs keeps_members es i) ∙ list_all-append p (member_pairs (option_to_list (slice_get es i))) (member_pairs (drop (i + 1) es))

-- ---- what it says
if_so : (a b : Bool) → (not a || b) ≡ true → a ≡ true → b ≡ true
if_so true b is a = is
if_so false b is a = absurd (true≢false (sym a))

where_so : (a b : Bool) → (a ≡ true → b ≡ true) → (not a || b) ≡ true
where_so true b so = so refl
where_so false b so = refl

out : (status : Status) → is_passed_over status ≡ true → (status ≡ Exiting) ⊎ (status ≡ Down)
out Joining is = absurd (true≢false (sym is))
out WeaklyUp is = absurd (true≢false (sym is))
out Up is = absurd (true≢false (sym is))
out Leaving is = absurd (true≢false (sym is))
out Exiting is = inl refl
out Down is = inr refl

passed_over : (status : Status) → (status ≡ Exiting) ⊎ (status ≡ Down) → is_passed_over status ≡ true
passed_over status (inl exiting) = ap is_passed_over exiting
passed_over status (inr down) = ap is_passed_over down

member : (o : Option (Status × ℕ)) → is_some o ≡ true → (m : Status × ℕ) × (o ≡ Some m)
member None is = absurd (true≢false (sym is))
member (Some m) is = (m, refl)

pub converged_means : (v : View) (seen : UniqueSet) → IsTrue (is_converged v seen) ↔ IsConverged v seen
converged_means v seen = (there, back)
  where
    parts : is_converged v seen ≡ true → (who : UniqueModel) (m : Status × ℕ) → member_of (map.get v.standings who) ≡ Some m
        → ((not (counts m.0) || has seen who) ≡ true) × ((not (has (unreachable_members v) who) || is_passed_over m.0) ≡ true)
    parts is who m at =
        and_parts (not (counts m.0) || has seen who) (not (has (unreachable_members v) who) || is_passed_over m.0)
        (all_there (agrees (unreachable_members v) seen) (members_of v.standings) (who, m) is (have_members v.standings who m at))

    there : IsTrue (is_converged v seen) → IsConverged v seen
    there is = record {
      counted_seen = λ who number c. if_so (counts c.0) (has seen who) (parts is who (c.0, number) c.1).0 c.2;
      unreachable_out = λ who lost.
          let m = member (member_of (map.get v.standings who)) lost.member in
          (m.0.0, m.0.1, m.1, out m.0.0 (if_so (has (unreachable_members v) who) (is_passed_over m.0.0) (parts is who m.0 m.1).1 ((unreachable_means v who).1 lost)));
    }

    back : IsConverged v seen → IsTrue (is_converged v seen)
    back c =
        all_from (agrees (unreachable_members v) seen) (members_of v.standings) (λ pair within.
        let at = members_have v.standings pair within in
        and_from (not (counts pair.1.0) || has seen pair.0) (not (has (unreachable_members v) pair.0) || is_passed_over pair.1.0)
        (where_so (counts pair.1.0) (has seen pair.0) (λ counted. c.counted_seen pair.0 pair.1.1 (pair.1.0, at, counted)))
        (where_so (has (unreachable_members v) pair.0) (is_passed_over pair.1.0) (λ lost.
        let o = c.unreachable_out pair.0 ((unreachable_means v pair.0).0 lost) in
        passed_over pair.1.0 (o_of pair.1 pair.0 o (same_Some (o.0, o.1) pair.1 (sym o.2 ∙ at))))))
      where
        o_of : (m : Status × ℕ) (who : UniqueModel) (o : IsOut v.standings who) → (o.0, o.1) ≡ m → (m.0 ≡ Exiting) ⊎ (m.0 ≡ Down)
        o_of m who o same = elim o.3 [ inl exiting ↦ inl (sym (ap (λ (r : Status × ℕ). r.0) same) ∙ exiting) | inr down ↦ inr (sym (ap (λ (r : Status × ℕ). r.0) same) ∙ down) ]

pub settled_means : (quorum : ℕ) (role : List AddressModel) (v : View) (seen : UniqueSet) → IsTrue (is_settled quorum role v seen) ↔ (IsConverged v seen × (quorum ≤ distinct (role_addresses role v.standings)))
settled_means quorum role v seen = (there, back)
  where
    there : IsTrue (is_settled quorum role v seen) → IsConverged v seen × (quorum ≤ distinct (role_addresses role v.standings))
    there is =
        let parts = and_parts (is_converged v seen) (nat_le quorum (distinct (role_addresses role v.standings))) is in
        ((converged_means v seen).0 parts.0, leb-true quorum (distinct (role_addresses role v.standings)) parts.1)

    back : IsConverged v seen × (quorum ≤ distinct (role_addresses role v.standings)) → IsTrue (is_settled quorum role v seen)
    back (c, enough) =
        and_from (is_converged v seen) (nat_le quorum (distinct (role_addresses role v.standings))) ((converged_means v seen).1 c) (le-leb quorum (distinct (role_addresses role v.standings)) enough)

-- the answer of the call
pub converged_answer : (v : View) (seen : UniqueSet) (b : Bool) → b ≡ is_converged v seen → IsTrue b ↔ IsConverged v seen
converged_answer v seen b is = (λ t. (converged_means v seen).0 (sym is ∙ t), λ c. is ∙ (converged_means v seen).1 c)
