-- Whom the leader of a view that does not settle lets in, and that it lets in all of them.
use Rattle.std.proofs.Common.{◌≡◌, ◌≢◌, ℕ, ◌+◌, ◌≤◌, Bool, true, false, not, ◌&&◌, if◌then◌else◌, cond, IsTrue, List, [], ◌∷◌, ◌++◌, length, drop, slice_get, append_assoc, append-nil, length-append, Contains, Option, Some, option_to_list, arith, inl, inr, refl, sym, ap, ◌∙◌, subst, true≢false}
use Rattle.std.proofs.lemmas.Bool.{and_parts, and_from}
use Rattle.std.specs.FinMap as map
use Rattle.ak_address.specs.Unique.{UniqueModel}
use Rattle.ak_address.specs.Uniques.{UniqueSet, has}
use Rattle.ak_address.proofs.Elements.{contains_first, contains_rest, first_or_rest, contains_nothing}
use Rattle.ak_member.specs.declared.effect.Effect.{Effect}
use Rattle.ak_member.specs.declared.effect.Effect.TheVariants.{Rise}
use Rattle.ak_member.specs.declared.status.Status.{Status}
use Rattle.ak_member.specs.declared.status.Status.TheVariants.{Joining, WeaklyUp}
use Rattle.ak_member.specs.Standing.{member_of, members_of, member_pairs, is_joining}
use Rattle.ak_member.specs.View.{View}
use Rattle.ak_member.specs.declared.standing.Standing.{Standing}
use Rattle.ak_member.proofs.MemberLemmas.{KeepsPairs, kept_pair, kept_at_end, keeps_members}
use Rattle.ak_member.proofs.MembersLaws.{members_have, have_members}
use Rattle.ak_reach.specs.Unreachable.{unreachable_members, IsUnreachable}
use Rattle.ak_reach.proofs.UnreachableLaws.{unreachable_means}
use Rattle.ak_leader.specs.Leader.{is_let_in, all_let_in, weak_effects}
use Rattle.ak_leader.specs.Led.{IsMemberWith}
use Rattle.ak_leader.proofs.LedLaws.{joins}

abbrev MemberPair : Type 0
MemberPair = UniqueModel × (Status × ℕ)

-- ---- along the pairs
let_in_from : (lost : UniqueSet) (ms : List MemberPair) (x : Effect) → Contains (all_let_in lost ms) x → (m : MemberPair) × Contains ms m × (is_let_in lost m ≡ true) × (x ≡ Rise m.0 WeaklyUp 0)
let_in_from lost [] x there = absurd (contains_nothing x there)
let_in_from lost (m ∷ ms) x there = by_test (λ more. let d = let_in_from lost ms x more in (d.0, contains_rest m d.0 ms d.1, d.2, d.3)) (is_let_in lost m) refl there
  where
    by_test : (Contains (all_let_in lost ms) x → (n : MemberPair) × Contains (m ∷ ms) n × (is_let_in lost n ≡ true) × (x ≡ Rise n.0 WeaklyUp 0))
        → (b : Bool) → is_let_in lost m ≡ b → Contains (if b then Rise m.0 WeaklyUp 0 ∷ all_let_in lost ms else all_let_in lost ms) x
        → (n : MemberPair) × Contains (m ∷ ms) n × (is_let_in lost n ≡ true) × (x ≡ Rise n.0 WeaklyUp 0)
    by_test later true is h = elim (first_or_rest (Rise m.0 WeaklyUp 0) x (all_let_in lost ms) h) [
      | inl same ↦ (m, contains_first m ms, is, same)
      | inr more ↦ later more
    ]
    by_test later false is h = later h

let_in_each : (lost : UniqueSet) (ms : List MemberPair) (m : MemberPair) → Contains ms m → is_let_in lost m ≡ true → Contains (all_let_in lost ms) (Rise m.0 WeaklyUp 0)
let_in_each lost [] m there is = absurd (contains_nothing m there)
let_in_each lost (n ∷ ms) m there is = elim (first_or_rest n m ms there) [
  | inl same ↦ here (is_let_in lost n) (ap (is_let_in lost) (sym same) ∙ is) (ap (λ (p : MemberPair). p.0) same)
  | inr later ↦ past (is_let_in lost n) (let_in_each lost ms m later is)
]
  where
    here : (b : Bool) → b ≡ true → m.0 ≡ n.0 → Contains (if b then Rise n.0 WeaklyUp 0 ∷ all_let_in lost ms else all_let_in lost ms) (Rise m.0 WeaklyUp 0)
    here true so same = subst (λ u. Contains (Rise n.0 WeaklyUp 0 ∷ all_let_in lost ms) (Rise u WeaklyUp 0)) (sym same) (contains_first (Rise n.0 WeaklyUp 0) (all_let_in lost ms))
    here false so same = absurd (true≢false (sym so))

    past : (b : Bool) → Contains (all_let_in lost ms) (Rise m.0 WeaklyUp 0) → Contains (if b then Rise n.0 WeaklyUp 0 ∷ all_let_in lost ms else all_let_in lost ms) (Rise m.0 WeaklyUp 0)
    past true h = contains_rest (Rise n.0 WeaklyUp 0) (Rise m.0 WeaklyUp 0) (all_let_in lost ms) h
    past false h = h

-- ---- in words
not_so : (b : Bool) → not b ≡ true → b ≡ true → ⊥
not_so true none some = true≢false (sym none)
not_so false none some = true≢false (sym some)

none_so : (b : Bool) → (b ≡ true → ⊥) → not b ≡ true
none_so true never = absurd (never refl)
none_so false never = refl

module _ (v : View) where
  pub weak_from : (x : Effect) → Contains (weak_effects v) x → (who : UniqueModel) × IsMemberWith v.standings who Joining × (IsUnreachable v who → ⊥) × (x ≡ Rise who WeaklyUp 0)
  weak_from x there =
      let d = let_in_from (unreachable_members v) (members_of v.standings) x there in
      let parts = and_parts (is_joining d.0.1.0) (not (has (unreachable_members v) d.0.0)) d.2 in (
        d.0.0,
        (d.0.1.1, members_have v.standings d.0 d.1 ∙ ap (λ (status : Status). Some (status, d.0.1.1)) (joins d.0.1.0 parts.0)),
        λ lost. not_so (has (unreachable_members v) d.0.0) parts.1 ((unreachable_means v d.0.0).1 lost),
        d.3,
      )

  pub weak_each : (who : UniqueModel) → IsMemberWith v.standings who Joining → (IsUnreachable v who → ⊥) → Contains (weak_effects v) (Rise who WeaklyUp 0)
  weak_each who member reached =
      let_in_each (unreachable_members v) (members_of v.standings) (who, (Joining, member.0)) (have_members v.standings who (Joining, member.0) member.1)
      (and_from (is_joining Joining) (not (has (unreachable_members v) who)) refl (none_so (has (unreachable_members v) who) (λ lost. reached ((unreachable_means v who).0 lost))))

-- ---- along the pairs that are known
abbrev pub let_in_among : UniqueSet → List (UniqueModel × Standing) → List Effect
let_in_among lost pairs = all_let_in lost (member_pairs pairs)

module _ (lost : UniqueSet) where
  let_in_append : (xs ys : List MemberPair) → all_let_in lost (xs ++ ys) ≡ all_let_in lost xs ++ all_let_in lost ys
  let_in_append [] ys = refl
  let_in_append (x ∷ xs) ys = next (is_let_in lost x) (let_in_append xs ys)
    where
      next : (b : Bool) → all_let_in lost (xs ++ ys) ≡ all_let_in lost xs ++ all_let_in lost ys
          → cond b (Rise x.0 WeaklyUp 0 ∷ all_let_in lost (xs ++ ys)) (all_let_in lost (xs ++ ys)) ≡ cond b (Rise x.0 WeaklyUp 0 ∷ all_let_in lost xs) (all_let_in lost xs) ++ all_let_in lost ys
      next true h = ap (λ l. Rise x.0 WeaklyUp 0 ∷ l) h
      next false h = h

  keeps_let_in : KeepsPairs (let_in_among lost)
  keeps_let_in = record { none = refl; more = λ x xs. ap (all_let_in lost) (keeps_members.more x xs) ∙ let_in_append (member_pairs (x ∷ [])) (member_pairs xs) }

  module _ (es : List (UniqueModel × Standing)) (i : ℕ) where
    pub let_in_next : (o : Option Effect) (effects total : List Effect) → option_to_list o ≡ let_in_among lost (option_to_list (slice_get es i))
        → effects ++ let_in_among lost (drop i es) ≡ total → (effects ++ option_to_list o) ++ let_in_among lost (drop (i + 1) es) ≡ total
    let_in_next o effects total is so_far =
        append_assoc effects (option_to_list o) (let_in_among lost (drop (i + 1) es)) ∙ ap (λ l. effects ++ l) (sym (kept_pair (let_in_among lost) keeps_let_in es i o is)) ∙ so_far

    pub let_in_end : (effects total : List Effect) → length es ≤ i → effects ++ let_in_among lost (drop i es) ≡ total → effects ≡ total
    let_in_end effects total past so_far = sym (ap (λ l. effects ++ l) (kept_at_end (let_in_among lost) keeps_let_in es i past) ∙ append-nil effects) ∙ so_far

    pub someone_let_in : (effect : Effect) (effects total : List Effect) → effect ∷ [] ≡ let_in_among lost (option_to_list (slice_get es i)) → effects ++ let_in_among lost (drop i es) ≡ total → total ≢ []
    someone_let_in effect effects total is so_far none =
        let many = ap length (let_in_next (Some effect) effects total is so_far ∙ none) in
        let all = length-append (effects ++ effect ∷ []) (let_in_among lost (drop (i + 1) es)) in
        let first = length-append effects (effect ∷ []) in
        absurd (omega arith)
