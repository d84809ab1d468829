-- The walks of the calls along the members, and that the leader is the first that may lead.
use Rattle.std.proofs.Common.{◌≡◌, ◌≢◌, ℕ, ◌+◌, ◌≤◌, max, Bool, true, false, not, cond, ◌⊎◌, inl, inr, T, List, [], ◌∷◌, ◌++◌, length, drop, slice_get, Option, Some, None, option_map, option_to_list, Contains, refl, sym, ap, ◌∙◌, subst, append_assoc, append-nil, arith, true≢false}
use Rattle.std.proofs.lemmas.Bool.{and_parts, and_from}
use Rattle.std.proofs.lemmas.List.Folds.{find-append}
use Rattle.std.proofs.lemmas.List.{length-append}
use Rattle.std.proofs.lemmas.Option.{none-some, same_Some}
use Rattle.std.specs.declared.cmp.Ordering.TheVariants.{Less}
use Rattle.std.specs.List.{find}
use Rattle.std.specs.Option.{option_or}
use Rattle.std.specs.FinMap as map
use Rattle.ak_address.specs.Unique.{UniqueModel, unique_cmp}
use Rattle.ak_address.specs.Uniques.{UniqueSet, has}
use Rattle.ak_address.proofs.TableLaws.{none_of_length}
use Rattle.ak_address.proofs.OrderLemmas.{unique_total}
use Rattle.ak_address.proofs.Pairs.{first, second, below_at}
use Rattle.ak_member.specs.declared.effect.Effect.{Effect}
use Rattle.ak_member.specs.declared.effect.Effect.TheVariants.{Rise}
use Rattle.ak_member.specs.declared.standing.Standing.{Standing}
use Rattle.ak_member.specs.declared.standing.Standing.TheVariants.{Member, Buried}
use Rattle.ak_member.specs.declared.status.Status.{Status}
use Rattle.ak_member.specs.declared.status.Status.TheVariants.{Up}
use Rattle.ak_member.specs.Standing.{Standings, member_pairs, members_of, is_joining}
use Rattle.ak_member.specs.Age.{counts}
use Rattle.ak_member.specs.View.{View}
use Rattle.ak_address.proofs.Elements.{contains_first, contains_rest, first_or_rest, contains_nothing, index_of}
use Rattle.ak_member.proofs.MemberLemmas.{KeepsPairs, kept_from, kept_pair, kept_at_end, keeps_members}
use Rattle.ak_member.proofs.MembersLaws.{members_have, have_members, members_sorted}
use Rattle.ak_reach.specs.Unreachable.{unreachable_members}
use Rattle.ak_reach.proofs.UnreachableLaws.{unreachable_means}
use Rattle.ak_leader.specs.Leader.{may_lead, leader, MayLead, IsLeader, greatest_number, number_after, led, all_led, all_founded}
use Rattle.ak_leader.specs.Walk.{number_past, joining, numbered}

abbrev MemberPair : Type 0
MemberPair = UniqueModel × (Status × ℕ)

-- ---- the first that may lead, along the pairs
abbrev pub first_of : (MemberPair → Bool) → List MemberPair → Option UniqueModel
first_of p ms = option_map (λ (m : MemberPair). m.0) (find p ms)

of_first : (a b : Option MemberPair) (o : Option UniqueModel) → o ≡ option_map (λ (m : MemberPair). m.0) a → (who : UniqueModel) → o ≡ Some who → o ≡ option_map (λ (m : MemberPair). m.0) (option_or a b)
of_first None b o is who some = absurd (none-some who (sym is ∙ some))
of_first (Some m) b o is who some = is

of_rest : (a b : Option MemberPair) (o : Option UniqueModel) → o ≡ option_map (λ (m : MemberPair). m.0) a → o ≡ None → option_map (λ (m : MemberPair). m.0) b ≡ option_map (λ (m : MemberPair). m.0) (option_or a b)
of_rest None b o is none = refl
of_rest (Some m) b o is none = absurd (none-some m.0 (sym none ∙ is))

module _ (p : MemberPair → Bool) (es : List (UniqueModel × Standing)) (i : ℕ) where
  first_split : first_of p (member_pairs (drop i es)) ≡ option_map (λ (m : MemberPair). m.0) (option_or (find p (member_pairs (option_to_list (slice_get es i)))) (find p (member_pairs (drop (i + 1) es))))
  first_split =
      ap (first_of p) (kept_from member_pairs keeps_members es i)
      ∙ ap (option_map (λ (m : MemberPair). m.0)) (find-append p (member_pairs (option_to_list (slice_get es i))) (member_pairs (drop (i + 1) es)))

  pub first_here : (o : Option UniqueModel) → o ≡ first_of p (member_pairs (option_to_list (slice_get es i))) → (who : UniqueModel) → o ≡ Some who → o ≡ first_of p (member_pairs (drop i es))
  first_here o is who some = of_first _ (find p (member_pairs (drop (i + 1) es))) o is who some ∙ sym first_split

  pub first_later : (o : Option UniqueModel) → o ≡ first_of p (member_pairs (option_to_list (slice_get es i))) → o ≡ None → first_of p (member_pairs (drop (i + 1) es)) ≡ first_of p (member_pairs (drop i es))
  first_later o is none = of_rest _ (find p (member_pairs (drop (i + 1) es))) o is none ∙ sym first_split

-- ---- the first that may lead, in words
found_passes : (p : MemberPair → Bool) (ms : List MemberPair) (m : MemberPair) → find p ms ≡ Some m → Contains ms m × (p m ≡ true)
found_passes p [] m is = absurd (none-some m is)
found_passes p (y ∷ ms) m is = by_head (p y) refl is (λ h. found_passes p ms m h)
  where
    by_head : (b : Bool) → p y ≡ b → cond b (Some y) (find p ms) ≡ Some m → (find p ms ≡ Some m → Contains ms m × (p m ≡ true)) → Contains (y ∷ ms) m × (p m ≡ true)
    by_head true here is rest = let same = same_Some y m is in (subst (Contains (y ∷ ms)) same (contains_first y ms), ap p (sym same) ∙ here)
    by_head false here is rest = let h = rest is in (contains_rest y m ms h.0, h.1)

none_passes : (p : MemberPair → Bool) (ms : List MemberPair) → find p ms ≡ None → (m : MemberPair) → Contains ms m → p m ≡ true → ⊥
none_passes p [] is m there passes = contains_nothing m there
none_passes p (y ∷ ms) is m there passes = by_head (p y) refl is (λ h later. none_passes p ms h m later passes)
  where
    by_head : (b : Bool) → p y ≡ b → cond b (Some y) (find p ms) ≡ None → (find p ms ≡ None → Contains ms m → ⊥) → ⊥
    by_head true here is rest = none-some y (sym is)
    by_head false here is rest = elim (first_or_rest y m ms there) [ inl same ↦ true≢false (sym passes ∙ ap p same ∙ here) | inr later ↦ rest is later ]

comes_first : (p : MemberPair → Bool) (ms : List MemberPair) (m : MemberPair) → T (map.is_sorted unique_cmp ms) → find p ms ≡ Some m → (other : MemberPair) → Contains ms other → p other ≡ true → (other.0 ≡ m.0) ⊎ (unique_cmp m.0 other.0 ≡ Less)
comes_first p [] m sorted is other there passes = absurd (contains_nothing other there)
comes_first p (y ∷ ms) m sorted is other there passes = by_head (p y) refl is (λ h later. comes_first p ms m (second _ _ sorted) h other later passes)
  where
    below : Contains ms other → unique_cmp y.0 other.0 ≡ Less
    below later = let at = index_of ms other later in below_at unique_cmp unique_total y.0 ms at.0 other (first _ _ sorted) at.1

    by_head : (b : Bool) → p y ≡ b → cond b (Some y) (find p ms) ≡ Some m → (find p ms ≡ Some m → Contains ms other → (other.0 ≡ m.0) ⊎ (unique_cmp m.0 other.0 ≡ Less)) → (other.0 ≡ m.0) ⊎ (unique_cmp m.0 other.0 ≡ Less)
    by_head true here is rest =
        let same = same_Some y m is in
        elim (first_or_rest y other ms there) [
          | inl first ↦ inl (ap (λ (r : MemberPair). r.0) (first ∙ same))
          | inr later ↦ inr (subst (λ (r : MemberPair). unique_cmp r.0 other.0 ≡ Less) same (below later))
        ]
    by_head false here is rest = elim (first_or_rest y other ms there) [ inl same ↦ absurd (true≢false (sym passes ∙ ap p same ∙ here)) | inr later ↦ rest is later ]

not_so : (b : Bool) → (b ≡ true → ⊥) → not b ≡ true
not_so true never = absurd (never refl)
not_so false never = refl

so_not : (b : Bool) → not b ≡ true → b ≡ true → ⊥
so_not true is so = true≢false (sym is)
so_not false is so = true≢false (sym so)

module _ (v : View) where
  passes_may : (m : MemberPair) → Contains (members_of v.standings) m → may_lead (unreachable_members v) m ≡ true → MayLead v m.0
  passes_may m there passes =
      let parts = and_parts (counts m.1.0) (not (has (unreachable_members v) m.0)) passes in
      (m.1.1, (m.1.0, members_have v.standings m there, parts.0), λ lost. so_not (has (unreachable_members v) m.0) parts.1 ((unreachable_means v m.0).1 lost))

  may_pass : (who : UniqueModel) → MayLead v who → (m : MemberPair) × (m.0 ≡ who) × Contains (members_of v.standings) m × (may_lead (unreachable_members v) m ≡ true)
  may_pass who may =
      let counted = may.1 in (
        (who, (counted.0, may.0)),
        refl,
        have_members v.standings who (counted.0, may.0) counted.1,
        and_from (counts counted.0) (not (has (unreachable_members v) who)) counted.2 (not_so (has (unreachable_members v) who) (λ lost. may.2 ((unreachable_means v who).0 lost))),
      )

  leader_found : (o : Option MemberPair) → find (may_lead (unreachable_members v)) (members_of v.standings) ≡ o → IsLeader v (option_map (λ (m : MemberPair). m.0) o)
  leader_found None is = λ who may. let m = may_pass who may in none_passes (may_lead (unreachable_members v)) (members_of v.standings) is m.0 m.2 m.3
  leader_found (Some m) is =
      let found = found_passes (may_lead (unreachable_members v)) (members_of v.standings) m is in (
        passes_may m found.0 found.1,
        λ other may.
            let n = may_pass other may in
            subst (λ k. (k ≡ m.0) ⊎ (unique_cmp m.0 k ≡ Less)) n.1 (comes_first (may_lead (unreachable_members v)) (members_of v.standings) m (members_sorted v.standings) is n.0 n.2 n.3),
      )

  pub leader_is : (o : Option UniqueModel) → o ≡ leader v → IsLeader v o
  leader_is o is = subst (IsLeader v) (sym is) (leader_found (find (may_lead (unreachable_members v)) (members_of v.standings)) refl)

-- ---- one pass
greatest_more : (xs ys : List MemberPair) → greatest_number (xs ++ ys) ≡ max (greatest_number xs) (greatest_number ys)
greatest_more [] ys = omega arith
greatest_more (x ∷ xs) ys = let rest = greatest_more xs ys in omega arith

pub greatest_next : (es : List (UniqueModel × Standing)) (i so_far next total : ℕ) → next ≡ max (greatest_number (member_pairs (option_to_list (slice_get es i)))) so_far
    → max so_far (greatest_number (member_pairs (drop i es))) ≡ total → max next (greatest_number (member_pairs (drop (i + 1) es))) ≡ total
greatest_next es i so_far next total is before =
    let split = ap greatest_number (kept_from member_pairs keeps_members es i) ∙ greatest_more (member_pairs (option_to_list (slice_get es i))) (member_pairs (drop (i + 1) es)) in
    omega arith

module _ (lost confirmed : UniqueSet) where
  led_more : (number : ℕ) (xs ys : List MemberPair) → all_led lost confirmed number (xs ++ ys) ≡ all_led lost confirmed number xs ++ all_led lost confirmed (number_past number xs) ys
  led_more number [] ys = refl
  led_more number (x ∷ xs) ys =
      ap (λ l. led lost confirmed number x ++ l) (led_more (number_after number x.1.0) xs ys)
      ∙ sym (append_assoc (led lost confirmed number x) (all_led lost confirmed (number_after number x.1.0) xs) (all_led lost confirmed (number_past (number_after number x.1.0) xs) ys))

  pub led_next : (es : List (UniqueModel × Standing)) (i number : ℕ) (so_far here all : List Effect) → here ≡ all_led lost confirmed number (member_pairs (option_to_list (slice_get es i)))
      → so_far ++ all_led lost confirmed number (member_pairs (drop i es)) ≡ all
      → (so_far ++ here) ++ all_led lost confirmed (number_past number (member_pairs (option_to_list (slice_get es i)))) (member_pairs (drop (i + 1) es)) ≡ all
  led_next es i number so_far here all is before =
      let ms = member_pairs (option_to_list (slice_get es i)) in
      let rest = all_led lost confirmed (number_past number ms) (member_pairs (drop (i + 1) es)) in
      append_assoc so_far here rest
      ∙ ap (λ l. so_far ++ (l ++ rest)) is
      ∙ ap (λ l. so_far ++ l) (sym (ap (all_led lost confirmed number) (kept_from member_pairs keeps_members es i) ∙ led_more number ms (member_pairs (drop (i + 1) es))))
      ∙ before

  pub led_end : (es : List (UniqueModel × Standing)) (i number : ℕ) (so_far all : List Effect) → length es ≤ i → so_far ++ all_led lost confirmed number (member_pairs (drop i es)) ≡ all → so_far ≡ all
  led_end es i number so_far all past before =
      sym (append-nil so_far) ∙ ap (λ ms. so_far ++ all_led lost confirmed number ms) (sym (kept_at_end member_pairs keeps_members es i past)) ∙ before

-- ---- the founding
abbrev pub joining_among : List (UniqueModel × Standing) → List UniqueModel
joining_among es = joining (member_pairs es)

pub keeps_joining : KeepsPairs joining_among
keeps_joining = record { none = refl; more = more }
  where
    more_pairs : (m : MemberPair) (ms : List MemberPair) → joining (m ∷ ms) ≡ joining (m ∷ []) ++ joining ms
    more_pairs m ms = elim (is_joining m.1.0) as (λ b. cond b (m.0 ∷ joining ms) (joining ms) ≡ cond b (m.0 ∷ []) [] ++ joining ms) [ true ↦ refl | false ↦ refl ]

    more : (x : UniqueModel × Standing) (xs : List (UniqueModel × Standing)) → joining_among (x ∷ xs) ≡ joining_among (x ∷ []) ++ joining_among xs
    more (who, Member status number) xs = more_pairs (who, (status, number)) (member_pairs xs)
    more (who, Buried confirmed) xs = refl

pub founded_numbered : (number : ℕ) (ms : List MemberPair) → numbered number (joining ms) ≡ all_founded number ms
founded_numbered number [] = refl
founded_numbered number (m ∷ ms) = by_status (is_joining m.1.0) (founded_numbered (number + 1) ms) (founded_numbered number ms)
  where
    by_status : (b : Bool) → numbered (number + 1) (joining ms) ≡ all_founded (number + 1) ms → numbered number (joining ms) ≡ all_founded number ms
        → numbered number (cond b (m.0 ∷ joining ms) (joining ms)) ≡ cond b (Rise m.0 Up (number + 1) ∷ all_founded (number + 1) ms) (all_founded number ms)
    by_status true more same = ap (λ l. Rise m.0 Up (number + 1) ∷ l) more
    by_status false more same = same

pub founded_next : (es : List (UniqueModel × Standing)) (i number : ℕ) (o : Option UniqueModel) (so_far all : List Effect) → option_to_list o ≡ joining_among (option_to_list (slice_get es i))
    → so_far ++ numbered number (joining_among (drop i es)) ≡ all
    → so_far ++ numbered number (option_to_list o ++ joining_among (drop (i + 1) es)) ≡ all
founded_next es i number o so_far all is before = ap (λ l. so_far ++ numbered number l) (sym (kept_pair joining_among keeps_joining es i o is)) ∙ before

pub founded_more : (so_far effects all : List Effect) (who copy : UniqueModel) (number next : ℕ) (rest : List UniqueModel) → copy ≡ who → next ≡ number + 1 → effects ≡ so_far ++ Rise copy Up (number + 1) ∷ []
    → so_far ++ numbered number (who ∷ rest) ≡ all → effects ++ numbered next rest ≡ all
founded_more so_far effects all who copy number next rest same more is before =
    (λ i. is i ++ numbered (more i) rest)
    ∙ append_assoc so_far (Rise copy Up (number + 1) ∷ []) (numbered (number + 1) rest)
    ∙ ap (λ k. so_far ++ Rise k Up (number + 1) ∷ numbered (number + 1) rest) same
    ∙ before

pub founded_end : (s : Standings) (i number : ℕ) (so_far : List Effect) → length (map.entries s) ≤ i → so_far ++ numbered number (joining_among (drop i (map.entries s))) ≡ numbered 0 (joining_among (map.entries s)) → so_far ≡ all_founded 0 (members_of s)
founded_end s i number so_far past before =
    sym (append-nil so_far) ∙ ap (λ l. so_far ++ numbered number l) (sym (kept_at_end joining_among keeps_joining (map.entries s) i past)) ∙ before ∙ founded_numbered 0 (members_of s)

-- ---- where an effect is made, there is one
pub some_made : (before here rest all : List Effect) → (before ++ here) ++ rest ≡ all → here ≢ [] → all ≢ []
some_made before here rest all is some none =
    some (none_of_length here (omega (arith, ap length (is ∙ none), length-append (before ++ here) rest, length-append before here)))

pub some_led : (lost confirmed : UniqueSet) (es : List (UniqueModel × Standing)) (i number : ℕ) (so_far all : List Effect)
    → so_far ++ all_led lost confirmed number (member_pairs (drop i es)) ≡ all → all_led lost confirmed number (member_pairs (option_to_list (slice_get es i))) ≢ [] → all ≢ []
some_led lost confirmed es i number so_far all before some = some_made so_far _ _ all (led_next lost confirmed es i number so_far _ all refl before) some

pub some_founded : (s : Standings) (i number : ℕ) (who : UniqueModel) (so_far : List Effect) → who ∷ [] ≡ joining_among (option_to_list (slice_get (map.entries s) i))
    → so_far ++ numbered number (joining_among (drop i (map.entries s))) ≡ numbered 0 (joining_among (map.entries s)) → all_founded 0 (members_of s) ≢ []
some_founded s i number who so_far is before none =
    let es = map.entries s in
    let one = Rise who Up (number + 1) ∷ numbered (number + 1) (joining_among (drop (i + 1) es)) in
    let whole : so_far ++ one ≡ [] = founded_next es i number (Some who) so_far _ is before ∙ founded_numbered 0 (members_of s) ∙ none in
    absurd (omega (arith, ap length whole, length-append so_far one))
