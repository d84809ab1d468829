-- Who is chosen, and when nobody is.
use Rattle.std.proofs.Common.{◌≡◌, ◌↔◌, ℕ, Bool, true, false, not, ◌&&◌, List, [], ◌∷◌, map, length, Contains, Option, Some, None, is_some, ◌⊎◌, inl, inr, refl, sym, ap, ◌∙◌, arith, true≢false}
use Rattle.std.specs.FinMap as finmap
use Rattle.std.specs.List.{filter}
use Rattle.std.specs.Ordering.{is_eq}
use Rattle.ak_address.specs.Unique.{UniqueModel, unique_cmp}
use Rattle.ak_address.specs.Uniques.{UniqueSet, has}
use Rattle.ak_address.proofs.Elements.{contains_nothing, in_filter, filter_in, in_map, map_in, contains_at}
use Rattle.ak_address.proofs.TableLaws.{key_itself, other_key}
use Rattle.ak_address.proofs.BoolLemmas.{both_true, not_true}
use Rattle.ak_member.specs.declared.status.Status.{Status}
use Rattle.ak_member.specs.Standing.{Standings, member_of, members_of}
use Rattle.ak_member.specs.View.{View}
use Rattle.ak_member.proofs.MembersLaws.{members_have, have_members}
use Rattle.ak_reach.specs.Unreachable.{unreachable_members}
use Rattle.ak_reach.proofs.UnreachableLaws.{unreachable_means}
use Rattle.ak_select.specs.Select.{is_reachable_other, reachable_others, unless_empty, candidates, chosen, peer, IsReachableOther}
use Rattle.ak_select.proofs.SelectLemmas.{somebody_chosen}

abbrev process : UniqueModel × (Status × ℕ) → UniqueModel
process pair = pair.0

-- ---- tests
no_and_no : (a b : Bool) → a ≡ false → b ≡ false → (not a && not b) ≡ true
no_and_no true b p q = absurd (true≢false p)
no_and_no false true p q = absurd (true≢false q)
no_and_no false false p q = refl

-- ---- the other reachable members
there : (s : Standings) (who : UniqueModel) (o : Option (Status × ℕ)) → member_of (finmap.get s who) ≡ o → is_some o ≡ true → Contains (map process (members_of s)) who
there s who None at is = absurd (true≢false (sym is))
there s who (Some m) at is = map_in process (members_of s) (who, m) (have_members s who m at)

pub is_other : (v : View) (me who : UniqueModel) → Contains (reachable_others v me) who → IsReachableOther v me who
is_other v me who contains =
    let h = in_filter (is_reachable_other v me) (map process (members_of v.standings)) who contains in
    let m = in_map process (members_of v.standings) who h.0 in
    let two = both_true (not (is_eq (unique_cmp who me))) (not (has (unreachable_members v) who)) h.1 in
    record {
      member = ap (λ u. is_some (member_of (finmap.get v.standings u))) m.2 ∙ ap is_some (members_have v.standings m.0 m.1);
      other = λ same. true≢false (sym (ap (λ u. is_eq (unique_cmp u me)) same ∙ key_itself me) ∙ not_true _ two.0);
      reachable = λ lost. true≢false (sym ((unreachable_means v who).1 lost) ∙ not_true _ two.1);
    }

pub other_is : (v : View) (me who : UniqueModel) → IsReachableOther v me who → Contains (reachable_others v me) who
other_is v me who o =
    filter_in (is_reachable_other v me) (map process (members_of v.standings)) who (there v.standings who (member_of (finmap.get v.standings who)) refl o.member)
    (no_and_no (is_eq (unique_cmp who me)) (has (unreachable_members v) who) (other_key who me o.other) (reached (has (unreachable_members v) who) refl))
  where
    reached : (b : Bool) → has (unreachable_members v) who ≡ b → b ≡ false
    reached true is = absurd (o.reachable ((unreachable_means v who).0 is))
    reached false is = refl

-- ---- some first, else all
either_has : (unseen others : List UniqueModel) (who : UniqueModel) → Contains (unless_empty unseen others) who → Contains unseen who ⊎ Contains others who
either_has [] others who h = inr h
either_has (x ∷ unseen) others who h = inl h

unseen_has : (unseen others : List UniqueModel) (other who : UniqueModel) → Contains unseen other → Contains (unless_empty unseen others) who → Contains unseen who
unseen_has [] others other who some h = absurd (contains_nothing other some)
unseen_has (x ∷ unseen) others other who some h = h

none_of_either : (unseen others : List UniqueModel) → length (unless_empty unseen others) ≡ 0 → length others ≡ 0
none_of_either [] others h = h
none_of_either (x ∷ unseen) others h = absurd (omega arith)

abbrev unseen_others : View → UniqueSet → UniqueModel → List UniqueModel
unseen_others v seen me = filter (λ who. not (has seen who)) (reachable_others v me)

pub peer_reachable : (word : ℕ) (v : View) (seen : UniqueSet) (me who : UniqueModel) → peer word v seen me ≡ Some who → IsReachableOther v me who
peer_reachable word v seen me who is =
    is_other v me who (elim (either_has (unseen_others v seen me) (reachable_others v me) who (contains_at (candidates v seen me) _ who is)) [
      | inl unseen ↦ (in_filter (λ who. not (has seen who)) (reachable_others v me) who unseen).0
      | inr any ↦ any
    ])

pub peer_unseen_first : (word : ℕ) (v : View) (seen : UniqueSet) (me who other : UniqueModel) → peer word v seen me ≡ Some who → IsReachableOther v me other → has seen other ≡ false → has seen who ≡ false
peer_unseen_first word v seen me who other is o unseen =
    let one = filter_in (λ who. not (has seen who)) (reachable_others v me) other (other_is v me other o) (ap not unseen) in
    not_true (has seen who) (in_filter (λ who. not (has seen who)) (reachable_others v me) who
    (unseen_has (unseen_others v seen me) (reachable_others v me) other who one (contains_at (candidates v seen me) _ who is))).1

pub peer_none : (word : ℕ) (v : View) (seen : UniqueSet) (me : UniqueModel) → (peer word v seen me ≡ None) ↔ ((who : UniqueModel) → ¬ IsReachableOther v me who)
peer_none word v seen me = (forward, back)
  where
    empty : (xs : List UniqueModel) → chosen word xs ≡ None → length xs ≡ 0
    empty [] is = refl
    empty (x ∷ xs) is = let some = somebody_chosen word (x ∷ xs) (omega arith) in absurd (true≢false (ap is_some (sym some.1 ∙ is)))

    has_none : (xs : List UniqueModel) → length xs ≡ 0 → (who : UniqueModel) → Contains xs who → ⊥
    has_none xs none who h = let lt = h.1 in omega arith

    forward : peer word v seen me ≡ None → (who : UniqueModel) → IsReachableOther v me who → ⊥
    forward is who o =
        let none = empty (candidates v seen me) is in
        has_none (reachable_others v me) (none_of_either (unseen_others v seen me) (reachable_others v me) none) who (other_is v me who o)

    back : ((who : UniqueModel) → IsReachableOther v me who → ⊥) → peer word v seen me ≡ None
    back nobody = by_chosen (peer word v seen me) refl
      where
        by_chosen : (o : Option UniqueModel) → peer word v seen me ≡ o → peer word v seen me ≡ None
        by_chosen None is = is
        by_chosen (Some who) is = absurd (nobody who (peer_reachable word v seen me who is))
