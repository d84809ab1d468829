-- What it means that a view stood still.
use Rattle.std.proofs.Common.{◌≡◌, ◌==◌, Bool, true, false, not, ◌||◌, List, [], ◌∷◌, Option, Some, None, option_map, inl, inr, Contains, refl, sym, ap, ◌∙◌, subst, true≢false, ℕ}
use Rattle.std.proofs.lemmas.Bool.{eqb-true, or_parts}
use Rattle.std.specs.List.{list_any}
use Rattle.std.specs.FinMap as map
use Rattle.ak_address.specs.Unique.{UniqueModel}
use Rattle.ak_address.specs.Uniques.{has}
use Rattle.ak_address.proofs.Elements.{contains_first, contains_rest, first_or_rest, contains_nothing}
use Rattle.ak_address.proofs.BoolLemmas.{both_true, not_false}
use Rattle.ak_member.specs.declared.status.Status.{Status}
use Rattle.ak_member.specs.Standing.{member_of, members_of, rank}
use Rattle.ak_member.specs.View.{View}
use Rattle.ak_member.proofs.MembersLaws.{have_members}
use Rattle.ak_member.proofs.StandingLaws.{same_rank}
use Rattle.ak_reach.specs.Unreachable.{unreachable_members}
use Rattle.ak_sight.specs.Sight.{sight, is_same_reach, is_same_sight, is_otherwise, shows_otherwise, has_moved}
use Rattle.ak_sight.proofs.SightLaws.{sight_itself}

-- ---- tests over a list
pub none_any : {X : Type 0} (p : X → Bool) (xs : List X) → list_any p xs ≡ false → (x : X) → Contains xs x → p x ≡ false
none_any p [] is x there = absurd (contains_nothing x there)
none_any p (y ∷ xs) is x there = elim (first_or_rest y x xs there) [
  | inl same ↦ subst (λ z. p z ≡ false) (sym same) (or_parts (p y) (list_any p xs) is).0
  | inr later ↦ none_any p xs (or_parts (p y) (list_any p xs) is).1 x later
]

pub all_none : {X : Type 0} (p : X → Bool) (xs : List X) → ((x : X) → Contains xs x → p x ≡ false) → list_any p xs ≡ false
all_none p [] each = refl
all_none p (y ∷ xs) each = λ i. each y (contains_first y xs) i || all_none p xs (λ x there. each x (contains_rest y x xs there)) i

-- ---- the same sight
same_reach : (one other : Bool) → is_same_reach one other ≡ true → one ≡ other
same_reach true true is = refl
same_reach true false is = absurd (true≢false (sym is))
same_reach false true is = absurd (true≢false (sym is))
same_reach false false is = refl

pub same_sight : (one other : Option (Status × Bool)) → is_same_sight one other ≡ true → one ≡ other
same_sight None None is = refl
same_sight None (Some other) is = absurd (true≢false (sym is))
same_sight (Some one) None is = absurd (true≢false (sym is))
same_sight (Some one) (Some other) is =
    let both = both_true (rank one.0 == rank other.0) (is_same_reach one.1 other.1) is in
    λ i. Some (same_rank one.0 other.0 (eqb-true (rank one.0) (rank other.0) both.0) i, same_reach one.1 other.1 both.1 i)

-- ---- a view stood still where each process is shown the same
module _ (v w : View) where
  member_shown : (x y : View) → shows_otherwise x y ≡ false → (who : UniqueModel) (m : Status × ℕ) → member_of (map.get x.standings who) ≡ Some m → sight x who ≡ sight y who
  member_shown x y still who m at =
      same_sight (sight x who) (sight y who) (not_false (is_same_sight (sight x who) (sight y who)) (none_any (λ k. is_otherwise x y k.0) (members_of x.standings) still (who, m) (have_members x.standings who m at)))

  no_member : (x : View) (who : UniqueModel) → member_of (map.get x.standings who) ≡ None → sight x who ≡ None
  no_member x who none = ap (option_map (λ (m : Status × ℕ). (m.0, has (unreachable_members x) who))) none

  pub stood_still : has_moved v w ≡ false → (who : UniqueModel) → sight v who ≡ sight w who
  stood_still still who = by_case (member_of (map.get v.standings who)) refl (member_of (map.get w.standings who)) refl
    where
      both : (shows_otherwise v w ≡ false) × (shows_otherwise w v ≡ false)
      both = or_parts (shows_otherwise v w) (shows_otherwise w v) still

      by_case : (o : Option (Status × ℕ)) → member_of (map.get v.standings who) ≡ o → (p : Option (Status × ℕ)) → member_of (map.get w.standings who) ≡ p → sight v who ≡ sight w who
      by_case (Some m) at p there = member_shown v w both.0 who m at
      by_case None at (Some m) there = sym (member_shown w v both.1 who m there)
      by_case None at None there = no_member v who at ∙ sym (no_member w who there)

  alike : (x y : View) → ((who : UniqueModel) → sight x who ≡ sight y who) → shows_otherwise x y ≡ false
  alike x y same = all_none (λ k. is_otherwise x y k.0) (members_of x.standings) (λ k there. ap (λ o. not (is_same_sight (sight x k.0) o)) (sym (same k.0)) ∙ ap not (sight_itself (sight x k.0)))

  pub stands_still : ((who : UniqueModel) → sight v who ≡ sight w who) → has_moved v w ≡ false
  stands_still same = λ i. alike v w same i || alike w v (λ who. sym (same who)) i
