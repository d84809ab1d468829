-- Who is silent and not named by the node's own row is found along those that are watched, and who is named and not silent along
-- the subjects of the row.
use Rattle.std.proofs.Common.{◌≡◌, Bool, true, false, cond, not, ◌&&◌, List, [], ◌∷◌, Contains, refl, sym, ap, ◌∙◌, true≢false}
use Rattle.std.specs.List.{list_any}
use Rattle.ak_address.specs.Changed.{keys_of}
use Rattle.ak_address.specs.Unique.{UniqueModel}
use Rattle.ak_address.specs.Uniques.{UniqueSet, no_one, has, those, in_order}
use Rattle.ak_address.proofs.ChangedLaws.{has-keys_of}
use Rattle.ak_address.proofs.Elements.{contains_at, index_of}
use Rattle.ak_address.proofs.UniquesLaws.{has_at, index_of_has, has-no_one, has-those}
use Rattle.ak_detector.specs.Detector.{ticked}
use Rattle.ak_detector.proofs.DetectorLaws.{silent_watched, ticked_same}
use Rattle.ak_leader.specs.Leader.{leaders_effects, founding_effects, weak_effects}
use Rattle.ak_member.specs.declared.effect.Effect.{Effect}
use Rattle.ak_member.specs.declared.effect.Effect.TheVariants.{Observed}
use Rattle.ak_membership.specs.declared.state.MembershipState.{MembershipState}
use Rattle.ak_membership.specs.Membership.{unchanged, made, update, update_any, may_count}
use Rattle.ak_membership.specs.Tick.{silent, own_subjects, lacks, observes, decides, decided, founds, leads, lets_in, updates}
use Rattle.ak_sight.proofs.MovedLaws.{none_any, all_none}

in_set : (s : UniqueSet) (who : UniqueModel) → Contains (in_order s) who → has s who ≡ true
in_set s who there = let at = index_of (in_order s) who there in has_at s at.0 who at.1

in_list : (s : UniqueSet) (who : UniqueModel) → has s who ≡ true → Contains (in_order s) who
in_list s who there = let at = index_of_has s who there in contains_at (in_order s) at.0 who at.1

same_answer : (a b : Bool) → (a ≡ false → b ≡ false) → (b ≡ false → a ≡ false) → a ≡ b
same_answer true true one other = refl
same_answer true false one other = other refl
same_answer false true one other = sym (one refl)
same_answer false false one other = refl

-- a set is in another one: a walk along the other one finds by both tests what a walk along the set finds by one
module _ (s k : UniqueSet) (q t : UniqueModel → Bool) (inside : (who : UniqueModel) → has s who ≡ true → has k who ≡ true) (test : (who : UniqueModel) → has k who ≡ true → t who ≡ (has s who && q who)) where
  pub found_along : list_any t (in_order k) ≡ list_any q (in_order s)
  found_along = same_answer _ _ none_of_set none_of_other
    where
      none_of_set : list_any t (in_order k) ≡ false → list_any q (in_order s) ≡ false
      none_of_set none = all_none q (in_order s) (λ who there.
          let here = in_set s who there in
          let inner = inside who here in
          sym (ap (λ b. b && q who) here) ∙ sym (test who inner) ∙ none_any t (in_order k) none who (in_list k who inner))

      none_of_other : list_any q (in_order s) ≡ false → list_any t (in_order k) ≡ false
      none_of_other none = all_none t (in_order k) (λ who there. test who (in_set k who there) ∙ by_test who (has s who) refl)
        where
          by_test : (who : UniqueModel) (b : Bool) → has s who ≡ b → (b && q who) ≡ false
          by_test who true here = none_any q (in_order s) none who (in_list s who here)
          by_test who false here = refl

-- nobody is in no set
pub lacks_nobody : (s : UniqueSet) → lacks s no_one ≡ false
lacks_nobody s = all_none (λ who. not (has s who)) (in_order no_one) (λ who there. absurd (true≢false (sym (in_set no_one who there) ∙ has-no_one who)))

pub found_watched : (m : MembershipState) → list_any (λ who. has (silent m) who && not (has (own_subjects m) who)) (in_order (keys_of m.detector)) ≡ lacks (own_subjects m) (silent m)
found_watched m = found_along (silent m) (keys_of m.detector) (λ who. not (has (own_subjects m) who)) (λ who. has (silent m) who && not (has (own_subjects m) who)) inside (λ who there. refl)
  where
    inside : (who : UniqueModel) → has (silent m) who ≡ true → has (keys_of m.detector) who ≡ true
    inside who is = has-keys_of m.detector who ∙ sym (ticked_same m.settings.deadline m.detector who) ∙ silent_watched m.settings.deadline (ticked m.settings.deadline m.detector) who is

pub heard_subjects : (m : MembershipState) (subjects : UniqueSet) (p : UniqueModel → Bool) → list_any (λ who. p who && not (has (silent m) who)) (in_order subjects) ≡ lacks (silent m) (those subjects p)
heard_subjects m subjects p = found_along (those subjects p) subjects (λ who. not (has (silent m) who)) (λ who. p who && not (has (silent m) who)) inside test
  where
    first : (a b : Bool) → (a && b) ≡ true → a ≡ true
    first true b is = refl
    first false b is = is

    inside : (who : UniqueModel) → has (those subjects p) who ≡ true → has subjects who ≡ true
    inside who there = first _ _ (sym (has-those subjects p who) ∙ there)

    test : (who : UniqueModel) → has subjects who ≡ true → (p who && not (has (silent m) who)) ≡ (has (those subjects p) who && not (has (silent m) who))
    test who there = ap (λ b. b && not (has (silent m) who)) (sym (has-those subjects p who ∙ ap (λ b. b && p who) there))

pub unchanged_unless_counting : (m : MembershipState) → may_count m ≡ false → updates m ≡ unchanged m
unchanged_unless_counting m none = by_rules (observes m) (decides m) (founds m) (leads m) (lets_in m) (leaders_effects m.gossip.view m.confirmed) (weak_effects m.gossip.view)
  where
    never : (effects : List Effect) → update effects m ≡ unchanged m
    never effects = ap (λ b. cond b (made effects m) (unchanged m)) none

    never_any : (effects : List Effect) → update_any effects m ≡ unchanged m
    never_any [] = refl
    never_any (effect ∷ effects) = never (effect ∷ effects)

    by_rules : (a b c d e : Bool) (effects weak : List Effect)
        → cond a (update (Observed (silent m) ∷ []) m) (cond b (update (decided m) m) (cond c (update (founding_effects m.gossip.view.standings) m) (cond d (update_any effects m) (cond e (update_any weak m) (unchanged m))))) ≡ unchanged m
    by_rules true b c d e effects weak = never (Observed (silent m) ∷ [])
    by_rules false true c d e effects weak = never (decided m)
    by_rules false false true d e effects weak = never (founding_effects m.gossip.view.standings)
    by_rules false false false true e effects weak = never_any effects
    by_rules false false false false true effects weak = never_any weak
    by_rules false false false false false effects weak = refl
