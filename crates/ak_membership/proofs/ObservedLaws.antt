-- What it means that a node observes nothing new.
use Rattle.std.proofs.Common.{◌≡◌, Bool, true, false, not, ◌||◌, Contains, refl, sym, ap, ◌∙◌, true≢false}
use Rattle.std.proofs.lemmas.Bool.{or_parts}
use Rattle.ak_address.specs.Unique.{UniqueModel}
use Rattle.ak_address.specs.Uniques.{UniqueSet, has, in_order}
use Rattle.ak_address.proofs.Elements.{contains_at, index_of}
use Rattle.ak_address.proofs.UniquesLaws.{has_at, index_of_has}
use Rattle.ak_address.proofs.BoolLemmas.{not_false}
use Rattle.ak_sight.proofs.MovedLaws.{none_any, all_none}
use Rattle.ak_membership.specs.declared.state.MembershipState.{MembershipState}
use Rattle.ak_membership.specs.Tick.{silent, own_subjects, lacks, observes}

-- ---- two sets are the same where neither lacks one of the other
lacks_none : (s t : UniqueSet) → lacks t s ≡ false → (who : UniqueModel) → has s who ≡ true → has t who ≡ true
lacks_none s t none who there =
    let at = index_of_has s who there in
    not_false (has t who) (none_any (λ u. not (has t u)) (in_order s) none who (contains_at (in_order s) at.0 who at.1))

same_sets : (s t : UniqueSet) → lacks t s ≡ false → lacks s t ≡ false → (who : UniqueModel) → has s who ≡ has t who
same_sets s t one other who = by_case (has s who) refl (has t who) refl
  where
    by_case : (a : Bool) → has s who ≡ a → (b : Bool) → has t who ≡ b → a ≡ b
    by_case true is b there = sym (sym there ∙ lacks_none s t one who is)
    by_case false is true there = absurd (true≢false (sym (lacks_none t s other who there) ∙ is))
    by_case false is false there = refl

none_lacking : (s t : UniqueSet) → ((who : UniqueModel) → has s who ≡ has t who) → lacks t s ≡ false
none_lacking s t same = all_none (λ u. not (has t u)) (in_order s) (λ who there. ap not (sym (same who)) ∙ in_set who there)
  where
    in_set : (who : UniqueModel) → Contains (in_order s) who → not (has s who) ≡ false
    in_set who there = let at = index_of (in_order s) who there in ap not (has_at s at.0 who at.1)

module _ (m : MembershipState) where
  pub observes_nothing : observes m ≡ false → (who : UniqueModel) → has (silent m) who ≡ has (own_subjects m) who
  observes_nothing none =
      let both = or_parts (lacks (own_subjects m) (silent m)) (lacks (silent m) (own_subjects m)) none in
      same_sets (silent m) (own_subjects m) both.0 both.1

  pub nothing_observed : ((who : UniqueModel) → has (silent m) who ≡ has (own_subjects m) who) → observes m ≡ false
  nothing_observed same = λ i. none_lacking (silent m) (own_subjects m) same i || none_lacking (own_subjects m) (silent m) (λ who. sym (same who)) i
