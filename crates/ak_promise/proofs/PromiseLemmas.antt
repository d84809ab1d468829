-- What the computed answers of a promise mean.
use Rattle.std.proofs.Common.{◌≡◌, ◌≢◌, ◌||◌, ◌⊎◌, inl, inr, Bool, true, false, IsTrue, Option, None, Some, Ordering, Less, Equal, Greater, is_eq, refl, sym, ap, ◌∙◌, subst, true≢false}
use Rattle.std.specs.Cmp.{Equal-is}
use Rattle.std.proofs.lemmas.Option.{same_Some}
use Rattle.std.proofs.lemmas.Bool.{or_cases}
use Rattle.std.proofs.lemmas.Cmp.{tied_itself}
use Rattle.ak_address.specs.Unique.{UniqueModel, unique_cmp}
use Rattle.ak_address.proofs.OrderLemmas.{unique_total, unique_exact}
use Rattle.ak_address.proofs.BoolLemmas.{none_there}
use Rattle.ak_promise.specs.Ballot.{BallotModel, ballot_cmp}
use Rattle.ak_promise.specs.Promise.{PromiseModel, Binds, IsNew, IsFree, Answers, Releases, answer_by, answer_after, answer_to, is_some_ballot, is_last}
use Rattle.ak_promise.proofs.BallotOrder.{ballot_total, ballot_exact}

-- ---- one ballot and another
pub equal_ballots : (b c : BallotModel) → is_eq (ballot_cmp b c) ≡ true → b ≡ c
equal_ballots b c is = ballot_exact b c ((Equal-is (ballot_cmp b c)).0 is)

pub ballot_itself : (b : BallotModel) → ballot_cmp b b ≡ Equal
ballot_itself b = tied_itself ballot_total b

equal_processes : (u v : UniqueModel) → is_eq (unique_cmp u v) ≡ true → u ≡ v
equal_processes u v is = unique_exact u v ((Equal-is (unique_cmp u v)).0 is)

process_itself : (u v : UniqueModel) → u ≡ v → is_eq (unique_cmp u v) ≡ true
process_itself u v is = ap (λ w. is_eq (unique_cmp u w)) (sym is) ∙ ap is_eq (tied_itself unique_total u)

-- ---- whether the last ballot binds against another
module _ (p : PromiseModel) (c b : BallotModel) (finished : Bool) (at : p.last ≡ Some c) where
  free_is : (p.released || is_eq (unique_cmp c.unique b.unique) || finished) ≡ true → IsFree p b finished
  free_is is d last = elim (or_cases (p.released || is_eq (unique_cmp c.unique b.unique)) finished is) [
    | inl first ↦ elim (or_cases p.released (is_eq (unique_cmp c.unique b.unique)) first) [
      | inl released ↦ inl released
      | inr same ↦ inr (inl (subst (λ (x : BallotModel). x.unique ≡ b.unique) (same_Some c d (sym at ∙ last)) (equal_processes c.unique b.unique same)))
    ]
    | inr over ↦ inr (inr over)
  ]

  unfree_is : (p.released || is_eq (unique_cmp c.unique b.unique) || finished) ≡ false → IsFree p b finished → ⊥
  unfree_is is unbinding = by_cause p.released (is_eq (unique_cmp c.unique b.unique)) finished is (elim (unbinding c at) [
    | inl released ↦ inl released
    | inr rest ↦ elim rest [ inl same ↦ inr (inl (process_itself c.unique b.unique same)) | inr over ↦ inr (inr over) ]
  ])
    where
      by_cause : (x y z : Bool) → (x || y || z) ≡ false → (x ≡ true) ⊎ (y ≡ true) ⊎ IsTrue z → ⊥
      by_cause false false false none (inl is) = true≢false (sym is)
      by_cause false false false none (inr (inl is)) = true≢false (sym is)
      by_cause false false false none (inr (inr over)) = true≢false (sym over)
      by_cause false false true none any = true≢false none
      by_cause false true z none any = true≢false none
      by_cause true y z none any = true≢false none

  -- ---- the answer by how the ballot stands to the last one
  new_is : ballot_cmp b c ≡ Greater → IsNew p b
  new_is greater d last = subst (λ x. ballot_cmp b x ≡ Greater) (same_Some c d (sym at ∙ last)) greater

  unbound : (ballot_cmp b c ≡ Equal → ⊥) → Binds p b → ⊥
  unbound differ (last, released) = differ (subst (λ x. ballot_cmp b x ≡ Equal) (same_Some b c (sym last ∙ at)) (ballot_itself b))

  by_free : (f : Bool) → (p.released || is_eq (unique_cmp c.unique b.unique) || finished) ≡ f → ballot_cmp b c ≡ Greater → Answers (answer_by Greater p.released f) p b finished
  by_free true is greater = inr (new_is greater, free_is is)
  by_free false is greater = (new_is greater, unfree_is is)

  by_released : (r : Bool) → p.released ≡ r → (f : Bool) → ballot_cmp b c ≡ Equal → Answers (answer_by Equal r f) p b finished
  by_released true released f equal = ((λ binds. true≢false (sym released ∙ binds.1)), λ new. differ (sym equal ∙ new c at))
    where
      differ : Equal ≡ Greater → ⊥
      differ is = absurd (cc)
  by_released false unreleased f equal = inl (at ∙ ap Some (sym (ballot_exact b c equal)), unreleased)

  by_order : (o : Ordering) → ballot_cmp b c ≡ o → Answers (answer_by o p.released (p.released || is_eq (unique_cmp c.unique b.unique) || finished)) p b finished
  by_order Less less = ((λ binds. unbound (λ equal. first (sym less ∙ equal)) binds), λ new. second (sym less ∙ new c at))
    where
      first : Less ≡ Equal → ⊥
      first is = absurd (cc)

      second : Less ≡ Greater → ⊥
      second is = absurd (cc)
  by_order Equal equal = by_released p.released refl (p.released || is_eq (unique_cmp c.unique b.unique) || finished) equal
  by_order Greater greater = by_free (p.released || is_eq (unique_cmp c.unique b.unique) || finished) refl greater

pub answers_meant : (p : PromiseModel) (b : BallotModel) (finished : Bool) → Answers (answer_to p b finished) p b finished
answers_meant p b finished = by_last p.last refl
  where
    by_last : (o : Option BallotModel) → p.last ≡ o → Answers (answer_after o p.released b finished) p b finished
    by_last None none = inr ((λ c at. absurd (none_there c (sym none ∙ at))), λ c at. absurd (none_there c (sym none ∙ at)))
    by_last (Some c) at = by_order p c b finished at (ballot_cmp b c) refl

-- ---- the last ballot
pub last_is : (o : Option BallotModel) (b : BallotModel) → is_some_ballot o b ≡ true → o ≡ Some b
last_is None b is = absurd (true≢false (sym is))
last_is (Some c) b is = ap Some (equal_ballots c b is)

pub last_is_not : (o : Option BallotModel) (b : BallotModel) → is_some_ballot o b ≡ false → o ≢ Some b
last_is_not None b is at = none_there b at
last_is_not (Some c) b is at = true≢false (sym (ap (λ x. is_eq (ballot_cmp x b)) (same_Some c b at) ∙ ap is_eq (ballot_itself b)) ∙ is)

pub releases_meant : (p : PromiseModel) (b : BallotModel) (r : Bool) → is_last p b ≡ r → Releases r p b
releases_meant p b true is = last_is p.last b is
releases_meant p b false is = last_is_not p.last b is

pub is_last_of : (p : PromiseModel) (b : BallotModel) → p.last ≡ Some b → is_last p b ≡ true
is_last_of p b at = ap (λ o. is_some_ballot o b) at ∙ ap is_eq (ballot_itself b)
