-- Whom a tick reaches, and that new ballots are higher.
use Rattle.std.proofs.Common.{◌≡◌, ℕ, ◌+◌, ◌<◌, ◌&&◌, ◌||◌, ◌↔◌, Bool, true, false, not, Some, IsTrue, Greater, refl, sym, ap, ◌∙◌, subst, arith, true≢false}
use Rattle.std.specs.Ordering.{ordering_then, ordering_reverse, eq_by_cmp}
use Rattle.std.specs.Cmp.{nat_cmp_is}
use Rattle.std.proofs.lemmas.Option.{same_Some}
use Rattle.ak_address.specs.Unique.{UniqueModel, unique_cmp}
use Rattle.ak_address.specs.Uniques.{UniqueSet, no_one, has}
use Rattle.ak_address.proofs.TableLaws.{same_key, key_itself}
use Rattle.ak_address.proofs.UniquesLaws.{has-no_one, has-with_one, has-those}
use Rattle.ak_promise.specs.Ballot.{BallotModel, ballot_cmp}
use Rattle.ak_promise.specs.Promise.{PromiseModel}
use Rattle.ak_promise.proofs.BallotOrder.{ballot_total}
use Rattle.ak_settled.specs.SettledView.{SettledView}
use Rattle.ak_settled.specs.Settled.{needed}
use Rattle.ak_singleton.specs.Singleton.{SingletonModel, only, needed_but, next_term, own_ballot, after_old, is_outdone}
use Rattle.ak_singleton.proofs.RulesMeant.{outdone_is}

pub has-needed_but : (margin : ℕ) (settled : SettledView) (others : UniqueSet) (who : UniqueModel) → has (needed_but margin settled others) who ≡ (has (needed margin settled) who && not (has others who))
has-needed_but margin settled others who = has-those (needed margin settled) (λ w. not (has others w)) who

pub has-only : (me who : UniqueModel) → has (only me) who ≡ eq_by_cmp unique_cmp who me
has-only me who = has-with_one no_one me who ∙ or_false (eq_by_cmp unique_cmp who me) (has no_one who) (has-no_one who)
  where
    or_false : (a b : Bool) → b ≡ false → (a || b) ≡ a
    or_false true b is = refl
    or_false false b is = is

pub needed_others : (margin : ℕ) (settled : SettledView) (me who : UniqueModel) → IsTrue (has (needed_but margin settled (only me)) who) ↔ (IsTrue (has (needed margin settled) who) × ¬ (who ≡ me))
needed_others margin settled me who = (
  (λ is. forth (has (needed margin settled) who) (eq_by_cmp unique_cmp who me) refl (sym (has-needed_but margin settled (only me) who ∙ ap (λ b. has (needed margin settled) who && not b) (has-only me who)) ∙ is)),
  λ both. has-needed_but margin settled (only me) who ∙ ap (λ b. has (needed margin settled) who && not b) (has-only me who) ∙ back (has (needed margin settled) who) (eq_by_cmp unique_cmp who me) refl both.0 both.1,
)
  where
    forth : (a b : Bool) → eq_by_cmp unique_cmp who me ≡ b → (a && not b) ≡ true → (a ≡ true) × ¬ (who ≡ me)
    forth true true tied is = absurd (true≢false (sym is))
    forth true false apart is = (refl, λ same. true≢false (sym (ap (eq_by_cmp unique_cmp who) (sym same) ∙ key_itself who) ∙ apart))
    forth false b at is = absurd (true≢false (sym is))

    back : (a b : Bool) → eq_by_cmp unique_cmp who me ≡ b → a ≡ true → ¬ (who ≡ me) → (a && not b) ≡ true
    back true true tied is other = absurd (other (same_key who me tied))
    back true false apart is other = refl
    back false b at is other = absurd (true≢false (sym is))

-- ---- a greater term
pub higher_term : (b c : BallotModel) → c.term < b.term → ballot_cmp b c ≡ Greater
higher_term b c more = ap (λ o. ordering_then o (unique_cmp b.unique c.unique)) (sym (nat_cmp_is b.term c.term Greater more))

pub own_is_higher : (me : UniqueModel) (p : PromiseModel) (last : BallotModel) → p.last ≡ Some last → ballot_cmp (own_ballot me p) last ≡ Greater
own_is_higher me p last at = higher_term (own_ballot me p) last (subst (λ o. last.term < next_term o) (sym at) (omega arith))

pub renewed_is_higher : (b last next : BallotModel) (s : SingletonModel) → IsTrue (is_outdone b last s) → (after_old (is_outdone b last s) b last s).live ≡ Some next → (ballot_cmp next last ≡ Greater) × (ballot_cmp next b ≡ Greater)
renewed_is_higher b last next s is live =
    let made : BallotModel = record { term = last.term + 1; unique = b.unique } in
    let same : made ≡ next = same_Some made next (sym (ap (λ t. (after_old t b last s).live) is) ∙ live) in
    let above_last : ballot_cmp made last ≡ Greater = higher_term made last (omega arith) in
    subst (λ x. (ballot_cmp x last ≡ Greater) × (ballot_cmp x b ≡ Greater)) same (above_last, above_both made last b above_last (((outdone_is b last s).0 is).2))
  where
    above_both : (x y z : BallotModel) → ballot_cmp x y ≡ Greater → ballot_cmp y z ≡ Greater → ballot_cmp x z ≡ Greater
    above_both x y z one two = ballot_total.antisymm x z ∙ ap ordering_reverse (ballot_total.trans z y x (ballot_total.antisymm z y ∙ ap ordering_reverse two) (ballot_total.antisymm y x ∙ ap ordering_reverse one))
