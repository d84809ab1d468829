-- What asking and releasing do to a promise, in words.
use Rattle.std.proofs.Common.{◌≡◌, ◌≢◌, ◌↔◌, ◌⊎◌, inl, inr, Bool, true, false, IsTrue, Some, Less, Equal, Greater, refl, sym, ◌∙◌, subst, true≢false}
use Rattle.std.proofs.lemmas.Option.{same_Some}
use Rattle.ak_clock.specs.Version.{Counts, Covers}
use Rattle.ak_clock.proofs.VersionLaws.{covers_itself, merged_covers_first, merged_covers_second}
use Rattle.ak_promise.specs.declared.promise.Answer.{Answer}
use Rattle.ak_promise.specs.declared.promise.Answer.TheVariants.{Granted, Old, Busy}
use Rattle.ak_promise.specs.Ballot.{BallotModel, ballot_cmp}
use Rattle.ak_promise.specs.Promise.{PromiseModel, Binds, IsNew, Answers, after_ask, after_release, answer_to, asked, is_last, released_by}
use Rattle.ak_promise.proofs.PromiseLemmas.{answers_meant, ballot_itself, is_last_of}

differ : Equal ≡ Greater → ⊥
differ is = absurd (cc)

not_less : (b c : BallotModel) → ballot_cmp b c ≡ Greater → ballot_cmp b c ≢ Less
not_less b c greater less = apart (sym greater ∙ less)
  where
    apart : Greater ≡ Less → ⊥
    apart is = absurd (cc)

itself_not_less : (b : BallotModel) → ballot_cmp b b ≢ Less
itself_not_less b less = apart (sym (ballot_itself b) ∙ less)
  where
    apart : Equal ≡ Less → ⊥
    apart is = absurd (cc)

-- ---- exactly one answer fits
module _ (p : PromiseModel) (b : BallotModel) (finished : Bool) where
  bound_is_no_news : Binds p b → IsNew p b → ⊥
  bound_is_no_news binds new = differ (sym (ballot_itself b) ∙ new b binds.0)

  granted_or_old : Answers Granted p b finished → Answers Old p b finished → ⊥
  granted_or_old (inl binds) old = old.0 binds
  granted_or_old (inr new) old = old.1 new.0

  granted_or_busy : Answers Granted p b finished → Answers Busy p b finished → ⊥
  granted_or_busy (inl binds) busy = bound_is_no_news binds busy.0
  granted_or_busy (inr new) busy = busy.1 new.1

  one_fits : (a c : Answer) → Answers a p b finished → Answers c p b finished → a ≡ c
  one_fits Granted Granted one two = refl
  one_fits Granted Old one two = absurd (granted_or_old one two)
  one_fits Granted Busy one two = absurd (granted_or_busy one two)
  one_fits Old Granted one two = absurd (granted_or_old two one)
  one_fits Old Old one two = refl
  one_fits Old Busy one two = absurd (one.1 two.0)
  one_fits Busy Granted one two = absurd (granted_or_busy two one)
  one_fits Busy Old one two = absurd (two.1 one.0)
  one_fits Busy Busy one two = refl

  pub exactly : (a : Answer) → (answer_to p b finished ≡ a) ↔ Answers a p b finished
  exactly a = ((λ is. subst (λ x. Answers x p b finished) is (answers_meant p b finished)), λ fits. one_fits (answer_to p b finished) a (answers_meant p b finished) fits)

-- ---- what binds
pub others_bind : (p : PromiseModel) (c b : BallotModel) (finished : Bool) → p.last ≡ Some c → answer_to p b finished ≡ Granted → b ≢ c → (ballot_cmp b c ≡ Greater) × ((p.released ≡ true) ⊎ (c.unique ≡ b.unique) ⊎ IsTrue finished)
others_bind p c b finished at granted other = elim ((exactly p b finished Granted).0 granted) [
  | inl binds ↦ absurd (other (same_Some b c (sym binds.0 ∙ at)))
  | inr new ↦ (new.0 c at, new.1 c at)
]

pub released_is_old : (p : PromiseModel) (c : BallotModel) (finished : Bool) → p.last ≡ Some c → p.released ≡ true → answer_to p c finished ≡ Old
released_is_old p c finished at released = (exactly p c finished Old).1 ((λ binds. true≢false (sym released ∙ binds.1)), λ new. differ (sym (ballot_itself c) ∙ new c at))

-- ---- what is left
pub last_asked : (p : PromiseModel) (c b : BallotModel) (finished : Bool) → p.last ≡ Some c → (d : BallotModel) × ((asked p b finished).last ≡ Some d) × (ballot_cmp d c ≢ Less)
last_asked p c b finished at = by_answer (answer_to p b finished) (answers_meant p b finished)
  where
    by_answer : (a : Answer) → Answers a p b finished → (d : BallotModel) × ((after_ask a b p).last ≡ Some d) × (ballot_cmp d c ≢ Less)
    by_answer Granted (inl binds) = (b, refl, subst (λ x. ballot_cmp b x ≢ Less) (same_Some b c (sym binds.0 ∙ at)) (itself_not_less b))
    by_answer Granted (inr new) = (b, refl, not_less b c (new.0 c at))
    by_answer Old old = (c, at, itself_not_less c)
    by_answer Busy busy = (c, at, itself_not_less c)

pub floor_asked : (p : PromiseModel) (b : BallotModel) (finished : Bool) → (asked p b finished).floor ≡ p.floor
floor_asked p b finished = by_answer (answer_to p b finished)
  where
    by_answer : (a : Answer) → (after_ask a b p).floor ≡ p.floor
    by_answer Granted = refl
    by_answer Old = refl
    by_answer Busy = refl

pub last_released : (p : PromiseModel) (b : BallotModel) (v : Counts) → (released_by p b v).last ≡ p.last
last_released p b v = by_test (is_last p b)
  where
    by_test : (t : Bool) → (after_release t v p).last ≡ p.last
    by_test true = refl
    by_test false = refl

pub floor_released : (p : PromiseModel) (b : BallotModel) (v : Counts) → Covers (released_by p b v).floor p.floor
floor_released p b v = by_test (is_last p b)
  where
    by_test : (t : Bool) → Covers (after_release t v p).floor p.floor
    by_test true = merged_covers_first p.floor v
    by_test false = covers_itself p.floor

pub released_covers : (p : PromiseModel) (b : BallotModel) (v : Counts) → p.last ≡ Some b → Covers (released_by p b v).floor v
released_covers p b v at = subst (λ t. Covers (after_release t v p).floor v) (sym (is_last_of p b at)) (merged_covers_second p.floor v)
