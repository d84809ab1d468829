-- What a node promised (this project's choice): a node is bound by the last ballot that it granted until its holder releases it
-- or is finished, and never grants an older one. The floor is a version that each later holder has to have settled.
use Rattle.std.specs.Prelude.{◌≡◌, ◌≢◌, ◌⊎◌, Bool, true, false, ◌||◌, IsTrue, Option, None, Some, refl}
use Rattle.std.specs.FinMap as map
use Rattle.std.specs.Coded.{Coded, code_by, coded×, coded_ℕ, coded_bool, coded_option}
use Rattle.std.specs.Ordering.{is_eq}
use Rattle.std.specs.declared.cmp.Ordering.{Ordering}
use Rattle.std.specs.declared.cmp.Ordering.TheVariants.{Less, Equal, Greater}
use Rattle.ak_address.specs.Unique.{coded_unique, unique_cmp}
use Rattle.ak_clock.specs.Version.{Counts, merged}
use Rattle.ak_promise.specs.Ballot.{BallotModel, coded_ballot, ballot_cmp}
use Rattle.ak_promise.specs.declared.promise.Answer.{Answer}
use Rattle.ak_promise.specs.declared.promise.Answer.TheVariants.{Granted, Old, Busy}

-- the ballot that was granted last, whether it was released since, and the floor
pub record PromiseModel : Type 0 where
  pub last : Option BallotModel
  pub released : Bool
  pub floor : Counts

-- a promise is stored as its three fields
abbrev pub coded_promise : Coded PromiseModel
coded_promise =
    code_by (Option BallotModel × (Bool × Counts))
    (coded× (coded_option coded_ballot) (coded× coded_bool (map.code coded_unique coded_ℕ)))
    (λ p. (p.last, (p.released, p.floor)))
    (λ p. record { last = p.0; released = p.1.0; floor = p.1.1 })
    (λ _. refl)

-- nothing is promised
abbrev pub unpromised : PromiseModel
unpromised = record { last = None; released = false; floor = map.empty }

-- ---- in words
-- the ballot is the last one, and was not released
abbrev pub Binds : PromiseModel → BallotModel → Type 0
Binds p b = (p.last ≡ Some b) × (p.released ≡ false)

-- the ballot is above the last one
abbrev pub IsNew : PromiseModel → BallotModel → Type 0
IsNew p b = (c : BallotModel) → p.last ≡ Some c → ballot_cmp b c ≡ Greater

-- the last ballot does not bind against this one: it was released, is of the same process, or its holder is finished
abbrev pub IsFree : PromiseModel → BallotModel → Bool → Type 0
IsFree p b finished = (c : BallotModel) → p.last ≡ Some c → (p.released ≡ true) ⊎ (c.unique ≡ b.unique) ⊎ IsTrue finished

-- where each answer is given: the ballot that binds is granted again; else it is old where it is not above the last one; else busy
-- where the last one still binds against it; else it is granted
abbrev pub Answers : Answer → PromiseModel → BallotModel → Bool → Type 0
Answers Granted p b finished = Binds p b ⊎ (IsNew p b × IsFree p b finished)
Answers Old p b finished = ¬ (Binds p b) × ¬ (IsNew p b)
Answers Busy p b finished = IsNew p b × ¬ (IsFree p b finished)

-- the ballot is promised
abbrev pub bound : BallotModel → PromiseModel → PromiseModel
bound b p = record p { last = Some b; released = false }

-- what each answer leaves
abbrev pub after_ask : Answer → BallotModel → PromiseModel → PromiseModel
after_ask Granted b p = bound b p
after_ask Old b p = p
after_ask Busy b p = p

-- whether a release is of the last ballot, and what is left then: it is released, and the floor covers the version too
abbrev pub Releases : Bool → PromiseModel → BallotModel → Type 0
Releases true p b = p.last ≡ Some b
Releases false p b = p.last ≢ Some b

abbrev pub after_release : Bool → Counts → PromiseModel → PromiseModel
after_release true v p = record p { released = true; floor = merged p.floor v }
after_release false v p = p

-- the last ballot, if there is one, is released with a version, whichever it is
abbrev pub freed_after : Option BallotModel → Counts → PromiseModel → PromiseModel
freed_after None v p = p
freed_after (Some c) v p = after_release true v p

abbrev pub freed : Counts → PromiseModel → PromiseModel
freed v p = freed_after p.last v p

-- ---- the same, computed
-- by how the ballot stands to the last one, whether that is released, and whether it does not bind against this one
abbrev pub answer_by : Ordering → Bool → Bool → Answer
answer_by Less released free = Old
answer_by Equal true free = Old
answer_by Equal false free = Granted
answer_by Greater released true = Granted
answer_by Greater released false = Busy

abbrev pub answer_after : Option BallotModel → Bool → BallotModel → Bool → Answer
answer_after None released b finished = Granted
answer_after (Some c) released b finished = answer_by (ballot_cmp b c) released (released || is_eq (unique_cmp c.unique b.unique) || finished)

abbrev pub answer_to : PromiseModel → BallotModel → Bool → Answer
answer_to p b finished = answer_after p.last p.released b finished

abbrev pub asked : PromiseModel → BallotModel → Bool → PromiseModel
asked p b finished = after_ask (answer_to p b finished) b p

abbrev pub is_some_ballot : Option BallotModel → BallotModel → Bool
is_some_ballot None b = false
is_some_ballot (Some c) b = is_eq (ballot_cmp c b)

-- the ballot is the last one
abbrev pub is_last : PromiseModel → BallotModel → Bool
is_last p b = is_some_ballot p.last b

abbrev pub released_by : PromiseModel → BallotModel → Counts → PromiseModel
released_by p b v = after_release (is_last p b) v p
