-- The tests of the rules decide what they say.
use Rattle.std.proofs.Common.{◌≡◌, ◌≢◌, ℕ, ◌<◌, ◌||◌, ◌⊎◌, ◌↔◌, inl, inr, Bool, true, false, not, Option, None, Some, is_some, IsTrue, IfSome, Ordering, Less, Equal, Greater, is_eq, is_gt, Decides, if◌then◌else◌, refl, sym, ap, ◌∙◌, subst, true≢false}
use Rattle.std.specs.List.{list_all}
use Rattle.std.specs.Cmp.{Equal-is}
use Rattle.std.proofs.lemmas.Option.{same_Some}
use Rattle.std.proofs.lemmas.Bool.{or_cases}
use Rattle.std.proofs.lemmas.Bool.Decides.{Decides-and, Decides-ltb}
use Rattle.std.proofs.lemmas.Cmp.{tied_itself}
use Rattle.ak_address.specs.Unique.{UniqueModel, unique_cmp}
use Rattle.ak_address.specs.Uniques.{UniqueSet, has, in_order}
use Rattle.ak_address.proofs.OrderLemmas.{unique_total, unique_exact}
use Rattle.ak_address.proofs.UniquesLaws.{has_at, index_of_has}
use Rattle.ak_clock.specs.declared.version.TheConstants.{BOUND}
use Rattle.ak_clock.specs.Version.{Counts, Covers, covers}
use Rattle.ak_clock.proofs.VersionLaws.{covers_from_test, test_from_covers, passes_at, all_pass}
use Rattle.ak_member.specs.declared.status.Status.{Status}
use Rattle.ak_member.specs.declared.status.Status.TheVariants.{Joining, WeaklyUp, Up, Leaving, Exiting, Down}
use Rattle.ak_member.specs.Age.{counts}
use Rattle.ak_promise.specs.Ballot.{BallotModel, ballot_cmp}
use Rattle.ak_promise.specs.Promise.{PromiseModel, is_some_ballot}
use Rattle.ak_promise.proofs.PromiseLemmas.{last_is, last_is_not}
use Rattle.ak_settled.specs.SettledView.{SettledView}
use Rattle.ak_settled.specs.Settled.{version_of, is_finished, needed, candidate}
use Rattle.ak_singleton.specs.declared.phase.Phase.{Phase}
use Rattle.ak_singleton.specs.declared.phase.Phase.TheVariants.{Younger, Asking, Active, Ended}
use Rattle.ak_singleton.specs.declared.phase.TickRule.{TickRule}
use Rattle.ak_singleton.specs.declared.phase.TickRule.TheVariants.{Rests, Opens, HandsOver, Closes, Asks}
use Rattle.ak_singleton.specs.Singleton.{SingletonModel, is_some_process, is_candidate, takes_part, may_open_after, may_open, rule_of, tick_rule, is_first_grant, is_asking, is_outdone, may_activate}
use Rattle.ak_singleton.specs.Rules.{TakesPart, MayOpen, Applies, IsFirstGrant, IsOutdone, MayActivate}

-- ---- tests in general
either_is : {P Q : Type 0} (x y : Bool) → Decides x P → Decides y Q → Decides (x || y) (P ⊎ Q)
either_is x y p q = ((λ is. elim (or_cases x y is) [ inl one ↦ inl (p.0 one) | inr other ↦ inr (q.0 other) ]), λ any. by_side x y (elim any [ inl one ↦ inl (p.1 one) | inr other ↦ inr (q.1 other) ]))
  where
    by_side : (a b : Bool) → (a ≡ true) ⊎ (b ≡ true) → (a || b) ≡ true
    by_side true b any = refl
    by_side false b (inl is) = absurd (true≢false (sym is))
    by_side false b (inr is) = is

itself_is : (b : Bool) → Decides b (b ≡ true)
itself_is b = ((λ is. is), λ is. is)

none_is : (b : Bool) → Decides (not b) (b ≡ false)
none_is true = ((λ is. sym is), λ is. sym is)
none_is false = ((λ is. refl), λ is. refl)

-- where a test fails, what it decides does not hold
pub fails : {P : Type 0} (x : Bool) → Decides x P → x ≡ false → ¬ P
fails x d is p = true≢false (sym (d.1 p) ∙ is)

pub holds_not : {P : Type 0} (x : Bool) → Decides x P → ¬ P → x ≡ false
holds_not true d not_p = absurd (not_p (d.0 refl))
holds_not false d not_p = refl

-- ---- processes and ballots
process_is : (u v : UniqueModel) → Decides (is_eq (unique_cmp u v)) (u ≡ v)
process_is u v = ((λ is. unique_exact u v ((Equal-is (unique_cmp u v)).0 is)), λ same. ap (λ w. is_eq (unique_cmp u w)) (sym same) ∙ ap is_eq (tied_itself unique_total u))

some_process_is : (o : Option UniqueModel) (who : UniqueModel) → Decides (is_some_process o who) (o ≡ Some who)
some_process_is None who = ((λ is. absurd (true≢false (sym is))), λ is. ap is_some is)
some_process_is (Some u) who = ((λ is. ap Some ((process_is u who).0 is)), λ is. (process_is u who).1 (same_Some u who is))

some_ballot_is : (o : Option BallotModel) (b : BallotModel) → Decides (is_some_ballot o b) (o ≡ Some b)
some_ballot_is o b = ((λ is. last_is o b is), λ at. by_test (is_some_ballot o b) refl at)
  where
    by_test : (t : Bool) → is_some_ballot o b ≡ t → o ≡ Some b → t ≡ true
    by_test true is at = refl
    by_test false is at = absurd (last_is_not o b is at)

greater_is : (o : Ordering) → Decides (is_gt o) (o ≡ Greater)
greater_is Less = ((λ is. absurd (true≢false (sym is))), λ is. ap is_gt is)
greater_is Equal = ((λ is. absurd (true≢false (sym is))), λ is. ap is_gt is)
greater_is Greater = ((λ is. refl), λ is. refl)

-- ---- the tests of a tick
counts_is : (status : Status) → Decides (counts status) ((status ≡ Up) ⊎ (status ≡ Leaving))
counts_is Joining = ((λ is. absurd (true≢false (sym is))), λ any. elim any [ inl is ↦ ap counts is | inr is ↦ ap counts is ])
counts_is WeaklyUp = ((λ is. absurd (true≢false (sym is))), λ any. elim any [ inl is ↦ ap counts is | inr is ↦ ap counts is ])
counts_is Up = ((λ is. inl refl), λ any. refl)
counts_is Leaving = ((λ is. inr refl), λ any. refl)
counts_is Exiting = ((λ is. absurd (true≢false (sym is))), λ any. elim any [ inl is ↦ ap counts is | inr is ↦ ap counts is ])
counts_is Down = ((λ is. absurd (true≢false (sym is))), λ any. elim any [ inl is ↦ ap counts is | inr is ↦ ap counts is ])

pub part_is : (settled : SettledView) (status : Status) → Decides (takes_part settled status) (TakesPart settled status)
part_is settled status = Decides-and (is_some settled) (counts status) (itself_is (is_some settled)) (counts_is status)

pub candidate_is : (settled : SettledView) (me : UniqueModel) → Decides (is_candidate settled me) (candidate settled ≡ Some me)
candidate_is settled me = some_process_is (candidate settled) me

module _ (margin : ℕ) (settled : SettledView) (me : UniqueModel) where
  abbrev Free : Bool → BallotModel → Type 0
  Free released b = ((released ≡ true) ⊎ (b.unique ≡ me) ⊎ IsTrue (is_finished margin settled b.unique)) × (b.term < BOUND)

  regroup : {P Q R : Type 0} (x : Bool) → Decides x ((P ⊎ Q) ⊎ R) → Decides x (P ⊎ Q ⊎ R)
  regroup x d = (
    (λ is. elim (d.0 is) [ inl first ↦ elim first [ inl p ↦ inl p | inr q ↦ inr (inl q) ] | inr r ↦ inr (inr r) ]),
    λ any. d.1 (elim any [ inl p ↦ inl (inl p) | inr rest ↦ elim rest [ inl q ↦ inl (inr q) | inr r ↦ inr r ] ]),
  )

  free_is : (released : Bool) (b : BallotModel) → Decides (may_open_after (Some b) released margin settled me) (Free released b)
  free_is released b =
      let same = is_eq (unique_cmp b.unique me) in
      let over = is_finished margin settled b.unique in
      Decides-and (released || same || over) _ (regroup (released || same || over) (either_is (released || same) over (either_is released same (itself_is released) (process_is b.unique me)) (itself_is over)))
      (Decides-ltb b.term BOUND)

  pub open_is : (p : PromiseModel) → Decides (may_open margin settled me p) (MayOpen margin settled me p)
  open_is p = by_last p.last refl
    where
      by_last : (o : Option BallotModel) → p.last ≡ o → Decides (may_open_after o p.released margin settled me) (MayOpen margin settled me p)
      by_last None none = ((λ is b at. absurd (true≢false (sym (ap is_some (sym none ∙ at))))), λ may. refl)
      by_last (Some c) at = ((λ is b last. subst (Free p.released) (same_Some c b (sym at ∙ last)) ((free_is p.released c).0 is)), λ may. (free_is p.released c).1 (may c at))

-- ---- what a tick does
module _ (me : UniqueModel) (settled : SettledView) (status : Status) (margin : ℕ) (s : SingletonModel) where
  abbrev Does : TickRule → Type 0
  Does r = tick_rule me settled status margin s ≡ r

  computed : (t : Bool) (ph : Phase) (c f : Bool) → takes_part settled status ≡ t → s.phase ≡ ph → is_candidate settled me ≡ c → may_open margin settled me s.promise ≡ f
      → tick_rule me settled status margin s ≡ (if t then rule_of ph c f else Rests)
  computed t ph c f part at oldest free =
      ap (λ b. if b then rule_of s.phase (is_candidate settled me) (may_open margin settled me s.promise) else Rests) part
      ∙ ap (λ x. if t then rule_of x (is_candidate settled me) (may_open margin settled me s.promise) else Rests) at
      ∙ ap (λ b. if t then rule_of ph b (may_open margin settled me s.promise) else Rests) oldest
      ∙ ap (λ b. if t then rule_of ph c b else Rests) free

  meant : (t : Bool) (ph : Phase) (c f : Bool) → takes_part settled status ≡ t → s.phase ≡ ph → is_candidate settled me ≡ c → may_open margin settled me s.promise ≡ f
      → Applies me settled status margin s (if t then rule_of ph c f else Rests)
  meant false ph c f part at oldest free = inl (fails (takes_part settled status) (part_is settled status) part)
  meant true Younger false f part at oldest free = inr (inl (at, fails (is_candidate settled me) (candidate_is settled me) oldest))
  meant true Younger true true part at oldest free = ((part_is settled status).0 part, at, (candidate_is settled me).0 oldest, (open_is margin settled me s.promise).0 free)
  meant true Younger true false part at oldest free = ((part_is settled status).0 part, at, (candidate_is settled me).0 oldest, fails (may_open margin settled me s.promise) (open_is margin settled me s.promise) free)
  meant true Asking true f part at oldest free = ((part_is settled status).0 part, inl (at, (candidate_is settled me).0 oldest))
  meant true Asking false f part at oldest free = ((part_is settled status).0 part, at, fails (is_candidate settled me) (candidate_is settled me) oldest)
  meant true Active c f part at oldest free = ((part_is settled status).0 part, inr at)
  meant true Ended c f part at oldest free = inr (inr at)

  pub rule_applies : Applies me settled status margin s (tick_rule me settled status margin s)
  rule_applies = subst (Applies me settled status margin s) (sym (computed _ _ _ _ refl refl refl refl)) (meant _ _ _ _ refl refl refl refl)

  -- ---- and back
  not_oldest : candidate settled ≢ Some me → is_candidate settled me ≡ false
  not_oldest other = holds_not (is_candidate settled me) (candidate_is settled me) other

  resting : (b : Bool) (r : TickRule) → r ≡ Rests → (if b then r else Rests) ≡ Rests
  resting true r is = is
  resting false r is = refl

  pub rule_is : (r : TickRule) → Applies me settled status margin s r → Does r
  rule_is Opens a = computed true Younger true true ((part_is settled status).1 a.0) a.1 ((candidate_is settled me).1 a.2) ((open_is margin settled me s.promise).1 a.3)
  rule_is HandsOver a = computed true Younger true false ((part_is settled status).1 a.0) a.1 ((candidate_is settled me).1 a.2) (holds_not (may_open margin settled me s.promise) (open_is margin settled me s.promise) a.3)
  rule_is Closes a = computed true Asking false _ ((part_is settled status).1 a.0) a.1 (not_oldest a.2) refl
  rule_is Asks a = elim a.1 [
    | inl asking ↦ computed true Asking true _ ((part_is settled status).1 a.0) asking.0 ((candidate_is settled me).1 asking.1) refl
    | inr active ↦ computed true Active _ _ ((part_is settled status).1 a.0) active refl refl
  ]
  rule_is Rests a = elim a [
    | inl no_part ↦ computed false _ _ _ (holds_not (takes_part settled status) (part_is settled status) no_part) refl refl refl
    | inr rest ↦ elim rest [
      | inl younger ↦ computed _ Younger false _ refl younger.0 (not_oldest younger.1) refl ∙ resting (takes_part settled status) (rule_of Younger false (may_open margin settled me s.promise)) refl
      | inr over ↦ computed _ Ended _ _ refl over refl refl ∙ resting (takes_part settled status) (rule_of Ended (is_candidate settled me) (may_open margin settled me s.promise)) refl
    ]
  ]

  pub rules_exact : (r : TickRule) → (tick_rule me settled status margin s ≡ r) ↔ Applies me settled status margin s r
  rules_exact r = ((λ is. subst (Applies me settled status margin s) is rule_applies), rule_is r)

-- ---- grants, older ballots, activations
pub first_grant_is : (from : UniqueModel) (b : BallotModel) (s : SingletonModel) → Decides (is_first_grant from b s) (IsFirstGrant from b s)
first_grant_is from b s = Decides-and (is_some_ballot s.live b) (not (has s.granted from)) (some_ballot_is s.live b) (none_is (has s.granted from))

asking_is : (ph : Phase) → Decides (is_asking ph) (ph ≡ Asking)
asking_is Younger = ((λ is. absurd (true≢false (sym is))), λ is. ap is_asking is)
asking_is Asking = ((λ is. refl), λ is. refl)
asking_is Active = ((λ is. absurd (true≢false (sym is))), λ is. ap is_asking is)
asking_is Ended = ((λ is. absurd (true≢false (sym is))), λ is. ap is_asking is)

pub outdone_is : (b last : BallotModel) (s : SingletonModel) → Decides (is_outdone b last s) (IsOutdone b last s)
outdone_is b last s =
    let d = Decides-and _ _ (Decides-and _ _ (Decides-and _ _ (asking_is s.phase) (some_ballot_is s.live b)) (greater_is (ballot_cmp last b))) (Decides-ltb last.term BOUND) in
    ((λ is. let x = d.0 is in (x.0.0.0, x.0.0.1, x.0.1, x.1)), λ x. d.1 (((x.0, x.1), x.2), x.3))

all_granted_is : (granted others : UniqueSet) → Decides (list_all (has granted) (in_order others)) ((who : UniqueModel) → IsTrue (has others who) → IsTrue (has granted who))
all_granted_is granted others = (
  (λ all who needs. let at = index_of_has others who needs in passes_at (has granted) (in_order others) at.0 who all at.1),
  λ each. all_pass (has granted) (in_order others) (λ i who at. each who (has_at others i who at)),
)

covers_is : (v w : Counts) → Decides (covers v w) (Covers v w)
covers_is v w = (covers_from_test v w, test_from_covers v w)

pub activation_is : (me : UniqueModel) (settled : SettledView) (margin : ℕ) (s : SingletonModel) → Decides (may_activate me settled margin s) (MayActivate me settled margin s)
activation_is me settled margin s =
    let d = Decides-and _ _ (Decides-and _ _ (Decides-and _ _ (asking_is s.phase) (candidate_is settled me)) (all_granted_is s.granted (needed margin settled))) (covers_is (version_of settled) s.floor) in (
      (λ is. let x = d.0 is in record { asking = x.0.0.0; oldest = x.0.0.1; granted = x.0.1; floor = x.1 }),
      λ x. d.1 (((x.asking, x.oldest), x.granted), x.floor),
    )

-- whoever begins to ask has a term left
pub opens_below : (me : UniqueModel) (settled : SettledView) (status : Status) (margin : ℕ) (s : SingletonModel) → tick_rule me settled status margin s ≡ Opens → IfSome s.promise.last (λ b. b.term < BOUND)
opens_below me settled status margin s opens = by_last s.promise.last refl
  where
    by_last : (o : Option BallotModel) → s.promise.last ≡ o → IfSome o (λ b. b.term < BOUND)
    by_last None none = tt
    by_last (Some b) at = (((rules_exact me settled status margin s Opens).0 opens).3 b at).1
