-- What is at rest stays so, and a closing of it finds nothing due.
use Rattle.std.proofs.Common.{◌≡◌, ℕ, ◌==◌, arith, Bool, true, false, not, ◌&&◌, ◌||◌, if◌then◌else◌, List, [], ◌∷◌, Option, Some, None, is_some, Result, Ok, Err, nat_le, refl, sym, ap, ◌∙◌, subst, true≢false}
use Rattle.std.specs.Bool.{⊤}
use Rattle.std.proofs.lemmas.Bool.Decides.{nat_tests}
use Rattle.std.specs.FinMap as map
use Rattle.ak_address.specs.Changed.{keys_of}
use Rattle.ak_address.specs.Counters.{Counters}
use Rattle.ak_address.specs.Unique.{UniqueModel, unique_cmp}
use Rattle.ak_clock.specs.Version.{Counts, relation_by}
use Rattle.ak_clock.proofs.VersionLaws.{covers_itself, test_from_covers}
use Rattle.ak_detector.specs.Detector.{watch_ring, watching, heard}
use Rattle.ak_detector.proofs.DetectorLaws.{watching_again}
use Rattle.ak_detector.proofs.DetectorLemmas.{keys-heard, keys-ticked}
use Rattle.ak_detector.proofs.RingLaws.{watches_on}
use Rattle.ak_member.specs.declared.effect.Effect.{Effect}
use Rattle.ak_member.specs.declared.effect.Effect.TheVariants.{Rise, Observed}
use Rattle.ak_member.specs.declared.standing.Standing.{Standing}
use Rattle.ak_member.specs.declared.standing.Standing.TheVariants.{Member, Buried}
use Rattle.ak_member.specs.declared.status.Status.TheVariants.{Leaving, Down}
use Rattle.ak_member.proofs.MergeLemmas.{knows_nobody}
use Rattle.ak_address.proofs.Pairs.{not_None}
use Rattle.ak_address.proofs.BoolLemmas.{not_true}
use Rattle.ak_gossip.specs.Gossip.{is_known}
use Rattle.ak_member.specs.Standing as standing
use Rattle.ak_member.specs.Standing.{is_up, is_down}
use Rattle.ak_settings.specs.Settings.{is_listed}
use Rattle.ak_leader.specs.Leader.{leaders_effects, founding_effects, weak_effects}
use Rattle.ak_settled.specs.Settled as settled
use Rattle.ak_settled.specs.Settled.{version_of}
use Rattle.ak_settled.specs.SettledView.{SettledView, SettledModel}
use Rattle.ak_membership.specs.declared.change.Change.{Change}
use Rattle.ak_membership.specs.declared.change.Closing.{Closing}
use Rattle.ak_membership.specs.declared.change.MemberFault.{MemberFault}
use Rattle.ak_membership.specs.declared.change.MemberFault.TheVariants.{NotUp, UnknownMember, NotMember, Unlisted, ForeignCount, TooManyUniques, NoMemory}
use Rattle.ak_membership.specs.declared.state.MembershipState.{MembershipState}
use Rattle.ak_member.specs.Standing.{is_member_with}
use Rattle.ak_membership.specs.Membership.{Outcome, unchanged, made, update, update_any, may_count, is_gone, is_member, has_member_beside, replaced, most_at_join, admitted, on_join, leave, down}
use Rattle.ak_membership.specs.Tick.{tick, updates, counted, waited, silent, decided, observes, decides, founds, leads, lets_in, has_settled}
use Rattle.ak_membership.specs.Closing.{is_other, is_same, is_viewed, stops, is_noted, notes, settled_after, stable_after, close}
use Rattle.ak_membership.specs.MembershipContracts.{Answers, IsAtRest, IsMembership, Closes, makes_none}

-- ---- what does not look at what is known
pub rests_heard : (m : MembershipState) (who : UniqueModel) (detector : Counters) → detector ≡ heard who m.detector → IsAtRest m → IsAtRest (record m { detector = detector })
rests_heard m who detector is rest = record { shown = rest.shown; here = rest.here; noted = rest.noted; ring = ap keys_of is ∙ keys-heard who m.detector ∙ rest.ring }

-- a settled view of which nothing but its counters is another is to be noted where it was
noted_by : SettledView → Counts → Bool
noted_by view version = not (is_some view) || is_other (version_of view) version

noted_ticked : (margin : ℕ) (view : SettledView) (version : Counts) → noted_by (settled.ticked margin view) version ≡ noted_by view version
unfolding noted_by
noted_ticked margin None version = refl
noted_ticked margin (Some noted) version = refl

rests_counted : (m : MembershipState) (weak : ℕ) → IsAtRest m → IsAtRest (counted weak m)
unfolding noted_by
rests_counted m weak rest = record {
  shown = rest.shown;
  here = rest.here;
  noted = ap (λ b. has_settled m && b) (noted_ticked m.settings.margin m.settled.view m.gossip.version) ∙ rest.noted;
  ring = keys-ticked m.settings.deadline m.detector ∙ rest.ring;
}

-- nothing is there
pub none_there : {X : Type 0} (o : Option X) → is_some o ≡ false → o ≡ None
none_there None is = refl
none_there (Some x) is = absurd (true≢false is)

-- ---- a tick that makes no update leaves what is known
update_none : (effects : List Effect) (m : MembershipState) → (update effects m).1.number ≡ None → (update effects m).0 ≡ m
update_none effects m = by_case (may_count m)
  where
    by_case : (b : Bool) → (if b then made effects m else unchanged m).1.number ≡ None → (if b then made effects m else unchanged m).0 ≡ m
    by_case true none = absurd (true≢false (ap is_some none))
    by_case false none = refl

update_any_none : (effects : List Effect) (m : MembershipState) → (update_any effects m).1.number ≡ None → (update_any effects m).0 ≡ m
update_any_none [] m none = refl
update_any_none (effect ∷ effects) m none = update_none (effect ∷ effects) m none

-- one of two, as a test chooses
either_none : (b : Bool) (m : MembershipState) (o p : Outcome) → (o.1.number ≡ None → o.0 ≡ m) → (p.1.number ≡ None → p.0 ≡ m) → (if b then o else p).1.number ≡ None → (if b then o else p).0 ≡ m
either_none true m o p first second none = first none
either_none false m o p first second none = second none

updates_none : (m : MembershipState) → (updates m).1.number ≡ None → (updates m).0 ≡ m
updates_none m =
    either_none (observes m) m _ _ (update_none (Observed (silent m) ∷ []) m)
    (either_none (decides m) m _ _ (update_none (decided m) m)
    (either_none (founds m) m _ _ (update_none (founding_effects m.gossip.view.standings) m)
    (either_none (leads m) m _ _ (update_any_none (leaders_effects m.gossip.view m.confirmed) m)
    (either_none (lets_in m) m _ _ (update_any_none (weak_effects m.gossip.view) m) (λ none. refl)))))

pub rests_ticked : (m : MembershipState) → (tick m).1.number ≡ None → IsAtRest m → IsAtRest (tick m).0
rests_ticked m none rest = by_case (is_member m) none
  where
    by_case : (b : Bool) → (if b then (counted (waited m) (updates m).0, (updates m).1) else unchanged m).1.number ≡ None → IsAtRest (if b then (counted (waited m) (updates m).0, (updates m).1) else unchanged m).0
    by_case true none = rests_counted (updates m).0 (waited m) (subst IsAtRest (sym (updates_none m none)) rest)
    by_case false none = rest

-- ---- a request that makes no update leaves what is known
LeavesIt : MembershipState → Result Outcome MemberFault → Type 0
LeavesIt m (Ok o) = o.1.number ≡ None → o.0 ≡ m
LeavesIt m (Err fault) = ⊤

either_leaves : (b : Bool) (m : MembershipState) (one other : Result Outcome MemberFault) → LeavesIt m one → LeavesIt m other → LeavesIt m (if b then one else other)
either_leaves true m one other first second = first
either_leaves false m one other first second = second

admitted_none : (from : UniqueModel) (m : MembershipState) → (admitted from m).1.number ≡ None → (admitted from m).0 ≡ m
admitted_none from m = either_none (may_count m) m _ _ (λ none. absurd (true≢false (ap is_some none))) (λ none. refl)

join_leaves : (from : UniqueModel) (m : MembershipState) → LeavesIt m (on_join from m)
unfolding LeavesIt
join_leaves from m =
    either_leaves (not (is_member m)) m _ _ tt
    (either_leaves (not (is_listed m.settings.listed from.address)) m _ _ tt
    (either_leaves (standing.is_member m.gossip.view.standings from) m _ _ (λ none. refl)
    (either_leaves (is_known m.gossip.view.standings from) m _ _ (λ none. refl)
    (either_leaves (has_member_beside from m.gossip.view.standings) m _ _ (update_any_none (replaced from m.gossip.view.standings) m)
    (either_leaves (nat_le most_at_join (map.len m.gossip.view.standings)) m _ _ tt (admitted_none from m))))))

leave_leaves : (who : UniqueModel) (m : MembershipState) → LeavesIt m (leave who m)
unfolding LeavesIt
leave_leaves who m =
    either_leaves (not (is_member m)) m _ _ tt
    (either_leaves (not (standing.is_member m.gossip.view.standings who)) m _ _ tt
    (either_leaves (not (is_member_with is_up m.gossip.view.standings who)) m _ _ tt (update_none (Rise who Leaving 0 ∷ []) m)))

down_leaves : (who : UniqueModel) (m : MembershipState) → LeavesIt m (down who m)
unfolding LeavesIt
down_leaves who m =
    either_leaves (not (is_member m)) m _ _ tt
    (either_leaves (not (standing.is_member m.gossip.view.standings who)) m _ _ tt
    (either_leaves (is_member_with is_down m.gossip.view.standings who) m _ _ (λ none. refl) (update_none (Rise who Down 0 ∷ []) m)))

rests_answered : (outcome : Result Outcome MemberFault) (m new : MembershipState) (free : Type 0) (r : Result Change MemberFault) → LeavesIt m outcome → Answers free outcome m r new → makes_none r ≡ true → IsAtRest m → IsAtRest new
unfolding LeavesIt
rests_answered outcome m new free (Ok change) leaves (o, is, makes) none rest =
    let left : LeavesIt m (Ok o) = subst (LeavesIt m) is leaves in
    subst IsAtRest (sym (makes.state_after ∙ left (ap (λ (c : Change). c.number) (sym makes.change_told) ∙ none_there change.number (not_true (is_some change.number) none)))) rest
rests_answered outcome m new free (Err NotUp) leaves a none rest = subst IsAtRest (sym a.1) rest
rests_answered outcome m new free (Err UnknownMember) leaves a none rest = subst IsAtRest (sym a.1) rest
rests_answered outcome m new free (Err NotMember) leaves a none rest = subst IsAtRest (sym a.1) rest
rests_answered outcome m new free (Err Unlisted) leaves a none rest = subst IsAtRest (sym a.1) rest
rests_answered outcome m new free (Err (ForeignCount own theirs)) leaves a none rest = subst IsAtRest (sym a.1) rest
rests_answered outcome m new free (Err (TooManyUniques union)) leaves a none rest = subst IsAtRest (sym a.1) rest
rests_answered outcome m new free (Err (NoMemory error)) leaves a none rest = subst IsAtRest (sym a.1) rest

pub rests_joined : (from : UniqueModel) (m new : MembershipState) (free : Type 0) (r : Result Change MemberFault) → Answers free (on_join from m) m r new → makes_none r ≡ true → IsAtRest m → IsAtRest new
rests_joined from m new free r = rests_answered (on_join from m) m new free r (join_leaves from m)

pub rests_left : (who : UniqueModel) (m new : MembershipState) (free : Type 0) (r : Result Change MemberFault) → Answers free (leave who m) m r new → makes_none r ≡ true → IsAtRest m → IsAtRest new
rests_left who m new free r = rests_answered (leave who m) m new free r (leave_leaves who m)

pub rests_downed : (who : UniqueModel) (m new : MembershipState) (free : Type 0) (r : Result Change MemberFault) → Answers free (down who m) m r new → makes_none r ≡ true → IsAtRest m → IsAtRest new
rests_downed who m new free r = rests_answered (down who m) m new free r (down_leaves who m)

-- ---- closings

-- a version is no other than itself
no_other : (v : Counts) → is_other v v ≡ false
no_other v = let itself = test_from_covers v v (covers_itself v) in λ i. not (is_same (relation_by (itself i) (itself i)))

-- a closing of what is at rest
pub closes_at_rest : (m new : MembershipState) → IsAtRest m → new ≡ record m { stable = stable_after m; moved = false } → (due : Closing) → due ≡ record { viewed = false; stopped = false; settled = false }
    → Closes (close false m) new due
closes_at_rest m new rest anew due is = record {
  state_after = anew ∙ λ i. record m { shown = rest.shown i; stable = stable_after m; moved = false; detector = sym watched i; settled = sym settled_same i };
  is_due = is ∙ (λ i. record { viewed = sym viewed i; stopped = sym rest.here i; settled = sym none i });
}
  where
    watched : watching m.me m.gossip.view.standings m.settings.deadline m.detector ≡ m.detector
    watched = watches_on m.me m.gossip.view.standings m.settings.deadline m.detector (keys_of m.detector) refl rest.ring

    none : notes false m ≡ false
    none = (λ i. not (rest.here i) && is_noted m) ∙ rest.noted

    settled_same : settled_after false m ≡ m.settled
    settled_same = ap (λ b. if b then settled.after_note m.gossip.version m.gossip.view.standings m.settled else m.settled) none

    viewed : is_viewed m ≡ false
    viewed = ap (λ (v : Counts). is_other v m.gossip.version) rest.shown ∙ no_other m.gossip.version

-- after a closing at which nothing but the view was due, and the ring was watched already
module _ (stopping : Bool) (m : MembershipState) where
  not_either : (a b : Bool) → (a || b) ≡ false → b ≡ false
  not_either true b is = absurd (true≢false is)
  not_either false b is = is

  not_both : (a b : Bool) → a ≡ false → (not a && b) ≡ false → b ≡ false
  not_both true b first is = absurd (true≢false first)
  not_both false b first is = is

  pub rests_closed : stops stopping m ≡ false → notes stopping m ≡ false → keys_of (close stopping m).0.detector ≡ watch_ring m.me m.gossip.view.standings → IsAtRest (close stopping m).0
  rests_closed running none ring = record {
    shown = refl;
    here = not_either stopping (is_gone m) running;
    noted = ap (λ (s : SettledModel). has_settled m && (not (is_some s.view) || is_other (version_of s.view) m.gossip.version)) settled_same ∙ not_both (stops stopping m) (is_noted m) running none;
    ring = ring;
  }
    where
      settled_same : settled_after stopping m ≡ m.settled
      settled_same = ap (λ b. if b then settled.after_note m.gossip.version m.gossip.view.standings m.settled else m.settled) none

-- a closing of what is at rest leaves it so
pub rests_closed_again : (m : MembershipState) → IsAtRest m → IsAtRest (close false m).0
rests_closed_again m rest =
    rests_closed false m rest.here ((λ i. not (rest.here i) && is_noted m) ∙ rest.noted)
    (ap keys_of (watches_on m.me m.gossip.view.standings m.settings.deadline m.detector (keys_of m.detector) refl rest.ring) ∙ rest.ring)

-- ---- a closing after a closing finds nothing due, where the node goes on
module _ (stopping : Bool) (m : MembershipState) (running : stops stopping m ≡ false) where
  abbrev pub after : MembershipState
  after = (close stopping m).0

  here : is_gone m ≡ false
  here = not_either stopping m stopping (is_gone m) running

  -- what was noted is not noted again
  not_noted : is_noted after ≡ false
  not_noted = by_noted (notes stopping m) refl
    where
      either : (b : Bool) → (b && false) ≡ false
      either true = refl
      either false = refl

      by_noted : (b : Bool) → notes stopping m ≡ b → is_noted after ≡ false
      by_noted true noted =
          ap (λ (s : SettledModel). has_settled m && (not (is_some s.view) || is_other (version_of s.view) m.gossip.version)) (ap (λ b. if b then settled.after_note m.gossip.version m.gossip.view.standings m.settled else m.settled) noted)
          ∙ ap (λ b. has_settled m && b) (no_other m.gossip.version)
          ∙ either (has_settled m)
      by_noted false none =
          ap (λ (s : SettledModel). has_settled m && (not (is_some s.view) || is_other (version_of s.view) m.gossip.version)) (ap (λ b. if b then settled.after_note m.gossip.version m.gossip.view.standings m.settled else m.settled) none)
          ∙ not_both stopping m (stops stopping m) (is_noted m) running none

  none_due : notes false after ≡ false
  none_due = (λ i. not (here i) && is_noted after) ∙ not_noted

  pub closed_again : close false after ≡ (after, record { viewed = false; stopped = false; settled = false })
  closed_again = λ i. (
    record after {
      detector = watching_again m.me m.gossip.view.standings m.settings.deadline m.detector i;
      settled = if none_due i then settled.after_note m.gossip.version m.gossip.view.standings after.settled else after.settled;
    },
    record { viewed = no_other m.gossip.version i; stopped = here i; settled = none_due i },
  )

-- ---- who is at rest and knows anybody is a member
pub member_at_rest : (m : MembershipState) → IsMembership m → IsAtRest m → not (map.len m.gossip.view.standings == 0) ≡ is_member m
member_at_rest m is rest = by (map.get m.gossip.view.standings m.me) refl
  where
    others : map.len m.gossip.view.standings ≡ 0 → map.get m.gossip.view.standings m.me ≡ None
    others none = ap (λ s. map.get s m.me) (knows_nobody m.gossip.view.standings none) ∙ map.get-empty unique_cmp m.me

    some_known : (n : ℕ) → (n ≡ 0 → ⊥) → not (n == 0) ≡ true
    some_known n some = by_count (n == 0) refl
      where
        by_count : (b : Bool) → (n == 0) ≡ b → not b ≡ true
        by_count true is = absurd (some (grind (arith, nat_tests)))
        by_count false is = refl

    by : (o : Option Standing) → map.get m.gossip.view.standings m.me ≡ o → not (map.len m.gossip.view.standings == 0) ≡ is_member m
    by None there = ap (λ n. not (n == 0)) (is.itself (ap is_some there)) ∙ ap (λ o. is_some (standing.member_of o)) (sym there)
    by (Some (Member status number)) there =
        some_known (map.len m.gossip.view.standings) (λ none. not_None (Member status number) (sym there ∙ others none)) ∙ ap (λ o. is_some (standing.member_of o)) (sym there)
    by (Some (Buried confirmed)) there = absurd (true≢false (sym (ap standing.is_gone there) ∙ rest.here))
