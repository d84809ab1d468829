-- The cases of the rules that may refuse, and that their updates may be made.
use Rattle.std.specs.declared.alloc.AllocError.{AllocError}
use Rattle.std.proofs.Common.{◌≡◌, inl, inr, ◌+◌, ◌<◌, Bool, true, false, not, ◌&&◌, nat_le, if◌then◌else◌, List, [], ◌∷◌, Option, Some, None, is_some, Result, Ok, Err, IfOk, OnErr, IsTrue, refl, sym, subst, ◌∙◌, arith, true≢false}
use Rattle.std.proofs.lemmas.Bool.{leb-false, ltb-true}
use Rattle.std.specs.FinMap as map
use Rattle.ak_address.specs.Unique.{UniqueModel}
use Rattle.ak_clock.specs.declared.version.TheConstants.{BOUND}
use Rattle.ak_clock.specs.Version.{count}
use Rattle.ak_member.specs.declared.effect.Effect.{Effect}
use Rattle.ak_member.specs.declared.effect.Effect.TheVariants.{Joined, Rise, Observed}
use Rattle.ak_member.specs.declared.status.Status.TheVariants.{Leaving, Down}
use Rattle.ak_member.specs.Standing as standing
use Rattle.ak_member.specs.Standing.{is_down, is_up, is_member_with}
use Rattle.ak_gossip.specs.declared.gossip.Received.{Received}
use Rattle.ak_gossip.specs.declared.gossip.GossipFault.{GossipFault}
use Rattle.ak_gossip.specs.Gossip.{GossipState, IsGossip, MayUpdate, is_known, receive}
use Rattle.ak_gossip.proofs.GossipLaws.{joining}
use Rattle.ak_gossip.proofs.InvariantLemmas.{member_known}
use Rattle.ak_reach.specs.Unreachable.{unreachable_members}
use Rattle.ak_detector.specs.Detector as detector
use Rattle.ak_detector.proofs.DetectorLaws.{silent_watched, ticked_same}
use Rattle.ak_downing.specs.Downing.{decide, is_against}
use Rattle.ak_leader.specs.Leader.{leader, leaders_effects, founding_effects, weak_effects}
use Rattle.ak_settings.specs.Settings.{is_listed}
use Rattle.ak_membership.specs.declared.change.Change.{Change}
use Rattle.ak_membership.specs.declared.change.MemberFault.{MemberFault}
use Rattle.ak_membership.specs.declared.change.MemberFault.TheVariants.{NotUp, UnknownMember, NotMember, Unlisted, TooManyUniques}
use Rattle.ak_membership.specs.declared.change.Reply.TheVariants.{Welcome}
use Rattle.ak_membership.specs.declared.state.MembershipState.{MembershipState}
use Rattle.ak_membership.specs.Membership.{Outcome, unchanged, replying, may_count, update, update_any, is_member, leave, down, has_member_beside, replaced, is_beside, most_at_join, admitted, on_join, on_received, on_gossip}
use Rattle.ak_membership.specs.Tick.{silent, decided, leads, has_settled, is_process}
use Rattle.ak_membership.specs.MembershipContracts.{Makes, Answers, IsAccepted, IsWatching, KnowsItself, or_no_memory}
use Rattle.ak_membership.proofs.MayMake.{leaving_may, down_may, downed_may, founding_may, letting_in_may, leading_may}
use Rattle.ak_membership.proofs.MayRise.{observing_may}

-- what a call that only memory can fail answered, as that of a rule that is not refused
pub answered_or : (rule : Result Outcome MemberFault) (o : Outcome) (old new : MembershipState) (change : Result Change AllocError) (result : Result Change MemberFault)
    → result ≡ or_no_memory change → rule ≡ Ok o → IfOk change (λ c. Makes o new c) → (cause free : Type 0) → (cause → free) → OnErr change (cause × (new ≡ old)) → Answers (free × IsAccepted rule) rule old result new
answered_or rule o old new (Ok change) result told is ok cause free may err = subst (λ r. Answers (free × IsAccepted rule) rule old r new) (sym told) (o, is, ok)
answered_or rule o old new (Err error) result told is ok cause free may err = subst (λ r. Answers (free × IsAccepted rule) rule old r new) (sym told) ((may err.0, (o, is)), err.1)

-- ---- leaving and downing
module _ (who : UniqueModel) (m : MembershipState) where
  leave_by : Bool → Bool → Bool → Result Outcome MemberFault
  leave_by member there up = if not member then Err NotMember else (if not there then Err UnknownMember else (if not up then Err NotUp else Ok (update (Rise who Leaving 0 ∷ []) m)))

  pub leaves : true ≡ is_member m → true ≡ standing.is_member m.gossip.view.standings who → true ≡ is_member_with is_up m.gossip.view.standings who → leave who m ≡ Ok (update (Rise who Leaving 0 ∷ []) m)
  unfolding leave_by
  leaves p q r = λ i. leave_by (sym p i) (sym q i) (sym r i)

  down_by : Bool → Bool → Bool → Result Outcome MemberFault
  down_by member there already = if not member then Err NotMember else (if not there then Err UnknownMember else (if already then Ok (unchanged m) else Ok (update (Rise who Down 0 ∷ []) m)))

  pub stays_down : true ≡ is_member m → true ≡ standing.is_member m.gossip.view.standings who → true ≡ is_member_with is_down m.gossip.view.standings who → down who m ≡ Ok (unchanged m)
  unfolding down_by
  stays_down p q r = λ i. down_by (sym p i) (sym q i) (sym r i)

  pub downs : true ≡ is_member m → true ≡ standing.is_member m.gossip.view.standings who → false ≡ is_member_with is_down m.gossip.view.standings who → down who m ≡ Ok (update (Rise who Down 0 ∷ []) m)
  unfolding down_by
  downs p q r = λ i. down_by (sym p i) (sym q i) (sym r i)

  -- ---- joins
  pub join_by : Bool → Bool → Bool → Bool → Bool → Bool → Result Outcome MemberFault
  join_by member listed other there beside full =
      if not member then Err NotMember
      else (if not listed then Err Unlisted
      else (if other then Ok (replying Welcome (unchanged m))
      else (if there then Ok (unchanged m)
      else (if beside then Ok (update_any (replaced who m.gossip.view.standings) m)
      else (if full then Err (TooManyUniques (map.len m.gossip.view.standings + 1))
      else Ok (admitted who m))))))

  pub joins : (member listed other there beside full : Bool) → member ≡ is_member m → listed ≡ is_listed m.settings.listed who.address → other ≡ standing.is_member m.gossip.view.standings who
      → there ≡ is_known m.gossip.view.standings who → beside ≡ has_member_beside who m.gossip.view.standings → full ≡ nat_le most_at_join (map.len m.gossip.view.standings)
      → on_join who m ≡ join_by member listed other there beside full
  unfolding join_by
  joins member listed other there beside full p q r k t u = λ i. join_by (sym p i) (sym q i) (sym r i) (sym k i) (sym t i) (sym u i)

module _ (who : UniqueModel) (m : MembershipState) (p : true ≡ is_member m) where
  pub at_unlisted : false ≡ is_listed m.settings.listed who.address → on_join who m ≡ Err Unlisted
  unfolding join_by
  at_unlisted q = joins who m true false _ _ _ _ p q refl refl refl refl

  module _ (q : true ≡ is_listed m.settings.listed who.address) where
    pub at_member : true ≡ standing.is_member m.gossip.view.standings who → on_join who m ≡ Ok (replying Welcome (unchanged m))
    unfolding join_by
    at_member r = joins who m true true true _ _ _ p q r refl refl refl

    module _ (r : false ≡ standing.is_member m.gossip.view.standings who) where
      pub at_tombstone : true ≡ is_known m.gossip.view.standings who → on_join who m ≡ Ok (unchanged m)
      unfolding join_by
      at_tombstone k = joins who m true true false true _ _ p q r k refl refl

      module _ (k : false ≡ is_known m.gossip.view.standings who) where
        pub at_beside : true ≡ has_member_beside who m.gossip.view.standings → on_join who m ≡ Ok (update_any (replaced who m.gossip.view.standings) m)
        unfolding join_by
        at_beside t = joins who m true true false false true _ p q r k t refl

        module _ (t : false ≡ has_member_beside who m.gossip.view.standings) where
          pub at_full : true ≡ nat_le most_at_join (map.len m.gossip.view.standings) → on_join who m ≡ Err (TooManyUniques (map.len m.gossip.view.standings + 1))
          unfolding join_by
          at_full u = joins who m true true false false false true p q r k t u

          pub at_free : false ≡ nat_le most_at_join (map.len m.gossip.view.standings) → on_join who m ≡ Ok (admitted who m)
          unfolding join_by
          at_free u = joins who m true true false false false false p q r k t u

-- ---- a gossip
module _ (incoming : GossipState) (m : MembershipState) where
  gossip_by : Bool → Result (Received × GossipState) GossipFault → Result Outcome MemberFault
  gossip_by there r = if there then on_received incoming m r else Ok (unchanged m)

  pub passed_over : false ≡ is_known incoming.view.standings m.me → on_gossip incoming m ≡ Ok (unchanged m)
  unfolding gossip_by
  passed_over p = λ i. gossip_by (sym p i) (receive m.me m.gossip incoming)

  pub is_received : (r : Result (Received × GossipState) GossipFault) → true ≡ is_known incoming.view.standings m.me → receive m.me m.gossip incoming ≡ r → on_gossip incoming m ≡ on_received incoming m r
  unfolding gossip_by
  is_received r p is = λ i. gossip_by (sym p i) (is i)

-- ---- updates that may be made
none_of : {X : Type 0} (a : Option X) → false ≡ is_some a → a ≡ None
none_of None is = refl
none_of (Some x) is = absurd (true≢false (sym is))

room : (m : MembershipState) → IsTrue (may_count m) → count m.gossip.version m.me < BOUND
room m may = ltb-true (count m.gossip.version m.me) BOUND may

module _ (m : MembershipState) (g : IsGossip m.gossip) where
  pub may_leave : (who : UniqueModel) → true ≡ is_member m → true ≡ is_member_with is_up m.gossip.view.standings who → IsTrue (may_count m) → MayUpdate m.me (Rise who Leaving 0 ∷ []) m.gossip
  may_leave who member up may = leaving_may m.gossip g m.me (room m may) (sym member) who (sym up)

  pub may_down : (who : UniqueModel) → true ≡ is_member m → true ≡ standing.is_member m.gossip.view.standings who → IsTrue (may_count m) → MayUpdate m.me (Rise who Down 0 ∷ []) m.gossip
  may_down who member there may = down_may m.gossip g m.me (room m may) (sym member) who (sym there)

module _ (m : MembershipState) (g : IsGossip m.gossip) (effects : List Effect) where
  as_effects : (them : List Effect) → effects ≡ them → MayUpdate m.me them m.gossip → MayUpdate m.me effects m.gossip
  as_effects them is may = subst (λ l. MayUpdate m.me l m.gossip) (sym is) may

  pub may_found : KnowsItself m.me m.gossip → false ≡ is_known m.gossip.view.standings m.me → effects ≡ Joined m.me ∷ [] → IsTrue (may_count m) → MayUpdate m.me effects m.gossip
  may_found itself unknown is may =
      let nobody = itself (sym unknown) in
      as_effects (Joined m.me ∷ []) is (joining m.me m.me m.gossip g (room m may) (inr (refl, none_of (map.get m.gossip.view.standings m.me) unknown)) (omega (arith, nobody)))

  pub may_admit : (from : UniqueModel) → IsTrue (is_member m) → false ≡ nat_le most_at_join (map.len m.gossip.view.standings) → effects ≡ Joined from ∷ [] → IsTrue (may_count m) → MayUpdate m.me effects m.gossip
  may_admit from member free is may =
      let below = leb-false most_at_join (map.len m.gossip.view.standings) (sym free) in
      as_effects (Joined from ∷ []) is (joining m.me from m.gossip g (room m may) (inl member) (omega (arith, below)))

  pub may_replace : (who : UniqueModel) → IsTrue (is_member m) → effects ≡ replaced who m.gossip.view.standings → IsTrue (may_count m) → MayUpdate m.me effects m.gossip
  may_replace who member is may = as_effects (replaced who m.gossip.view.standings) is (downed_may m.gossip g m.me (room m may) member (is_beside who))

  pub may_start : IsTrue (is_member m) → effects ≡ founding_effects m.gossip.view.standings → IsTrue (may_count m) → MayUpdate m.me effects m.gossip
  may_start member is may = as_effects (founding_effects m.gossip.view.standings) is (founding_may m.gossip g m.me (room m may) member)

  pub may_lead : IsTrue (is_member m) → true ≡ leads m → effects ≡ leaders_effects m.gossip.view m.confirmed → IsTrue (may_count m) → MayUpdate m.me effects m.gossip
  may_lead member leading is may =
      as_effects (leaders_effects m.gossip.view m.confirmed) is (leading_may m.gossip g m.me (room m may) member (second (has_settled m) (is_process m.me (leader m.gossip.view)) (sym leading)) m.confirmed)
    where
      second : (a b : Bool) → (a && b) ≡ true → b ≡ true
      second true b is = is
      second false b is = absurd (true≢false (sym is))

  pub may_let_in : IsTrue (is_member m) → effects ≡ weak_effects m.gossip.view → IsTrue (may_count m) → MayUpdate m.me effects m.gossip
  may_let_in member is may = as_effects (weak_effects m.gossip.view) is (letting_in_may m.gossip g m.me (room m may) member)

  pub may_resolve : IsTrue (is_member m) → effects ≡ decided m → IsTrue (may_count m) → MayUpdate m.me effects m.gossip
  may_resolve member is may =
      as_effects (decided m) is (downed_may m.gossip g m.me (room m may) member (is_against (decide m.settings.strategy m.settings.role m.gossip.view m.me) (unreachable_members m.gossip.view) m.me))

  -- whom the node finds silent it watches, and so they are members
  pub may_observe : IsTrue (is_member m) → IsWatching m → effects ≡ Observed (silent m) ∷ [] → IsTrue (may_count m) → MayUpdate m.me effects m.gossip
  may_observe member watching is may =
      let ticked = detector.ticked m.settings.deadline m.detector in
      as_effects (Observed (silent m) ∷ []) is (observing_may m.me (silent m) m.gossip g (room m may) member (λ who silent_one.
      member_known (map.get m.gossip.view.standings who)
      (watching who (sym (ticked_same m.settings.deadline m.detector who) ∙ silent_watched m.settings.deadline ticked who silent_one))))
