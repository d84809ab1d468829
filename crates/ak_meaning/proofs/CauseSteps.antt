-- Why a rule of a membership writes an effect.
use Rattle.std.proofs.Common.{◌≡◌, ℕ, ◌+◌, ◌≤◌, ◌==◌, min, Bool, true, false, not, ◌&&◌, inl, inr, if◌then◌else◌, nat_le, List, [], ◌∷◌, Option, Some, None, is_some, Result, Ok, Err, Contains, refl, sym, ap, ◌∙◌, subst, arith, true≢false}
use Rattle.std.proofs.lemmas.Bool.{leb-true}
use Rattle.std.proofs.lemmas.Bool.Decides.{nat_tests}
use Rattle.std.specs.FinMap as map
use Rattle.std.specs.Cmp.{first_so, second_so}
use Rattle.ak_world.proofs.RaisedBySteps.{up_is}
use Rattle.ak_address.specs.Distinct.{distinct}
use Rattle.ak_address.specs.Unique.{UniqueModel}
use Rattle.ak_address.proofs.Elements.{first_or_rest, contains_nothing, index_of}
use Rattle.ak_address.proofs.OrderLemmas.{tied_is}
use Rattle.ak_address.proofs.TableLaws.{same_key}
use Rattle.ak_address.proofs.BoolLemmas.{not_false}
use Rattle.ak_converge.specs.Convergence.{is_converged}
use Rattle.ak_downing.specs.Downing.{decide, is_against}
use Rattle.ak_downing.proofs.DownedLaws.{downed_has}
use Rattle.ak_gossip.specs.declared.gossip.GossipFault.{GossipFault}
use Rattle.ak_gossip.specs.declared.gossip.GossipFault.TheVariants as fault
use Rattle.ak_gossip.specs.declared.gossip.Received.{Received}
use Rattle.ak_gossip.specs.Gossip.{GossipState, is_known, receive}
use Rattle.ak_leader.specs.Leader.{leader, leaders_effects, founding_effects, weak_effects}
use Rattle.ak_leader.specs.Led.{LedTo, IsMemberWith}
use Rattle.ak_leader.specs.Led.LedTo.{rises, exits, confirms, removes}
use Rattle.ak_leader.proofs.LedLaws.{led_from, founds_at}
use Rattle.ak_leader.proofs.WeakLaws.{weak_from}
use Rattle.ak_member.specs.declared.effect.Effect.{Effect}
use Rattle.ak_member.specs.declared.effect.Effect.TheVariants.{Joined, Rise, Observed}
use Rattle.ak_member.specs.declared.status.Status.{Status}
use Rattle.ak_member.specs.declared.status.Status.TheVariants.{Up, Leaving, Exiting, Down}
use Rattle.ak_member.specs.Standing as standing
use Rattle.ak_member.specs.Standing.{members_of, member_of, is_down, is_up, is_joining, is_member_with}
use Rattle.ak_member.proofs.MembersLaws.{members_have}
use Rattle.ak_membership.specs.declared.change.Change.{Change}
use Rattle.ak_membership.specs.declared.change.MemberFault.{MemberFault}
use Rattle.ak_membership.specs.declared.state.MembershipState.{MembershipState}
use Rattle.ak_membership.specs.Knowledge.{told_as, told}
use Rattle.ak_membership.specs.Membership.{Outcome, unchanged, may_count, update, update_any, is_member, join, leave, down, is_beside, has_member_beside, replaced, most_at_join, on_join, on_received, on_gossip, on_heard, on_confirmed}
use Rattle.ak_membership.specs.Tick.{observes, silent, decides, decided, founds, leads, lets_in, waited, has_settled, is_process, joining_addresses, updates, tick}
use Rattle.ak_membership.proofs.Causes.{joining_member, status_of}
use Rattle.ak_node.specs.declared.node.NodeEvent.{NodeEvent}
use Rattle.ak_node.specs.declared.node.NodeEvent.TheVariants as event
use Rattle.ak_node.specs.declared.node.State.{State}
use Rattle.ak_reach.specs.Unreachable.{unreachable_members}
use Rattle.ak_settings.specs.Settings.{is_listed, settling_size}
use Rattle.ak_wire.specs.declared.envelope.Envelope.{Envelope}
use Rattle.ak_wire.specs.declared.envelope.Message.{Message}
use Rattle.ak_wire.specs.declared.envelope.Message.TheVariants as message
use Rattle.ak_meaning.specs.Causes as cause
use Rattle.ak_meaning.specs.Causes.{IsCause, LeadsSettled, TicksNow, members_at}
use Rattle.ak_meaning.proofs.DecisionLemmas.{decision_presupposes}
use Rattle.ak_meaning.proofs.MembershipOf.{allowed, told_to, given_to}

-- ---- effects that an outcome tells
abbrev Says : Outcome → Effect → Type 0
Says o x = (number : ℕ) × (o.1.number ≡ Some number) × Contains o.1.effects x

pub says_told : (c : Change) (effects : List Effect) (x : Effect) → Contains (told c) effects → Contains effects x → (number : ℕ) × (c.number ≡ Some number) × Contains c.effects x
says_told c effects x there inside = by_number c.number refl there
  where
    by_number : (o : Option ℕ) → c.number ≡ o → Contains (told_as o c.effects) effects → (number : ℕ) × (c.number ≡ Some number) × Contains c.effects x
    by_number None is there = absurd (contains_nothing effects there)
    by_number (Some number) is there = (number, is, elim (first_or_rest c.effects effects [] there) [ inl same ↦ subst (λ l. Contains l x) same inside | inr none ↦ absurd (contains_nothing effects none) ])

-- ---- each effect that is told is of a kind
module _ (P : Effect → Type 0) where
  abbrev All : Outcome → Type 0
  All o = (x : Effect) → Says o x → P x

  all_if : (b : Bool) (o p : Outcome) → (b ≡ true → All o) → (b ≡ false → All p) → All (if b then o else p)
  all_if true o p x y = x refl
  all_if false o p x y = y refl

  all_unchanged : (m : MembershipState) → All (unchanged m)
  all_unchanged m x says = absurd (true≢false (sym (ap is_some says.1)))

  all_update : (m : MembershipState) (effects : List Effect) → ((x : Effect) → Contains effects x → P x) → All (update effects m)
  all_update m effects each = all_if (may_count m) _ _ (λ is x says. each x says.2) (λ is. all_unchanged m)

  all_any : (m : MembershipState) (effects : List Effect) → ((x : Effect) → Contains effects x → P x) → All (update_any effects m)
  all_any m [] each = all_unchanged m
  all_any m (x ∷ effects) each = all_update m (x ∷ effects) each

  all_one : (x : Effect) → P x → (y : Effect) → Contains (x ∷ []) y → P y
  all_one x is y there = elim (first_or_rest x y [] there) [ inl same ↦ subst P (sym same) is | inr none ↦ absurd (contains_nothing y none) ]

  allowed_if : (m : MembershipState) (b : Bool) (r s : Result Outcome MemberFault) → (b ≡ true → All (allowed r m)) → (b ≡ false → All (allowed s m)) → All (allowed (if b then r else s) m)
  allowed_if m true r s x y = x refl
  allowed_if m false r s x y = y refl

-- ---- why
is_it : (me : UniqueModel) (o : Option UniqueModel) → is_process me o ≡ true → o ≡ Some me
is_it me None is = absurd (true≢false (sym is))
is_it me (Some who) is = ap Some (same_key who me is)

module _ (n : State) (ev : NodeEvent) where
  abbrev m : MembershipState
  m = n.membership

  abbrev Why : Effect → Type 0
  Why x = IsCause n ev x

  -- ---- asked
  leaving : (who : UniqueModel) → cause.AsksToLeave ev who → All Why (allowed (leave who m) m)
  leaving who asked =
      allowed_if Why m (not (is_member m)) _ _ (λ is. all_unchanged Why m) (λ member.
      allowed_if Why m (not (standing.is_member m.gossip.view.standings who)) _ _ (λ is. all_unchanged Why m) (λ there.
      allowed_if Why m (not (is_member_with is_up m.gossip.view.standings who)) _ _ (λ is. all_unchanged Why m) (λ up.
      all_update Why m (Rise who Leaving 0 ∷ []) (all_one Why (Rise who Leaving 0) (cause.IsCause.leaves who asked (with_up (not_false _ up)))))))
    where
      with_up : is_member_with is_up m.gossip.view.standings who ≡ true → IsMemberWith (members_at n) who Up
      with_up is = let h = status_of is_up (member_of (map.get m.gossip.view.standings who)) is in (h.0.1, h.1 ∙ ap (λ status. Some (status, h.0.1)) (up_is h.0.0 h.2))

  downing : (who : UniqueModel) → cause.AsksToDown ev who → All Why (allowed (down who m) m)
  downing who asked =
      allowed_if Why m (not (is_member m)) _ _ (λ is. all_unchanged Why m) (λ member.
      allowed_if Why m (not (standing.is_member m.gossip.view.standings who)) _ _ (λ is. all_unchanged Why m) (λ there.
      allowed_if Why m (is_member_with is_down m.gossip.view.standings who) _ _ (λ is. all_unchanged Why m) (λ up.
      all_update Why m (Rise who Down 0 ∷ []) (all_one Why (Rise who Down 0) (cause.IsCause.downs_asked who asked (not_false _ there))))))

  joining : (from : UniqueModel) → cause.AsksToJoin ev from → All Why (allowed (on_join from m) m)
  joining from asked =
      allowed_if Why m (not (is_member m)) _ _ (λ is. all_unchanged Why m) (λ member.
      allowed_if Why m (not (is_listed m.settings.listed from.address)) _ _ (λ is. all_unchanged Why m) (λ listed.
      allowed_if Why m (standing.is_member m.gossip.view.standings from) _ _ (λ is. all_unchanged Why m) (λ other.
      allowed_if Why m (is_known m.gossip.view.standings from) _ _ (λ is. all_unchanged Why m) (λ unknown.
      allowed_if Why m (has_member_beside from m.gossip.view.standings) _ _ (λ is. all_any Why m (replaced from m.gossip.view.standings) (beside unknown)) (λ free.
      allowed_if Why m (nat_le most_at_join (map.len m.gossip.view.standings)) _ _ (λ is. all_unchanged Why m) (λ room.
      all_if Why (may_count m) _ _ (λ is x says. all_one Why (Joined from) (cause.IsCause.admits from asked (not_false _ member) unknown) x says.2) (λ is. all_unchanged Why m)))))))
    where
      beside : is_known m.gossip.view.standings from ≡ false → (x : Effect) → Contains (replaced from m.gossip.view.standings) x → Why x
      beside unknown x there =
          let d = downed_has (is_beside from) (members_of m.gossip.view.standings) x there in
          subst Why (sym d.4) (cause.IsCause.downs_replaced d.0.0 from asked (sym (tied_is d.0.0.address from.address d.2)) unknown (ap is_some (members_have m.gossip.view.standings d.0 d.1)))

  -- ---- a tick
  module _ (ticks : TicksNow n ev) where
    led : leads m ≡ true → (x : Effect) → Contains (leaders_effects m.gossip.view m.confirmed) x → Why x
    led is x there =
        let d = led_from m.gossip.view m.confirmed x there in
        by_cause d.0 d.1 d.2 x d.3
      where
        leads_it : LeadsSettled n
        leads_it = (first_so (has_settled m) _ is, is_it m.me (leader m.gossip.view) (second_so (has_settled m) _ is))

        as_status : (who : UniqueModel) (status other : Status) → status ≡ other → IsMemberWith (members_at n) who status → IsMemberWith (members_at n) who other
        as_status who status other is member = (member.0, member.1 ∙ ap (λ s. Some (s, member.0)) is)

        by_cause : (who : UniqueModel) (status : Status) → IsMemberWith (members_at n) who status → (y : Effect) → LedTo m.gossip.view m.confirmed who status y → Why y
        by_cause who status member y is = elim is as (λ z h. Why z) [
          | rises number waits least most ↦ cause.IsCause.rises who number ticks leads_it (status, member, waits)
          | exits leaving ↦ cause.IsCause.exits who ticks leads_it (as_status who status Leaving leaving member)
          | confirms out said ↦ cause.IsCause.confirms who ticks leads_it (elim out [ inl gone ↦ inl (as_status who status Exiting gone member) | inr gone ↦ inr (as_status who status Down gone member) ]) said
          | removes down unsaid lost ↦ cause.IsCause.removes who ticks leads_it (as_status who status Down down member) lost unsaid
        ]

    let_in : lets_in m ≡ true → (x : Effect) → Contains (weak_effects m.gossip.view) x → Why x
    let_in is x there =
        let asked = not (m.settings.weakly == 0) in
        let full = waited m == m.settings.weakly in
        let mine = is_process m.me (leader m.gossip.view) in
        let both = first_so (asked && full) mine is in
        let least = some_asked m.settings.weakly (first_so asked full both) in
        let long = is_long (waited m) m.settings.weakly (second_so asked full both) in
        let d = weak_from m.gossip.view x there in
        subst Why (sym d.3)
        (cause.IsCause.lets_in d.0 ticks
        (record { asked = least; waited = long; unsettled = not_settled (has_settled m) refl least long; leads = is_it m.me (leader m.gossip.view) (second_so (asked && full) mine is) })
        d.1 d.2)
      where
        some_asked : (k : ℕ) → not (k == 0) ≡ true → 1 ≤ k
        some_asked k some = grind (arith, nat_tests)

        is_long : (k l : ℕ) → (k == l) ≡ true → k ≡ l
        is_long k l same = grind (arith, nat_tests)

        not_settled : (b : Bool) → has_settled m ≡ b → 1 ≤ m.settings.weakly → waited m ≡ m.settings.weakly → has_settled m ≡ false
        not_settled false settled least long = settled
        not_settled true settled least long =
            let none : waited m ≡ 0 = ap (λ b. if b then 0 else min (m.weak + 1) m.settings.weakly) settled in
            absurd (omega (arith, none, long, least))

    founded : founds m ≡ true → (x : Effect) → Contains (founding_effects m.gossip.view.standings) x → Why x
    founded is x there =
        let s = m.gossip.view.standings in
        let j = is_member_with is_joining s m.me in
        let agree = is_converged m.gossip.view m.gossip.seen in
        let enough = nat_le (settling_size m.settings.strategy) (distinct (joining_addresses m.settings.role s)) in
        let three = first_so (m.founder && j && agree) enough is in
        let both = first_so (m.founder && j) agree three in
        let at = index_of (founding_effects s) x there in
        let d = founds_at s at.0 x at.1 in
        subst Why (sym d.2)
        (cause.IsCause.founds d.0 (at.0 + 1) ticks
        (record {
          founder = first_so m.founder j both;
          joining = joining_member s m.me (second_so m.founder j both);
          agreed = second_so (m.founder && j) agree three;
          enough = leb-true (settling_size m.settings.strategy) (distinct (joining_addresses m.settings.role s)) (second_so (m.founder && j && agree) enough is);
        })
        d.1)

    decides_it : decides m ≡ true → (x : Effect) → Contains (decided m) x → Why x
    decides_it is x there =
        let d = downed_has (is_against (decide m.settings.strategy m.settings.role m.gossip.view m.me) (unreachable_members m.gossip.view) m.me) (members_of m.gossip.view.standings) x there in
        let before = decision_presupposes n is in
        subst Why (sym d.4) (cause.IsCause.downs_decided d.0.0 ticks (record { decides = is; counted = before.0; lost = before.1; downed = subst (Contains (decided m)) d.4 there }))

    updated_why : All Why (updates m)
    updated_why =
        all_if Why (observes m) _ _ (λ is. all_update Why m (Observed (silent m) ∷ []) (all_one Why (Observed (silent m)) (cause.IsCause.observes ticks))) (λ none.
        all_if Why (decides m) _ _ (λ is. all_update Why m (decided m) (decides_it is)) (λ none.
        all_if Why (founds m) _ _ (λ is. all_update Why m (founding_effects m.gossip.view.standings) (founded is)) (λ none.
        all_if Why (leads m) _ _ (λ is. all_any Why m (leaders_effects m.gossip.view m.confirmed) (led is)) (λ none.
        all_if Why (lets_in m) _ _ (λ is. all_any Why m (weak_effects m.gossip.view) (let_in is)) (λ none. all_unchanged Why m)))))

  ticking : (word : ℕ) → ev ≡ event.Tick word → All Why (tick m)
  ticking word is = all_if Why (is_member m) _ _ (λ member x says. updated_why ((word, is), member) x says) (λ none. all_unchanged Why m)

  -- ---- a gossip makes no update
  receiving : (g : GossipState) → All Why (allowed (on_gossip g m) m)
  receiving g = allowed_if Why m (is_known g.view.standings m.me) _ _ (λ is. by_answer (receive m.me m.gossip g)) (λ none. all_unchanged Why m)
    where
      by_answer : (r : Result (Received × GossipState) GossipFault) → All Why (allowed (on_received g m r) m)
      by_answer (Err (fault.ForeignCount own theirs)) = all_unchanged Why m
      by_answer (Err (fault.TooManyUniques together)) = all_unchanged Why m
      by_answer (Err (fault.NoMemory _)) = all_unchanged Why m
      by_answer (Ok r) = λ x says. absurd (true≢false (sym (ap is_some says.1)))

  telling : (p : Envelope) → ev ≡ event.Packet p → (what : Message) → p.message ≡ what → All Why (told_to p.from what m)
  telling p is message.Join what = joining p.from (p, is, what, refl)
  telling p is (message.Welcome g) what = receiving g
  telling p is (message.Gossip g) what = receiving g
  telling p is message.Heartbeat what = all_unchanged Why m
  telling p is message.HeartbeatReply what = all_unchanged Why (if is_member m then on_heard p.from m else m)
  telling p is message.ExitingConfirmed what = all_unchanged Why (if is_member m then on_confirmed p.from m else m)
  telling p is (message.Ask b) what = all_unchanged Why m
  telling p is (message.Granted b floor reports) what = all_unchanged Why m
  telling p is (message.Busy b held) what = all_unchanged Why m
  telling p is (message.Old b last) what = all_unchanged Why m
  telling p is (message.HandOverToMe b) what = all_unchanged Why m
  telling p is (message.HandOverDone b floor) what = all_unchanged Why m
  telling p is (message.Release b floor) what = all_unchanged Why m
  telling p is (message.GetHome b shard) what = all_unchanged Why m
  telling p is (message.Home b shard owner) what = all_unchanged Why m
  telling p is (message.HostShard b shard number) what = all_unchanged Why m
  telling p is (message.ShardStarted b shard number) what = all_unchanged Why m
  telling p is (message.BeginHandOff b shard number) what = all_unchanged Why m
  telling p is (message.BeginHandOffAck b shard number) what = all_unchanged Why m
  telling p is (message.HandOff b shard number) what = all_unchanged Why m
  telling p is (message.ShardStopped b shard number) what = all_unchanged Why m
  telling p is (message.Forward entity payload) what = all_unchanged Why m
  telling p is (message.Leave who) what = leaving who (inr (p, is, what))
  telling p is (message.Down who) what = downing who (inr (p, is, what))
  telling p is (message.Offer entity payload) what = all_unchanged Why m

  giving : (e : NodeEvent) → ev ≡ e → All Why (given_to e m)
  giving event.Found is =
      all_if Why (is_known m.gossip.view.standings m.me) _ _ (λ there. all_unchanged Why m)
      (λ none. all_update Why (record m { founder = true }) (Joined m.me ∷ []) (all_one Why (Joined m.me) (cause.IsCause.begins is)))
  giving (event.Join target) is = all_unchanged Why (join target m)
  giving (event.Tick word) is = ticking word is
  giving (event.Packet p) is = telling p is p.message refl
  giving (event.Leave who) is = leaving who (inl is)
  giving (event.Down who) is = downing who (inl is)
  giving (event.Offer entity payload) is = all_unchanged Why m
  giving event.Stop is = all_unchanged Why m

  pub told_why : (effects : List Effect) (x : Effect) → Contains (told (given_to ev m).1) effects → Contains effects x → IsCause n ev x
  told_why effects x there inside = giving ev refl x (says_told (given_to ev m).1 effects x there inside)
