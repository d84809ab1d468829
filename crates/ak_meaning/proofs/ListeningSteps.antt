-- What a step does to the counters of a detector: what came with its event, and then the members.
use Rattle.std.proofs.Common.{◌≡◌, ℕ, ◌+◌, Bool, true, false, not, if◌then◌else◌, nat_le, List, [], ◌∷◌, ◌++◌, Some, Result, Ok, Err, IsTrue, refl, sym, ◌∙◌, subst}
use Rattle.std.specs.FinMap as map
use Rattle.ak_address.specs.Unique.{UniqueModel}
use Rattle.ak_address.specs.Uniques.{with_one}
use Rattle.ak_detector.specs.Detector.{watching, ticked}
use Rattle.ak_gossip.specs.declared.gossip.GossipFault.{GossipFault}
use Rattle.ak_gossip.specs.declared.gossip.GossipFault.TheVariants as fault
use Rattle.ak_gossip.specs.declared.gossip.Received.{Received}
use Rattle.ak_gossip.specs.Gossip.{GossipState, is_known, receive}
use Rattle.ak_leader.specs.Leader.{leaders_effects, founding_effects, weak_effects}
use Rattle.ak_member.specs.declared.effect.Effect.{Effect}
use Rattle.ak_member.specs.declared.effect.Effect.TheVariants.{Joined, Rise, Observed}
use Rattle.ak_member.specs.declared.status.Status.TheVariants.{Leaving, Down}
use Rattle.ak_member.specs.Standing as standing
use Rattle.ak_member.specs.Standing.{is_down, is_up, is_member_with}
use Rattle.ak_membership.specs.declared.change.MemberFault.{MemberFault}
use Rattle.ak_membership.specs.declared.change.Reply.TheVariants.{Welcome}
use Rattle.ak_membership.specs.declared.state.MembershipState.{MembershipState}
use Rattle.ak_membership.specs.Membership.{Outcome, unchanged, replying, may_count, made, update, update_any, knowing, is_member, found, leave, down, has_member_beside, replaced, most_at_join, on_join, on_received, on_gossip, on_heard}
use Rattle.ak_membership.specs.Tick.{observes, silent, decides, decided, founds, leads, lets_in, waited, updates, counted}
use Rattle.ak_node.specs.declared.node.NodeEvent.{NodeEvent}
use Rattle.ak_node.specs.declared.node.NodeEvent.TheVariants as event
use Rattle.ak_node.specs.declared.node.State.{State}
use Rattle.ak_node.specs.Node as node
use Rattle.ak_node.specs.Node.{known, me_of, and_then, rule, concludes, is_dead, running_step, step}
use Rattle.ak_node.proofs.StepChanges.{step_is}
use Rattle.ak_settings.specs.Settings.{is_listed}
use Rattle.ak_wire.specs.declared.action.Action.TheVariants as action
use Rattle.ak_wire.specs.declared.envelope.Message.{Message}
use Rattle.ak_wire.specs.declared.envelope.Message.TheVariants as message
use Rattle.ak_meaning.specs.Listening.{heard_with, happens_with, comes_with}
use Rattle.ak_meaning.specs.Ring.{Happening, Watches, Hears, Ticks, listening}
use Rattle.ak_meaning.proofs.MembershipOf.{allowed, told_to, given_to, rule_does}
use Rattle.ak_meaning.proofs.SilenceLaws.{after_both}

-- after a call the counters are those after what came, of the same process with the same settings
record Listens (happenings : List Happening) (m l : MembershipState) : Type 0 where
  detector : l.detector ≡ listening m.me m.settings.deadline m.detector happenings
  me : l.me ≡ m.me
  settings : l.settings ≡ m.settings

module _ (m : MembershipState) where
  still : (l : MembershipState) → l.detector ≡ m.detector → l.me ≡ m.me → l.settings ≡ m.settings → Listens [] m l
  still l detector me settings = record { detector = detector; me = me; settings = settings }

  itself : Listens [] m m
  itself = still m refl refl refl

  listens_if : (b : Bool) (o p : Outcome) → Listens [] m o.0 → Listens [] m p.0 → Listens [] m (if b then o else p).0
  listens_if true o p x y = x
  listens_if false o p x y = y

  update_listens : (l : MembershipState) (effects : List Effect) → l.detector ≡ m.detector → l.me ≡ m.me → l.settings ≡ m.settings → Listens [] m (update effects l).0
  update_listens l effects detector me settings = listens_if (may_count l) (made effects l) (unchanged l) (still (made effects l).0 detector me settings) (still l detector me settings)

  any_listens : (effects : List Effect) → Listens [] m (update_any effects m).0
  any_listens [] = itself
  any_listens (x ∷ effects) = update_listens m (x ∷ effects) refl refl refl

  allowed_if : (b : Bool) (r s : Result Outcome MemberFault) → Listens [] m (allowed r m).0 → Listens [] m (allowed s m).0 → Listens [] m (allowed (if b then r else s) m).0
  allowed_if true r s x y = x
  allowed_if false r s x y = y

  leave_listens : (who : UniqueModel) → Listens [] m (allowed (leave who m) m).0
  leave_listens who =
      allowed_if (not (is_member m)) _ _ itself
      (allowed_if (not (standing.is_member m.gossip.view.standings who)) _ _ itself
      (allowed_if (not (is_member_with is_up m.gossip.view.standings who)) _ (Ok (update (Rise who Leaving 0 ∷ []) m)) itself (update_listens m (Rise who Leaving 0 ∷ []) refl refl refl)))

  down_listens : (who : UniqueModel) → Listens [] m (allowed (down who m) m).0
  down_listens who =
      allowed_if (not (is_member m)) _ _ itself
      (allowed_if (not (standing.is_member m.gossip.view.standings who)) _ _ itself
      (allowed_if (is_member_with is_down m.gossip.view.standings who) (Ok (unchanged m)) (Ok (update (Rise who Down 0 ∷ []) m)) itself (update_listens m (Rise who Down 0 ∷ []) refl refl refl)))

  join_listens : (from : UniqueModel) → Listens [] m (allowed (on_join from m) m).0
  join_listens from =
      allowed_if (not (is_member m)) _ _ itself
      (allowed_if (not (is_listed m.settings.listed from.address)) _ _ itself
      (allowed_if (standing.is_member m.gossip.view.standings from) (Ok (replying Welcome (unchanged m))) _ itself
      (allowed_if (is_known m.gossip.view.standings from) (Ok (unchanged m)) _ itself
      (allowed_if (has_member_beside from m.gossip.view.standings) (Ok (update_any (replaced from m.gossip.view.standings) m)) _ (any_listens (replaced from m.gossip.view.standings))
      (allowed_if (nat_le most_at_join (map.len m.gossip.view.standings)) _ _ itself
      (listens_if (may_count m) (replying Welcome (made (Joined from ∷ []) m)) (unchanged m) (still (made (Joined from ∷ []) m).0 refl refl refl) itself))))))

  received_listens : (g : GossipState) (r : Result (Received × GossipState) GossipFault) → Listens [] m (allowed (on_received g m r) m).0
  received_listens g (Err (fault.ForeignCount own theirs)) = itself
  received_listens g (Err (fault.TooManyUniques together)) = itself
  received_listens g (Err (fault.NoMemory _)) = itself
  received_listens g (Ok r) = still (knowing r.1 m) refl refl refl

  gossip_listens : (g : GossipState) → Listens [] m (allowed (on_gossip g m) m).0
  gossip_listens g = allowed_if (is_known g.view.standings m.me) (on_received g m (receive m.me m.gossip g)) (Ok (unchanged m)) (received_listens g (receive m.me m.gossip g)) itself

  updates_listen : Listens [] m (updates m).0
  updates_listen =
      listens_if (observes m) (update (Observed (silent m) ∷ []) m) _ (update_listens m (Observed (silent m) ∷ []) refl refl refl)
      (listens_if (decides m) (update (decided m) m) _ (update_listens m (decided m) refl refl refl)
      (listens_if (founds m) (update (founding_effects m.gossip.view.standings) m) _ (update_listens m (founding_effects m.gossip.view.standings) refl refl refl)
      (listens_if (leads m) (update_any (leaders_effects m.gossip.view m.confirmed) m) _ (any_listens (leaders_effects m.gossip.view m.confirmed))
      (listens_if (lets_in m) (update_any (weak_effects m.gossip.view) m) (unchanged m) (any_listens (weak_effects m.gossip.view)) itself))))

  counted_listens : (l : MembershipState) (weak : ℕ) → Listens [] m l → Listens (Ticks ∷ []) m (counted weak l)
  counted_listens l weak s = record { detector = (λ i. ticked (s.settings i).deadline (s.detector i)); me = s.me; settings = s.settings }

  -- nothing comes to one that is no member
  nothing_comes : (b : Bool) (l : MembershipState) → Listens [] m l → Listens (if b then [] else []) m l
  nothing_comes true l x = x
  nothing_comes false l x = x

  told_listens : (from : UniqueModel) (what : Message) → Listens (if is_member m then heard_with from what else []) m (told_to from what m).0
  told_listens from message.Join = nothing_comes (is_member m) (told_to from message.Join m).0 (join_listens from)
  told_listens from (message.Welcome g) = nothing_comes (is_member m) (told_to from (message.Welcome g) m).0 (gossip_listens g)
  told_listens from (message.Gossip g) = nothing_comes (is_member m) (told_to from (message.Gossip g) m).0 (gossip_listens g)
  told_listens from message.HeartbeatReply = by_member (is_member m)
    where
      by_member : (b : Bool) → Listens (if b then Hears from ∷ [] else []) m (if b then on_heard from m else m)
      by_member true = record { detector = refl; me = refl; settings = refl }
      by_member false = itself
  told_listens from message.ExitingConfirmed = nothing_comes (is_member m) (told_to from message.ExitingConfirmed m).0 (by_member (is_member m) (standing.is_member m.gossip.view.standings from))
    where
      by_member : (b c : Bool) → Listens [] m (if b then (if c then record m { confirmed = with_one m.confirmed from } else m) else m)
      by_member true true = still (record m { confirmed = with_one m.confirmed from }) refl refl refl
      by_member true false = itself
      by_member false c = itself
  told_listens from (message.Leave who) = nothing_comes (is_member m) (told_to from (message.Leave who) m).0 (leave_listens who)
  told_listens from (message.Down who) = nothing_comes (is_member m) (told_to from (message.Down who) m).0 (down_listens who)
  told_listens from other = nothing_comes (is_member m) m itself

  given_listens : (e : NodeEvent) → Listens (if is_member m then happens_with e else []) m (given_to e m).0
  given_listens event.Found =
      nothing_comes (is_member m) (found m).0
      (listens_if (is_known m.gossip.view.standings m.me) (unchanged m) (update (Joined m.me ∷ []) (record m { founder = true })) itself (update_listens (record m { founder = true }) (Joined m.me ∷ []) refl refl refl))
  given_listens (event.Join target) = by_member (is_member m)
    where
      by_member : (b : Bool) → Listens (if b then [] else []) m (if b then m else record m { target = Some target })
      by_member true = itself
      by_member false = still (record m { target = Some target }) refl refl refl
  given_listens (event.Tick word) = by_member (is_member m)
    where
      by_member : (b : Bool) → Listens (if b then Ticks ∷ [] else []) m (if b then (counted (waited m) (updates m).0, (updates m).1) else unchanged m).0
      by_member true = counted_listens (updates m).0 (waited m) updates_listen
      by_member false = itself
  given_listens (event.Packet p) = told_listens p.from p.message
  given_listens (event.Leave who) = nothing_comes (is_member m) (given_to (event.Leave who) m).0 (leave_listens who)
  given_listens (event.Down who) = nothing_comes (is_member m) (given_to (event.Down who) m).0 (down_listens who)
  given_listens (event.Offer entity payload) = nothing_comes (is_member m) m itself
  given_listens event.Stop = nothing_comes (is_member m) m itself

-- a step
pub record StepListens (happenings : List Happening) (n l : State) : Type 0 where
  pub detector : l.membership.detector ≡ listening (me_of n) n.membership.settings.deadline n.membership.detector (happenings ++ Watches (known l).view.standings ∷ [])
  pub me : me_of l ≡ me_of n
  pub settings : l.membership.settings ≡ n.membership.settings

closed_listens : (happenings : List Happening) (n : State) (m : MembershipState) (l : State) → Listens happenings n.membership m → me_of l ≡ m.me → l.membership.settings ≡ m.settings → (known l).view.standings ≡ m.gossip.view.standings
    → l.membership.detector ≡ watching m.me m.gossip.view.standings m.settings.deadline m.detector → StepListens happenings n l
closed_listens happenings n m l s me settings members watches = record {
  detector =
      watches
      ∙ (λ i. watching (s.me i) (sym members i) (s.settings i).deadline (s.detector i))
      ∙ sym (after_both (me_of n) n.membership.settings.deadline n.membership.detector happenings (Watches (known l).view.standings ∷ []));
  me = me ∙ s.me;
  settings = settings ∙ s.settings;
}

running_listens : (e : NodeEvent) (n : State) → is_dead (me_of n) e ≡ false → StepListens (comes_with e n) n (running_step e n).0
running_listens e n alive = subst (λ b. StepListens (comes_with e n) n (if b then (n, action.Dead ∷ []) else and_then concludes (rule e n)).0) (sym alive) here
  where
    m : MembershipState
    m = (rule e n).0.membership

    here : StepListens (comes_with e n) n (and_then concludes (rule e n)).0
    here = closed_listens (comes_with e n) n (rule e n).0.membership (concludes (rule e n).0).0 (subst (Listens (comes_with e n) n.membership) (sym (rule_does n e).state) (given_listens n.membership e)) refl refl refl refl

pub step_listens : (e : NodeEvent) (n : State) → IsTrue n.runs → is_dead (me_of n) e ≡ false → StepListens (comes_with e n) n (step e n).0
step_listens e n runs alive =
    subst (λ (o : node.Outcome). StepListens (comes_with e n) n o.0) (sym (step_is e n runs))
    (again (running_listens e (record n { steps = n.steps + 1 }) alive))
  where
    again : StepListens (comes_with e n) (record n { steps = n.steps + 1 }) (running_step e (record n { steps = n.steps + 1 })).0 → StepListens (comes_with e n) n (running_step e (record n { steps = n.steps + 1 })).0
    again s = record { detector = s.detector; me = s.me; settings = s.settings }
