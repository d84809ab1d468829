-- What a step does to how long a view has stood still.
use Rattle.std.proofs.Common.{◌≡◌, ℕ, ◌+◌, ◌≤◌, Bool, true, false, not, ◌||◌, ◌⊎◌, inl, inr, if◌then◌else◌, nat_le, List, [], ◌∷◌, Some, Result, Ok, Err, IsTrue, refl, sym, ap, ◌∙◌, subst, arith, true≢false}
use Rattle.std.specs.FinMap as map
use Rattle.ak_address.specs.Unique.{UniqueModel}
use Rattle.ak_address.specs.Uniques.{with_one}
use Rattle.ak_gossip.specs.declared.gossip.GossipFault.{GossipFault}
use Rattle.ak_gossip.specs.declared.gossip.GossipFault.TheVariants as fault
use Rattle.ak_gossip.specs.declared.gossip.Received.{Received}
use Rattle.ak_gossip.specs.Gossip.{GossipState, is_known, receive, updated}
use Rattle.ak_leader.specs.Leader.{leaders_effects, founding_effects, weak_effects}
use Rattle.ak_member.specs.declared.effect.Effect.{Effect}
use Rattle.ak_member.specs.declared.effect.Effect.TheVariants.{Joined, Rise, Observed}
use Rattle.ak_member.specs.declared.status.Status.TheVariants.{Leaving, Down}
use Rattle.ak_member.specs.Standing as standing
use Rattle.ak_member.specs.Standing.{is_down, is_up, is_member_with}
use Rattle.ak_member.specs.View.{View}
use Rattle.ak_membership.specs.declared.change.MemberFault.{MemberFault}
use Rattle.ak_membership.specs.declared.change.Reply.TheVariants.{Welcome}
use Rattle.ak_membership.specs.declared.state.MembershipState.{MembershipState}
use Rattle.ak_membership.specs.Membership.{Outcome, unchanged, replying, may_count, made, update, update_any, knowing, is_member, leave, down, has_member_beside, replaced, most_at_join, on_join, on_received, on_gossip, on_heard}
use Rattle.ak_sight.specs.Sight.{sight, has_moved}
use Rattle.ak_membership.specs.Tick.{observes, silent, decides, decided, founds, leads, lets_in, waited, updates, counted}
use Rattle.ak_membership.specs.Closing.{stable_after}
use Rattle.ak_sight.proofs.MovedLaws.{stood_still}
use Rattle.ak_node.specs.declared.node.NodeEvent.{NodeEvent}
use Rattle.ak_node.specs.declared.node.NodeEvent.TheVariants as event
use Rattle.ak_node.specs.declared.node.State.{State}
use Rattle.ak_node.specs.Node as node
use Rattle.ak_node.specs.Node.{known, me_of, and_then, rule, concludes, is_dead, running_step, step}
use Rattle.ak_node.proofs.StepChanges.{step_is}
use Rattle.ak_settings.specs.Settings.{is_listed}
use Rattle.ak_wire.specs.declared.action.Action.TheVariants as action
use Rattle.ak_wire.specs.declared.envelope.Message.{Message}
use Rattle.ak_wire.specs.declared.envelope.Message.TheVariants as message
use Rattle.ak_meaning.proofs.MembershipOf.{allowed, told_to, given_to, rule_does}

-- ---- a call of a membership
-- after it the view has stood still for so many ticks more at most; and if nothing moved, each process is shown the same
record Steady (ticks : ℕ) (m l : MembershipState) : Type 0 where
  still : l.moved ≡ false → (who : UniqueModel) → sight m.gossip.view who ≡ sight l.gossip.view who
  stable : l.stable ≤ m.stable + ticks

or_last : (a b : Bool) → (a || b) ≡ false → b ≡ false
or_last true b is = absurd (true≢false is)
or_last false b is = is

module _ (m : MembershipState) where
  -- the same view, and as long
  same_steady : (l : MembershipState) → l.gossip.view ≡ m.gossip.view → l.stable ≡ m.stable → Steady 0 m l
  same_steady l view stable = record { still = λ _ who. ap (λ (v : View). sight v who) (sym view); stable = omega arith }

  itself : Steady 0 m m
  itself = same_steady m refl refl

  knowing_steady : (l : MembershipState) (g : GossipState) → l.gossip ≡ m.gossip → l.stable ≡ m.stable → Steady 0 m (knowing g l)
  knowing_steady l g same stable = record {
    still = λ moved who. ap (λ (x : GossipState). sight x.view who) (sym same) ∙ stood_still l.gossip.view g.view (or_last l.moved (has_moved l.gossip.view g.view) moved) who;
    stable = omega arith;
  }

  steady_if : (ticks : ℕ) (b : Bool) (o p : Outcome) → Steady ticks m o.0 → Steady ticks m p.0 → Steady ticks m (if b then o else p).0
  steady_if ticks true o p x y = x
  steady_if ticks false o p x y = y

  update_steady : (l : MembershipState) (effects : List Effect) → l.gossip ≡ m.gossip → l.stable ≡ m.stable → Steady 0 m (update effects l).0
  update_steady l effects same stable = steady_if 0 (may_count l) (made effects l) (unchanged l) (knowing_steady l (updated l.me effects l.gossip) same stable) (same_steady l (ap (λ (x : GossipState). x.view) same) stable)

  any_steady : (effects : List Effect) → Steady 0 m (update_any effects m).0
  any_steady [] = itself
  any_steady (x ∷ effects) = update_steady m (x ∷ effects) refl refl

  allowed_if : (b : Bool) (r s : Result Outcome MemberFault) → Steady 0 m (allowed r m).0 → Steady 0 m (allowed s m).0 → Steady 0 m (allowed (if b then r else s) m).0
  allowed_if true r s x y = x
  allowed_if false r s x y = y

  leave_steady : (who : UniqueModel) → Steady 0 m (allowed (leave who m) m).0
  leave_steady who =
      allowed_if (not (is_member m)) _ _ itself
      (allowed_if (not (standing.is_member m.gossip.view.standings who)) _ _ itself
      (allowed_if (not (is_member_with is_up m.gossip.view.standings who)) _ (Ok (update (Rise who Leaving 0 ∷ []) m)) itself (update_steady m (Rise who Leaving 0 ∷ []) refl refl)))

  down_steady : (who : UniqueModel) → Steady 0 m (allowed (down who m) m).0
  down_steady who =
      allowed_if (not (is_member m)) _ _ itself
      (allowed_if (not (standing.is_member m.gossip.view.standings who)) _ _ itself
      (allowed_if (is_member_with is_down m.gossip.view.standings who) (Ok (unchanged m)) (Ok (update (Rise who Down 0 ∷ []) m)) itself (update_steady m (Rise who Down 0 ∷ []) refl refl)))

  join_steady : (from : UniqueModel) → Steady 0 m (allowed (on_join from m) m).0
  join_steady from =
      allowed_if (not (is_member m)) _ _ itself
      (allowed_if (not (is_listed m.settings.listed from.address)) _ _ itself
      (allowed_if (standing.is_member m.gossip.view.standings from) (Ok (replying Welcome (unchanged m))) _ itself
      (allowed_if (is_known m.gossip.view.standings from) (Ok (unchanged m)) _ itself
      (allowed_if (has_member_beside from m.gossip.view.standings) (Ok (update_any (replaced from m.gossip.view.standings) m)) _ (any_steady (replaced from m.gossip.view.standings))
      (allowed_if (nat_le most_at_join (map.len m.gossip.view.standings)) _ _ itself
      (steady_if 0 (may_count m) (replying Welcome (made (Joined from ∷ []) m)) (unchanged m) (knowing_steady m (updated m.me (Joined from ∷ []) m.gossip) refl refl) itself))))))

  received_steady : (g : GossipState) (r : Result (Received × GossipState) GossipFault) → Steady 0 m (allowed (on_received g m r) m).0
  received_steady g (Err (fault.ForeignCount own theirs)) = itself
  received_steady g (Err (fault.TooManyUniques together)) = itself
  received_steady g (Err (fault.NoMemory _)) = itself
  received_steady g (Ok r) = knowing_steady m r.1 refl refl

  gossip_steady : (g : GossipState) → Steady 0 m (allowed (on_gossip g m) m).0
  gossip_steady g = allowed_if (is_known g.view.standings m.me) (on_received g m (receive m.me m.gossip g)) (Ok (unchanged m)) (received_steady g (receive m.me m.gossip g)) itself

  -- a tick counts one
  updates_steady : Steady 0 m (updates m).0
  updates_steady =
      steady_if 0 (observes m) (update (Observed (silent m) ∷ []) m) _ (update_steady m (Observed (silent m) ∷ []) refl refl)
      (steady_if 0 (decides m) (update (decided m) m) _ (update_steady m (decided m) refl refl)
      (steady_if 0 (founds m) (update (founding_effects m.gossip.view.standings) m) _ (update_steady m (founding_effects m.gossip.view.standings) refl refl)
      (steady_if 0 (leads m) (update_any (leaders_effects m.gossip.view m.confirmed) m) _ (any_steady (leaders_effects m.gossip.view m.confirmed))
      (steady_if 0 (lets_in m) (update_any (weak_effects m.gossip.view) m) (unchanged m) (any_steady (weak_effects m.gossip.view)) itself))))

  counted_steady : (l : MembershipState) (weak : ℕ) → Steady 0 m l → Steady 1 m (counted weak l)
  counted_steady l weak s = record { still = s.still; stable = (let most = s.stable in omega arith) }

-- how many ticks of a member an event is
abbrev pub member_ticks : NodeEvent → MembershipState → ℕ
member_ticks event.Found m = 0
member_ticks (event.Join target) m = 0
member_ticks (event.Tick word) m = if is_member m then 1 else 0
member_ticks (event.Packet p) m = 0
member_ticks (event.Leave who) m = 0
member_ticks (event.Down who) m = 0
member_ticks (event.Offer entity payload) m = 0
member_ticks event.Stop m = 0

module _ (m : MembershipState) where
  told_steady : (from : UniqueModel) (what : Message) → Steady 0 m (told_to from what m).0
  told_steady from message.Join = join_steady m from
  told_steady from (message.Welcome g) = gossip_steady m g
  told_steady from (message.Gossip g) = gossip_steady m g
  told_steady from message.Heartbeat = itself m
  told_steady from message.HeartbeatReply = by_member (is_member m)
    where
      by_member : (b : Bool) → Steady 0 m (if b then on_heard from m else m)
      by_member true = same_steady m (on_heard from m) refl refl
      by_member false = itself m
  told_steady from message.ExitingConfirmed = by_member (is_member m) (standing.is_member m.gossip.view.standings from)
    where
      by_member : (b c : Bool) → Steady 0 m (if b then (if c then record m { confirmed = with_one m.confirmed from } else m) else m)
      by_member true true = same_steady m (record m { confirmed = with_one m.confirmed from }) refl refl
      by_member true false = itself m
      by_member false c = itself m
  told_steady from (message.Ask b) = itself m
  told_steady from (message.Granted b floor reports) = itself m
  told_steady from (message.Busy b held) = itself m
  told_steady from (message.Old b last) = itself m
  told_steady from (message.HandOverToMe b) = itself m
  told_steady from (message.HandOverDone b floor) = itself m
  told_steady from (message.Release b floor) = itself m
  told_steady from (message.GetHome b shard) = itself m
  told_steady from (message.Home b shard owner) = itself m
  told_steady from (message.HostShard b shard number) = itself m
  told_steady from (message.ShardStarted b shard number) = itself m
  told_steady from (message.BeginHandOff b shard number) = itself m
  told_steady from (message.BeginHandOffAck b shard number) = itself m
  told_steady from (message.HandOff b shard number) = itself m
  told_steady from (message.ShardStopped b shard number) = itself m
  told_steady from (message.Forward entity payload) = itself m
  told_steady from (message.Leave who) = leave_steady m who
  told_steady from (message.Down who) = down_steady m who
  told_steady from (message.Offer entity payload) = itself m

  given_steady : (e : NodeEvent) → Steady (member_ticks e m) m (given_to e m).0
  given_steady event.Found =
      steady_if m 0 (is_known m.gossip.view.standings m.me) (unchanged m) (update (Joined m.me ∷ []) (record m { founder = true })) (itself m)
      (update_steady m (record m { founder = true }) (Joined m.me ∷ []) refl refl)
  given_steady (event.Join target) = by_member (is_member m)
    where
      by_member : (b : Bool) → Steady 0 m (if b then m else record m { target = Some target })
      by_member true = itself m
      by_member false = same_steady m (record m { target = Some target }) refl refl
  given_steady (event.Tick word) = by_member (is_member m)
    where
      by_member : (b : Bool) → Steady (if b then 1 else 0) m (if b then (counted (waited m) (updates m).0, (updates m).1) else unchanged m).0
      by_member true = counted_steady m (updates m).0 (waited m) (updates_steady m)
      by_member false = itself m
  given_steady (event.Packet p) = told_steady p.from p.message
  given_steady (event.Leave who) = leave_steady m who
  given_steady (event.Down who) = down_steady m who
  given_steady (event.Offer entity payload) = itself m
  given_steady event.Stop = itself m

-- ---- a step
-- a step after which the view has not stood still at all, or shows all the same and has stood still for so many ticks more at most
abbrev pub StandsStill : ℕ → State → State → Type 0
StandsStill ticks n l =
    (l.membership.stable ≡ 0)
    ⊎ (((who : UniqueModel) → sight (known n).view who ≡ sight (known l).view who) × (l.membership.stable ≤ n.membership.stable + ticks))

closed_still : (ticks : ℕ) (n : State) (m : MembershipState) (l : State) → Steady ticks n.membership m → l.membership.stable ≡ stable_after m → (known l).view ≡ m.gossip.view → StandsStill ticks n l
closed_still ticks n m l s stable view = by_moved m.moved refl
  where
    by_moved : (b : Bool) → m.moved ≡ b → StandsStill ticks n l
    by_moved true is = inl (stable ∙ ap (λ b. if b then 0 else m.stable) is)
    by_moved false is =
        let kept : l.membership.stable ≡ m.stable = stable ∙ ap (λ b. if b then 0 else m.stable) is in
        let most = s.stable in
        inr ((λ who. s.still is who ∙ ap (λ (v : View). sight v who) (sym view)), omega arith)

running_still : (e : NodeEvent) (n : State) → StandsStill (member_ticks e n.membership) n (running_step e n).0
running_still e n = by_dead (is_dead (me_of n) e)
  where
    m : MembershipState
    m = (rule e n).0.membership

    by_dead : (b : Bool) → StandsStill (member_ticks e n.membership) n (if b then (n, action.Dead ∷ []) else and_then concludes (rule e n)).0
    by_dead true = inr ((λ who. refl), omega arith)
    by_dead false = closed_still (member_ticks e n.membership) n m (concludes (rule e n).0).0 (subst (Steady (member_ticks e n.membership) n.membership) (sym (rule_does n e).state) (given_steady n.membership e)) refl refl

pub step_still : (e : NodeEvent) (n : State) → IsTrue n.runs → StandsStill (member_ticks e n.membership) n (step e n).0
step_still e n runs = subst (λ (o : node.Outcome). StandsStill (member_ticks e n.membership) n o.0) (sym (step_is e n runs)) (running_still e (record n { steps = n.steps + 1 }))
