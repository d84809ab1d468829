-- What a step does to how long a view has not settled.
use Rattle.std.proofs.Common.{◌≡◌, ℕ, ◌+◌, Bool, true, false, not, if◌then◌else◌, nat_le, List, [], ◌∷◌, Some, Result, Ok, Err, IsTrue, refl, sym, ap, ◌∙◌, true≢false}
use Rattle.std.specs.FinMap as map
use Rattle.ak_address.specs.Unique.{UniqueModel}
use Rattle.ak_address.specs.Uniques.{with_one}
use Rattle.ak_gossip.specs.declared.gossip.GossipFault.{GossipFault}
use Rattle.ak_gossip.specs.declared.gossip.GossipFault.TheVariants as fault
use Rattle.ak_gossip.specs.declared.gossip.Received.{Received}
use Rattle.ak_gossip.specs.Gossip.{GossipState, is_known, receive}
use Rattle.ak_member.specs.declared.effect.Effect.{Effect}
use Rattle.ak_member.specs.declared.effect.Effect.TheVariants.{Joined, Rise}
use Rattle.ak_member.specs.declared.status.Status.TheVariants.{Leaving, Down}
use Rattle.ak_member.specs.Standing as standing
use Rattle.ak_member.specs.Standing.{is_down, is_up, is_member_with}
use Rattle.ak_membership.specs.declared.change.MemberFault.{MemberFault}
use Rattle.ak_membership.specs.declared.change.Reply.TheVariants.{Welcome}
use Rattle.ak_membership.specs.declared.state.MembershipState.{MembershipState}
use Rattle.ak_membership.specs.Membership.{Outcome, unchanged, replying, may_count, made, update, update_any, is_member, leave, down, has_member_beside, replaced, most_at_join, on_join, on_received, on_gossip, on_heard}
use Rattle.ak_membership.specs.Tick.{waited, updates, counted}
use Rattle.ak_node.specs.declared.node.NodeEvent.{NodeEvent}
use Rattle.ak_node.specs.declared.node.NodeEvent.TheVariants as event
use Rattle.ak_node.specs.declared.node.State.{State}
use Rattle.ak_node.specs.Node as node
use Rattle.ak_node.specs.Node.{known, me_of, and_then, rule, concludes, is_dead, running_step, step}
use Rattle.ak_node.proofs.StepChanges.{step_is}
use Rattle.ak_settings.specs.Settings.{is_listed}
use Rattle.ak_wire.specs.declared.action.Action.TheVariants as action
use Rattle.ak_wire.specs.declared.envelope.Message.{Message}
use Rattle.ak_wire.specs.declared.envelope.Message.TheVariants as message
use Rattle.ak_meaning.proofs.MembershipOf.{allowed, told_to, given_to, rule_does}

-- ---- a call of a membership
-- after it the view has not settled for just as many ticks
abbrev Weak : MembershipState → MembershipState → Type 0
Weak m l = l.weak ≡ m.weak

module _ (m : MembershipState) where
  itself : Weak m m
  itself = refl

  weak_if : (b : Bool) (o p : Outcome) → Weak m o.0 → Weak m p.0 → Weak m (if b then o else p).0
  weak_if true o p x y = x
  weak_if false o p x y = y

  update_weak : (l : MembershipState) (effects : List Effect) → l.weak ≡ m.weak → Weak m (update effects l).0
  update_weak l effects same = weak_if (may_count l) (made effects l) (unchanged l) same same

  any_weak : (effects : List Effect) → Weak m (update_any effects m).0
  any_weak [] = itself
  any_weak (x ∷ effects) = update_weak m (x ∷ effects) refl

  allowed_if : (b : Bool) (r s : Result Outcome MemberFault) → Weak m (allowed r m).0 → Weak m (allowed s m).0 → Weak m (allowed (if b then r else s) m).0
  allowed_if true r s x y = x
  allowed_if false r s x y = y

  leave_weak : (who : UniqueModel) → Weak m (allowed (leave who m) m).0
  leave_weak who =
      allowed_if (not (is_member m)) _ _ itself
      (allowed_if (not (standing.is_member m.gossip.view.standings who)) _ _ itself
      (allowed_if (not (is_member_with is_up m.gossip.view.standings who)) _ (Ok (update (Rise who Leaving 0 ∷ []) m)) itself (update_weak m (Rise who Leaving 0 ∷ []) refl)))

  down_weak : (who : UniqueModel) → Weak m (allowed (down who m) m).0
  down_weak who =
      allowed_if (not (is_member m)) _ _ itself
      (allowed_if (not (standing.is_member m.gossip.view.standings who)) _ _ itself
      (allowed_if (is_member_with is_down m.gossip.view.standings who) (Ok (unchanged m)) (Ok (update (Rise who Down 0 ∷ []) m)) itself (update_weak m (Rise who Down 0 ∷ []) refl)))

  join_weak : (from : UniqueModel) → Weak m (allowed (on_join from m) m).0
  join_weak from =
      allowed_if (not (is_member m)) _ _ itself
      (allowed_if (not (is_listed m.settings.listed from.address)) _ _ itself
      (allowed_if (standing.is_member m.gossip.view.standings from) (Ok (replying Welcome (unchanged m))) _ itself
      (allowed_if (is_known m.gossip.view.standings from) (Ok (unchanged m)) _ itself
      (allowed_if (has_member_beside from m.gossip.view.standings) (Ok (update_any (replaced from m.gossip.view.standings) m)) _ (any_weak (replaced from m.gossip.view.standings))
      (allowed_if (nat_le most_at_join (map.len m.gossip.view.standings)) _ _ itself
      (weak_if (may_count m) (replying Welcome (made (Joined from ∷ []) m)) (unchanged m) refl itself))))))

  received_weak : (g : GossipState) (r : Result (Received × GossipState) GossipFault) → Weak m (allowed (on_received g m r) m).0
  received_weak g (Err (fault.ForeignCount own theirs)) = itself
  received_weak g (Err (fault.TooManyUniques together)) = itself
  received_weak g (Err (fault.NoMemory _)) = itself
  received_weak g (Ok r) = refl

  gossip_weak : (g : GossipState) → Weak m (allowed (on_gossip g m) m).0
  gossip_weak g = allowed_if (is_known g.view.standings m.me) (on_received g m (receive m.me m.gossip g)) (Ok (unchanged m)) (received_weak g (receive m.me m.gossip g)) itself

-- for how many ticks the view of a member has not settled after an event
abbrev pub weak_after : NodeEvent → MembershipState → ℕ
weak_after event.Found m = m.weak
weak_after (event.Join target) m = m.weak
weak_after (event.Tick word) m = if is_member m then waited m else m.weak
weak_after (event.Packet p) m = m.weak
weak_after (event.Leave who) m = m.weak
weak_after (event.Down who) m = m.weak
weak_after (event.Offer entity payload) m = m.weak
weak_after event.Stop m = m.weak

module _ (m : MembershipState) where
  told_weak : (from : UniqueModel) (what : Message) → Weak m (told_to from what m).0
  told_weak from message.Join = join_weak m from
  told_weak from (message.Welcome g) = gossip_weak m g
  told_weak from (message.Gossip g) = gossip_weak m g
  told_weak from message.Heartbeat = itself m
  told_weak from message.HeartbeatReply = by_member (is_member m)
    where
      by_member : (b : Bool) → Weak m (if b then on_heard from m else m)
      by_member true = refl
      by_member false = itself m
  told_weak from message.ExitingConfirmed = by_member (is_member m) (standing.is_member m.gossip.view.standings from)
    where
      by_member : (b c : Bool) → Weak m (if b then (if c then record m { confirmed = with_one m.confirmed from } else m) else m)
      by_member true true = refl
      by_member true false = itself m
      by_member false c = itself m
  told_weak from (message.Ask b) = itself m
  told_weak from (message.Granted b floor reports) = itself m
  told_weak from (message.Busy b held) = itself m
  told_weak from (message.Old b last) = itself m
  told_weak from (message.HandOverToMe b) = itself m
  told_weak from (message.HandOverDone b floor) = itself m
  told_weak from (message.Release b floor) = itself m
  told_weak from (message.GetHome b shard) = itself m
  told_weak from (message.Home b shard owner) = itself m
  told_weak from (message.HostShard b shard number) = itself m
  told_weak from (message.ShardStarted b shard number) = itself m
  told_weak from (message.BeginHandOff b shard number) = itself m
  told_weak from (message.BeginHandOffAck b shard number) = itself m
  told_weak from (message.HandOff b shard number) = itself m
  told_weak from (message.ShardStopped b shard number) = itself m
  told_weak from (message.Forward entity payload) = itself m
  told_weak from (message.Leave who) = leave_weak m who
  told_weak from (message.Down who) = down_weak m who
  told_weak from (message.Offer entity payload) = itself m

  given_weak : (e : NodeEvent) → (given_to e m).0.weak ≡ weak_after e m
  given_weak event.Found =
      weak_if m (is_known m.gossip.view.standings m.me) (unchanged m) (update (Joined m.me ∷ []) (record m { founder = true })) (itself m)
      (update_weak m (record m { founder = true }) (Joined m.me ∷ []) refl)
  given_weak (event.Join target) = by_member (is_member m)
    where
      by_member : (b : Bool) → Weak m (if b then m else record m { target = Some target })
      by_member true = itself m
      by_member false = refl
  given_weak (event.Tick word) = by_member (is_member m)
    where
      by_member : (b : Bool) → (if b then (counted (waited m) (updates m).0, (updates m).1) else unchanged m).0.weak ≡ (if b then waited m else m.weak)
      by_member true = refl
      by_member false = refl
  given_weak (event.Packet p) = told_weak p.from p.message
  given_weak (event.Leave who) = leave_weak m who
  given_weak (event.Down who) = down_weak m who
  given_weak (event.Offer entity payload) = itself m
  given_weak event.Stop = itself m

-- ---- a step
running_weak : (e : NodeEvent) (n : State) → is_dead (me_of n) e ≡ false → (running_step e n).0.membership.weak ≡ weak_after e n.membership
running_weak e n alive =
    ap (λ b. (if b then (n, action.Dead ∷ []) else and_then concludes (rule e n)).0.membership.weak) alive
    ∙ ap (λ (x : MembershipState). x.weak) (rule_does n e).state ∙ given_weak n.membership e

-- a packet for another changes nothing
dead_weak : (e : NodeEvent) (n : State) → is_dead (me_of n) e ≡ true → (running_step e n).0.membership.weak ≡ n.membership.weak
dead_weak e n dead = ap (λ b. (if b then (n, action.Dead ∷ []) else and_then concludes (rule e n)).0.membership.weak) dead

dead_after : (e : NodeEvent) (n : State) → is_dead (me_of n) e ≡ true → weak_after e n.membership ≡ n.membership.weak
dead_after event.Found n dead = refl
dead_after (event.Join target) n dead = refl
dead_after (event.Tick word) n dead = absurd (true≢false (sym dead))
dead_after (event.Packet p) n dead = refl
dead_after (event.Leave who) n dead = refl
dead_after (event.Down who) n dead = refl
dead_after (event.Offer entity payload) n dead = refl
dead_after event.Stop n dead = refl

pub step_weak : (e : NodeEvent) (n : State) → IsTrue n.runs → (step e n).0.membership.weak ≡ weak_after e n.membership
step_weak e n runs = ap (λ (o : node.Outcome). o.0.membership.weak) (step_is e n runs) ∙ by_dead (is_dead (me_of n) e) refl
  where
    later : State
    later = record n { steps = n.steps + 1 }

    by_dead : (b : Bool) → is_dead (me_of n) e ≡ b → (running_step e later).0.membership.weak ≡ weak_after e n.membership
    by_dead true is = dead_weak e later is ∙ sym (dead_after e n is)
    by_dead false is = running_weak e later is
