-- What a node does with a packet tells that the packet is dead exactly where it is; so what is printed of it can go by the actions.
use Rattle.std.proofs.Common.{◌≡◌, ℕ, ◌+◌, Bool, true, false, ◌&&◌, not, if◌then◌else◌, List, [], ◌∷◌, ◌++◌, Option, Some, None, Result, Ok, Err, append-nil, refl, sym, ap, ◌∙◌}
use Rattle.ak_address.specs.Unique.{UniqueModel}
use Rattle.ak_address.specs.Uniques.{in_order}
use Rattle.ak_member.specs.declared.effect.Effect.{Effect}
use Rattle.ak_membership.specs.declared.change.MemberFault.{MemberFault}
use Rattle.ak_membership.specs.declared.change.Reply.{Reply}
use Rattle.ak_membership.specs.declared.change.Reply.TheVariants as reply
use Rattle.ak_membership.specs.Membership as membership
use Rattle.ak_membership.specs.Closing.{is_viewed, stops, notes}
use Rattle.ak_promise.specs.declared.promise.Answer.{Answer}
use Rattle.ak_promise.specs.declared.promise.Answer.TheVariants as given
use Rattle.ak_promise.specs.Ballot.{BallotModel}
use Rattle.ak_promise.specs.Promise.{answer_to, is_some_ballot, released_by}
use Rattle.ak_sharding.specs.Packets as packets
use Rattle.ak_sharding.specs.Work.{IsWork, AreWork}
use Rattle.ak_sharding.proofs.RuleWork.{offer_work, message_work}
use Rattle.ak_singleton.specs.Singleton.{may_activate}
use Rattle.ak_wire.specs.declared.action.Action.{Action}
use Rattle.ak_wire.specs.declared.action.Action.TheVariants as action
use Rattle.ak_wire.specs.declared.envelope.Envelope.{Envelope}
use Rattle.ak_wire.specs.declared.envelope.Message.{Message}
use Rattle.ak_wire.specs.declared.envelope.Message.TheVariants as message
use Rattle.ak_node.specs.declared.node.State.{State}
use Rattle.ak_node.specs.declared.node.NodeEvent.TheVariants as event
use Rattle.ak_node.specs.Node.{Outcome, me_of, settled_of, margin_of, is_member, nothing, and_then, to_each, update_by, answer, does, does_for, unless_refused, around, shards_do, on_shards, promising, told_of, told_its_own, needed_others, answered, is_over_here, is_asked, answers_ask, takes_grant, has_handed_over, on_message, if_so, closes, forgets, told_active, becomes_active, activates, concludes, rule, is_for, running_step, step, is_entity_at}
use Rattle.ak_node.specs.NodeContracts.{Does}
use Rattle.ak_node.proofs.NodeLemmas.{stopped_is}
use Rattle.ak_node.proofs.StepChanges.{step_is, step_changes}
use Rattle.ak_turns.specs.declared.happening.Happening.TheVariants.{Packet}
use Rattle.ak_turns.specs.Steps.{says_dead, tell_dead, is_dead, packet_text, arrival_text}

-- ---- actions that do not tell so
abbrev Alive : List Action → Type 0
Alive actions = tell_dead actions ≡ false

alive_both : (xs ys : List Action) → Alive xs → Alive ys → Alive (xs ++ ys)
alive_both [] ys one two = two
alive_both (a ∷ xs) ys one two = one

alive_if : (b : Bool) (o p : Outcome) → Alive o.1 → Alive p.1 → Alive (if b then o else p).1
alive_if true o p one two = one
alive_if false o p one two = two

alive_each : (n : State) (to : List UniqueModel) (what : Message) → Alive (to_each n to what)
alive_each n [] what = refl
alive_each n (u ∷ to) what = refl

alive_update : (number : Option ℕ) (effects : List Effect) → Alive (update_by number effects)
alive_update None effects = refl
alive_update (Some number) effects = refl

alive_answer : (r : Reply) (to : UniqueModel) (n : State) → Alive (answer r to n)
alive_answer reply.Nothing to n = refl
alive_answer reply.Welcome to n = refl
alive_answer reply.Gossip to n = refl

alive_of : (o : Option BallotModel) (what : BallotModel → Message) (to : UniqueModel) (n : State) → Alive (told_of o what to n)
alive_of None what to n = refl
alive_of (Some b) what to n = refl

alive_answered : (a : Answer) (to : UniqueModel) (b : BallotModel) (n : State) → Alive (answered a to b n)
alive_answered given.Granted to b n = refl
alive_answered given.Old to b n = alive_of n.singleton.promise.last _ to n
alive_answered given.Busy to b n = alive_of n.singleton.promise.last _ to n

alive_work : (me : UniqueModel) (actions : List Action) → AreWork me actions → Alive actions
alive_work me [] w = refl
alive_work me (a ∷ actions) w = by_kind a w.0
  where
    by_kind : (x : Action) → IsWork me x → says_dead x ≡ false
    by_kind action.Dead is = absurd is
    by_kind other is = refl

alive_unless : (next : membership.Outcome → Outcome) (n : State) (r : Result membership.Outcome MemberFault) → ((o : membership.Outcome) → Alive (next o).1) → Alive (unless_refused next n r).1
alive_unless next n (Ok o) alive = alive o
alive_unless next n (Err fault) alive = refl

alive_does : (n : State) (o : membership.Outcome) → Alive (does n o).1
alive_does n o = alive_update o.1.number o.1.effects

alive_for : (from : UniqueModel) (n : State) (o : membership.Outcome) → Alive (does_for from n o).1
alive_for from n o = alive_both (does n o).1 (answer o.1.reply from (does n o).0) (alive_does n o) (alive_answer o.1.reply from (does n o).0)

-- ---- the rule of a packet
alive_shards : (from : UniqueModel) (m : Message) (n : State) → Alive (on_shards from m n).1
alive_shards from m n = alive_if (is_member n) (shards_do (λ a s. packets.on_shard_message a from m s) n) (nothing n) (alive_work (me_of n) _ (message_work (around n) from m n.sharding)) refl

alive_message : (from : UniqueModel) (m : Message) (n : State) → Alive (on_message from m n).1
alive_message from message.Join n = alive_unless (does_for from n) n (membership.on_join from n.membership) (alive_for from n)
alive_message from (message.Welcome g) n = alive_unless (does_for from n) n (membership.on_gossip g n.membership) (alive_for from n)
alive_message from (message.Gossip g) n = alive_unless (does_for from n) n (membership.on_gossip g n.membership) (alive_for from n)
alive_message from message.Heartbeat n = alive_if (is_member n) _ (nothing n) refl refl
alive_message from message.HeartbeatReply n = alive_if (is_member n) _ (nothing n) refl refl
alive_message from message.ExitingConfirmed n = alive_if (is_member n) _ (nothing n) refl refl
alive_message from (message.Ask b) n = alive_if (is_asked from b n) (answers_ask from b n) (nothing n) (alive_answered (answer_to n.singleton.promise b (is_over_here n)) from b n) refl
alive_message from (message.Granted b floor reports) n = alive_if (takes_grant from reports n) _ (nothing n) refl refl
alive_message from (message.Busy b held) n = alive_if (is_member n && is_some_ballot n.singleton.live b) (n, told_its_own (Some held) n) (nothing n) refl refl
alive_message from (message.Old b last) n = alive_if (is_member n) _ (nothing n) refl refl
alive_message from (message.HandOverToMe b) n = alive_if (is_member n && has_handed_over b n) _ (nothing n) refl refl
alive_message from (message.HandOverDone b floor) n =
    alive_if (is_member n) (promising (released_by n.singleton.promise b floor) n, to_each n (in_order (needed_others n)) (message.Release b floor)) (nothing n)
    (alive_each n (in_order (needed_others n)) (message.Release b floor)) refl
alive_message from (message.Release b floor) n = alive_if (is_member n) _ (nothing n) refl refl
alive_message from (message.Leave who) n = alive_unless (does n) n (membership.leave who n.membership) (alive_does n)
alive_message from (message.Down who) n = alive_unless (does n) n (membership.down who n.membership) (alive_does n)
alive_message from (message.GetHome b shard) n = alive_shards from (message.GetHome b shard) n
alive_message from (message.Home b shard owner) n = alive_shards from (message.Home b shard owner) n
alive_message from (message.HostShard b shard number) n = alive_shards from (message.HostShard b shard number) n
alive_message from (message.ShardStarted b shard number) n = alive_shards from (message.ShardStarted b shard number) n
alive_message from (message.BeginHandOff b shard number) n = alive_shards from (message.BeginHandOff b shard number) n
alive_message from (message.BeginHandOffAck b shard number) n = alive_shards from (message.BeginHandOffAck b shard number) n
alive_message from (message.HandOff b shard number) n = alive_shards from (message.HandOff b shard number) n
alive_message from (message.ShardStopped b shard number) n = alive_shards from (message.ShardStopped b shard number) n
alive_message from (message.Forward entity payload) n = alive_if (is_entity_at entity n) (on_shards from (message.Forward entity payload) n) (nothing n) (alive_shards from (message.Forward entity payload) n) refl
alive_message from (message.Offer entity payload) n = alive_if (is_entity_at entity n) _ (nothing n) (alive_work (me_of n) _ (offer_work (around n) entity payload n.sharding)) refl

-- ---- the closing
alive_due : (a b c : Bool) → Alive (if_so a action.View ++ if_so b action.Stopped ++ if_so c action.Settled)
alive_due true b c = refl
alive_due false true c = refl
alive_due false false true = refl
alive_due false false false = refl

alive_active : (o : Option BallotModel) → Alive (told_active o)
alive_active None = refl
alive_active (Some b) = refl

alive_becomes : (b : Bool) (n : State) → Alive (becomes_active b n).1
alive_becomes true n = alive_active n.singleton.live
alive_becomes false n = refl

alive_concludes : (n : State) → Alive (concludes n).1
alive_concludes n =
    let c = forgets (closes n).0 in
    alive_both (closes n).1 (activates c).1 (alive_due (is_viewed n.membership) (stops (not n.runs) n.membership) (notes (not n.runs) n.membership))
    (alive_becomes (c.runs && may_activate (me_of c) (settled_of c) (margin_of c) c.singleton) c)

-- ---- the step
running_dead : (e : Envelope) (n : State) → tell_dead (running_step (event.Packet e) n).1 ≡ not (is_for (me_of n) e)
running_dead e n = by_dead (not (is_for (me_of n) e))
  where
    by_dead : (b : Bool) → tell_dead (if b then (n, action.Dead ∷ []) else and_then concludes (rule (event.Packet e) n)).1 ≡ b
    by_dead true = refl
    by_dead false = alive_both (rule (event.Packet e) n).1 (concludes (rule (event.Packet e) n).0).1 (alive_message e.from e.message n) (alive_concludes (rule (event.Packet e) n).0)

step_dead : (e : Envelope) (n : State) → tell_dead (step (event.Packet e) n).1 ≡ is_dead n e
step_dead e n = by_runs n.runs refl
  where
    by_runs : (b : Bool) → n.runs ≡ b → tell_dead (step (event.Packet e) n).1 ≡ is_dead n e
    by_runs true runs =
        ap (λ (o : Outcome). tell_dead o.1) (step_is (event.Packet e) n runs) ∙ running_dead e (record n { steps = n.steps + 1 })
        ∙ sym (ap (λ b. b && not (is_for (me_of n) e)) runs)
    by_runs false stopped =
        ap (λ (o : Outcome). tell_dead o.1) (stopped_is (event.Packet e) n stopped) ∙ sym (ap (λ b. b && not (is_for (me_of n) e)) stopped)

step_me : (e : Envelope) (n : State) → me_of (step (event.Packet e) n).0 ≡ me_of n
step_me e n = by_runs n.runs refl
  where
    by_runs : (b : Bool) → n.runs ≡ b → me_of (step (event.Packet e) n).0 ≡ me_of n
    by_runs true runs = (step_changes (event.Packet e) n runs).same_me
    by_runs false stopped = ap (λ (o : Outcome). me_of o.0) (stopped_is (event.Packet e) n stopped)

-- what is printed of a packet, by what the node did
did_dead : (n m : State) (e : Envelope) (actions : List Action) (b : Bool) → Does (step (event.Packet e) n) m actions → tell_dead actions ≡ b → is_dead n e ≡ b
did_dead n m e actions b does is = sym (step_dead e n) ∙ sym (ap tell_dead does.actions_done) ∙ is

pub prints_dead : (n m : State) (e : Envelope) (actions : List Action) (old : List ℕ) → Does (step (event.Packet e) n) m actions → tell_dead actions ≡ true
    → old ≡ old ++ arrival_text n (Packet e)
prints_dead n m e actions old does is =
    sym (append-nil old) ∙ sym (ap (λ b. old ++ (if b then [] else packet_text (me_of n) e)) (did_dead n m e actions true does is))

pub prints_alive : (n m : State) (e : Envelope) (actions : List Action) (u : UniqueModel) (old new : List ℕ) → Does (step (event.Packet e) n) m actions → tell_dead actions ≡ false
    → u ≡ me_of m → new ≡ old ++ packet_text u e → new ≡ old ++ arrival_text n (Packet e)
prints_alive n m e actions u old new does is me printed =
    printed ∙ ap (λ (x : UniqueModel). old ++ packet_text x e) (me ∙ ap me_of does.state_after ∙ step_me e n)
    ∙ sym (ap (λ b. old ++ (if b then [] else packet_text (me_of n) e)) (did_dead n m e actions false does is))
