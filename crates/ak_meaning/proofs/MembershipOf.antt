-- What a rule of a node makes of its membership, and what it tells as updates: one call of the membership, or none.
use Rattle.std.proofs.Common.{◌≡◌, ℕ, ◌+◌, Bool, true, false, not, ◌&&◌, if◌then◌else◌, List, [], ◌∷◌, ◌++◌, map, Option, Some, None, Result, Ok, Err, Contains, IsTrue, refl, ap, ◌∙◌, subst}
use Rattle.ak_address.specs.Changed.{keys_of}
use Rattle.ak_address.specs.Unique.{AddressModel, UniqueModel}
use Rattle.ak_address.specs.Uniques.{in_order}
use Rattle.ak_address.proofs.Elements.{contains_nothing}
use Rattle.ak_member.specs.declared.effect.Effect.{Effect}
use Rattle.ak_member.specs.declared.status.Status.{Status}
use Rattle.ak_member.specs.Standing.{is_exiting, is_member_with}
use Rattle.ak_membership.specs.declared.change.MemberFault.{MemberFault}
use Rattle.ak_membership.specs.declared.change.Reply.{Reply}
use Rattle.ak_membership.specs.declared.change.Reply.TheVariants as reply
use Rattle.ak_membership.specs.declared.state.MembershipState.{MembershipState}
use Rattle.ak_membership.specs.Closing.{is_viewed, stops, notes}
use Rattle.ak_membership.specs.Knowledge.{told}
use Rattle.ak_membership.specs.Membership as membership
use Rattle.ak_membership.specs.Membership.{Outcome, unchanged}
use Rattle.ak_membership.specs.Tick as ticks
use Rattle.ak_node.specs.declared.node.NodeEvent.{NodeEvent}
use Rattle.ak_node.specs.declared.node.NodeEvent.TheVariants as event
use Rattle.ak_node.specs.declared.node.State.{State}
use Rattle.ak_node.specs.Node as node
use Rattle.ak_node.specs.Node.{is_entity_at, known, me_of, is_member, is_gone, nothing, and_then, does, does_for, unless_refused, update_by, leave, down, asks_at, asks_as, status_of, ends_phase, exits, gossips_to, shards_do, rest, may_leave, leaves, goes_on, ends, beats, ticked, on_message, is_asked, answers_ask, takes_grant, has_handed_over, answered, needed_others, answer, rule, if_so, closes, told_active, becomes_active, activates, forgets, concludes, settled_of, margin_of, is_dead, running_step, step}
use Rattle.ak_node.proofs.ChangeLemmas.{each_made, no_more}
use Rattle.ak_node.proofs.StepChanges.{goes_quiet, of_tells, own_tells, step_is}
use Rattle.ak_promise.specs.declared.promise.Answer.{Answer}
use Rattle.ak_promise.specs.declared.promise.Answer.TheVariants as given
use Rattle.ak_promise.specs.Ballot.{BallotModel}
use Rattle.ak_promise.specs.Promise.{answer_to, is_some_ballot}
use Rattle.ak_sharding.specs.Coordinates as coordinates
use Rattle.ak_sharding.specs.Hosts as hosts
use Rattle.ak_sharding.proofs.RuleWork.{work_updates, offer_work, message_work}
use Rattle.ak_singleton.specs.Singleton.{may_activate}
use Rattle.ak_wire.specs.declared.action.Action.TheVariants as action
use Rattle.ak_wire.specs.declared.envelope.Message.{Message}
use Rattle.ak_wire.specs.declared.envelope.Message.TheVariants as message
use Rattle.ak_wire.specs.Wire.{updates_of}
use Rattle.ak_wire.proofs.Sending.{updates-append}

-- ---- the call
-- what a call that may refuse made
abbrev pub allowed : Result Outcome MemberFault → MembershipState → Outcome
allowed (Ok o) m = o
allowed (Err fault) m = unchanged m

-- what a message makes of a membership
abbrev pub told_to : UniqueModel → Message → MembershipState → Outcome
told_to from message.Join m = allowed (membership.on_join from m) m
told_to from (message.Welcome g) m = allowed (membership.on_gossip g m) m
told_to from (message.Gossip g) m = allowed (membership.on_gossip g m) m
told_to from message.Heartbeat m = unchanged m
told_to from message.HeartbeatReply m = unchanged (if membership.is_member m then membership.on_heard from m else m)
told_to from message.ExitingConfirmed m = unchanged (if membership.is_member m then membership.on_confirmed from m else m)
told_to from (message.Ask b) m = unchanged m
told_to from (message.Granted b floor reports) m = unchanged m
told_to from (message.Busy b held) m = unchanged m
told_to from (message.Old b last) m = unchanged m
told_to from (message.HandOverToMe b) m = unchanged m
told_to from (message.HandOverDone b floor) m = unchanged m
told_to from (message.Release b floor) m = unchanged m
told_to from (message.GetHome b shard) m = unchanged m
told_to from (message.Home b shard owner) m = unchanged m
told_to from (message.HostShard b shard number) m = unchanged m
told_to from (message.ShardStarted b shard number) m = unchanged m
told_to from (message.BeginHandOff b shard number) m = unchanged m
told_to from (message.BeginHandOffAck b shard number) m = unchanged m
told_to from (message.HandOff b shard number) m = unchanged m
told_to from (message.ShardStopped b shard number) m = unchanged m
told_to from (message.Forward entity payload) m = unchanged m
told_to from (message.Leave who) m = allowed (membership.leave who m) m
told_to from (message.Down who) m = allowed (membership.down who m) m
told_to from (message.Offer entity payload) m = unchanged m

-- what an event makes of one
abbrev pub given_to : NodeEvent → MembershipState → Outcome
given_to event.Found m = membership.found m
given_to (event.Join target) m = unchanged (membership.join target m)
given_to (event.Tick word) m = ticks.tick m
given_to (event.Packet p) m = told_to p.from p.message m
given_to (event.Leave who) m = allowed (membership.leave who m) m
given_to (event.Down who) m = allowed (membership.down who m) m
given_to (event.Offer entity payload) m = unchanged m
given_to event.Stop m = unchanged m

-- ---- the rules
-- what a rule made of a node is this of its membership
pub record Does (o : node.Outcome) (m : Outcome) : Type 0 where
  pub state : o.0.membership ≡ m.0
  pub updates : updates_of o.1 ≡ told m.1

does_if : (b : Bool) {o p : node.Outcome} (m : Outcome) → Does o m → Does p m → Does (if b then o else p) m
does_if true m x y = x
does_if false m x y = y

update_told : (number : Option ℕ) (effects : List Effect) → updates_of (update_by number effects) ≡ told (record { number = number; effects = effects; reply = reply.Nothing })
update_told None effects = refl
update_told (Some number) effects = refl

answer_none : (r : Reply) (to : UniqueModel) (n : State) → updates_of (answer r to n) ≡ []
answer_none reply.Nothing to n = refl
answer_none reply.Welcome to n = refl
answer_none reply.Gossip to n = refl

module _ (n : State) where
  done : (o : Outcome) → Does (does n o) o
  done o = record { state = refl; updates = update_told o.1.number o.1.effects }

  done_for : (from : UniqueModel) (o : Outcome) → Does (does_for from n o) o
  done_for from o = record {
    state = refl;
    updates =
        updates-append (update_by o.1.number o.1.effects) (answer o.1.reply from (does n o).0)
        ∙ (λ i. update_told o.1.number o.1.effects i ++ answer_none o.1.reply from (does n o).0 i)
        ∙ no_more (told o.1);
  }

  unless : (next : Outcome → node.Outcome) (r : Result Outcome MemberFault) → ((o : Outcome) → Does (next o) o) → Does (unless_refused next n r) (allowed r n.membership)
  unless next (Ok o) does_it = does_it o
  unless next (Err fault) does_it = record { state = refl; updates = refl }

  idle : Does (nothing n) (unchanged n.membership)
  idle = record { state = refl; updates = refl }

  -- ---- a tick
  abbrev SameMembership : State → State → Type 0
  SameMembership a b = b.membership ≡ a.membership

  same_if : (b : Bool) (a : State) (o p : node.Outcome) → SameMembership a o.0 → SameMembership a p.0 → SameMembership a (if b then o else p).0
  same_if true a o p x y = x
  same_if false a o p x y = y

  gossips_same : (to : Option UniqueModel) (m : State) → SameMembership m (gossips_to to m).0
  gossips_same None m = refl
  gossips_same (Some to) m = refl

  asks_same : (status : Option Status) (m : State) → SameMembership m (asks_as status m).0
  asks_same None m = refl
  asks_same (Some status) m = refl

  rest_same : (word : ℕ) (m : State) → SameMembership m (rest word m).0
  rest_same word m =
      let x = (and_then (shards_do hosts.asks_homes) (and_then (shards_do coordinates.coordinates) (asks_as (status_of m) m))).0 in
      gossips_same (ticks.gossip_peer word x.membership) x ∙ asks_same (status_of m) m

  goes_same : (word : ℕ) (m : State) → SameMembership m (goes_on word m).0
  goes_same word m =
      same_if (is_gone m) m (nothing m) _ refl
      (same_if (is_member_with is_exiting (known m).view.standings (me_of m)) m (and_then (leaves word) (ends_phase m)) (rest word m)
      (let x = (ends_phase m).0 in same_if (may_leave x) m (exits x) (rest word x) refl (rest_same word x))
      (rest_same word m))

  ended_none : (whos : List UniqueModel) → updates_of (map action.MarginEnd whos) ≡ []
  ended_none [] = refl
  ended_none (who ∷ whos) = ended_none whos

  first_none : (m : State) → updates_of (ends m ++ beats m) ≡ []
  first_none m = updates-append (ends m) (beats m) ∙ (λ i. ended_none m.membership.settled.just_ended i ++ each_made m (in_order (keys_of m.membership.detector)) message.Heartbeat i)

  ticked_told : (o : Outcome) → updates_of (ticked n o).1 ≡ told o.1
  ticked_told o =
      updates-append (ends (ticked n o).0 ++ beats (ticked n o).0) (update_by o.1.number o.1.effects)
      ∙ (λ i. first_none (ticked n o).0 i ++ update_told o.1.number o.1.effects i)

  tick_member : (word : ℕ) (o : Outcome) → Does (and_then (goes_on word) (ticked n o)) o
  tick_member word o = record {
    state = goes_same word (ticked n o).0;
    updates =
        updates-append (ticked n o).1 (goes_on word (ticked n o).0).1
        ∙ (λ i. ticked_told o i ++ (goes_quiet word (ticked n o).0).made i)
        ∙ no_more (told o.1);
  }

  asks_idle : (target : Option AddressModel) → Does (asks_at target n) (unchanged n.membership)
  asks_idle None = idle
  asks_idle (Some target) = record { state = refl; updates = refl }

  ticking : (word : ℕ) → Does (node.tick word n) (ticks.tick n.membership)
  ticking word = by_member (is_member n) refl
    where
      by_member : (b : Bool) → is_member n ≡ b → Does (if b then and_then (goes_on word) (ticked n (ticks.tick n.membership)) else asks_at n.membership.target n) (if b then (ticks.counted (ticks.waited n.membership) (ticks.updates n.membership).0, (ticks.updates n.membership).1) else unchanged n.membership)
      by_member true is = record {
        state = (tick_member word (ticks.tick n.membership)).state ∙ ap (λ b. (if b then (ticks.counted (ticks.waited n.membership) (ticks.updates n.membership).0, (ticks.updates n.membership).1) else unchanged n.membership).0) is;
        updates = (tick_member word (ticks.tick n.membership)).updates ∙ ap (λ b. told (if b then (ticks.counted (ticks.waited n.membership) (ticks.updates n.membership).0, (ticks.updates n.membership).1) else unchanged n.membership).1) is;
      }
      by_member false is = asks_idle n.membership.target

  -- ---- packets that make no update
  told_none : (o : node.Outcome) → o.0.membership ≡ n.membership → updates_of o.1 ≡ [] → Does o (unchanged n.membership)
  told_none o same none = record { state = same; updates = none }

  answered_none : (a : Answer) (to : UniqueModel) (b : BallotModel) (m : State) → updates_of (answered a to b m) ≡ []
  answered_none given.Granted to b m = refl
  answered_none given.Old to b m = (of_tells m.singleton.promise.last (λ last. message.Old b last) (λ last. refl) (λ last. refl) to m).made
  answered_none given.Busy to b m = (of_tells m.singleton.promise.last (λ last. message.Busy b last) (λ last. refl) (λ last. refl) to m).made

  shards_told : (from : UniqueModel) (what : Message) → Does (node.on_shards from what n) (unchanged n.membership)
  shards_told from what = does_if (is_member n) (unchanged n.membership) (told_none _ refl (work_updates (me_of n) _ (message_work (node.around n) from what n.sharding))) idle

  being_told : (from : UniqueModel) (what : Message) → Does (on_message from what n) (told_to from what n.membership)
  being_told from message.Join = unless (does_for from n) (membership.on_join from n.membership) (done_for from)
  being_told from (message.Welcome g) = unless (does_for from n) (membership.on_gossip g n.membership) (done_for from)
  being_told from (message.Gossip g) = unless (does_for from n) (membership.on_gossip g n.membership) (done_for from)
  being_told from message.Heartbeat = does_if (is_member n) (unchanged n.membership) (told_none _ refl refl) idle
  being_told from message.HeartbeatReply = by_member (is_member n)
    where
      by_member : (b : Bool) → Does (if b then nothing (record n { membership = membership.on_heard from n.membership }) else nothing n) (unchanged (if b then membership.on_heard from n.membership else n.membership))
      by_member true = record { state = refl; updates = refl }
      by_member false = idle
  being_told from message.ExitingConfirmed = by_member (is_member n)
    where
      by_member : (b : Bool) → Does (if b then nothing (record n { membership = membership.on_confirmed from n.membership }) else nothing n) (unchanged (if b then membership.on_confirmed from n.membership else n.membership))
      by_member true = record { state = refl; updates = refl }
      by_member false = idle
  being_told from (message.Ask b) = does_if (is_asked from b n) (unchanged n.membership) (told_none (answers_ask from b n) refl (answered_none (answer_to n.singleton.promise b (node.is_over_here n)) from b n)) idle
  being_told from (message.Granted b floor reports) = does_if (takes_grant from reports n) (unchanged n.membership) (told_none _ refl refl) idle
  being_told from (message.Busy b held) = does_if (is_member n && is_some_ballot n.singleton.live b) (unchanged n.membership) (told_none _ refl (own_tells (Some held) n).made) idle
  being_told from (message.Old b last) = does_if (is_member n) (unchanged n.membership) (told_none _ refl refl) idle
  being_told from (message.HandOverToMe b) = does_if (is_member n && has_handed_over b n) (unchanged n.membership) (told_none _ refl refl) idle
  being_told from (message.HandOverDone b floor) = does_if (is_member n) (unchanged n.membership) (told_none _ refl (each_made n (in_order (needed_others n)) (message.Release b floor))) idle
  being_told from (message.Release b floor) = does_if (is_member n) (unchanged n.membership) (told_none _ refl refl) idle
  being_told from (message.GetHome b shard) = shards_told from (message.GetHome b shard)
  being_told from (message.Home b shard owner) = shards_told from (message.Home b shard owner)
  being_told from (message.HostShard b shard number) = shards_told from (message.HostShard b shard number)
  being_told from (message.ShardStarted b shard number) = shards_told from (message.ShardStarted b shard number)
  being_told from (message.BeginHandOff b shard number) = shards_told from (message.BeginHandOff b shard number)
  being_told from (message.BeginHandOffAck b shard number) = shards_told from (message.BeginHandOffAck b shard number)
  being_told from (message.HandOff b shard number) = shards_told from (message.HandOff b shard number)
  being_told from (message.ShardStopped b shard number) = shards_told from (message.ShardStopped b shard number)
  being_told from (message.Forward entity payload) = does_if (is_entity_at entity n) (unchanged n.membership) (shards_told from (message.Forward entity payload)) idle
  being_told from (message.Leave who) = unless (does n) (membership.leave who n.membership) done
  being_told from (message.Down who) = unless (does n) (membership.down who n.membership) done
  being_told from (message.Offer entity payload) = does_if (is_entity_at entity n) (unchanged n.membership) (told_none _ refl (work_updates (me_of n) _ (offer_work (node.around n) entity payload n.sharding))) idle

  joining : (target : AddressModel) → Does (node.join target n) (unchanged (membership.join target n.membership))
  joining target = by_member (is_member n)
    where
      by_member : (b : Bool) → Does (if b then nothing n else (record n { membership = if b then n.membership else record n.membership { target = Some target } }, node.to_address n target message.Join ∷ [])) (unchanged (if b then n.membership else record n.membership { target = Some target }))
      by_member true = idle
      by_member false = record { state = refl; updates = refl }

  pub rule_does : (e : NodeEvent) → Does (rule e n) (given_to e n.membership)
  rule_does event.Found = done (membership.found n.membership)
  rule_does (event.Join target) = joining target
  rule_does (event.Tick word) = ticking word
  rule_does (event.Packet p) = being_told p.from p.message
  rule_does (event.Leave who) = unless (does n) (membership.leave who n.membership) done
  rule_does (event.Down who) = unless (does n) (membership.down who n.membership) done
  rule_does (event.Offer entity payload) = told_none _ refl (work_updates (me_of n) _ (offer_work (node.around n) entity payload n.sharding))
  rule_does event.Stop = told_none _ refl refl

-- ---- a step
-- the closing and what follows it make no update
due_none : (a b c : Bool) → updates_of (if_so a action.View ++ if_so b action.Stopped ++ if_so c action.Settled) ≡ []
due_none true true true = refl
due_none true true false = refl
due_none true false true = refl
due_none true false false = refl
due_none false true true = refl
due_none false true false = refl
due_none false false true = refl
due_none false false false = refl

active_none : (o : Option BallotModel) → updates_of (told_active o) ≡ []
active_none None = refl
active_none (Some b) = refl

becomes_none : (b : Bool) (n : State) → updates_of (becomes_active b n).1 ≡ []
becomes_none true n = active_none n.singleton.live
becomes_none false n = refl

concludes_none : (n : State) → updates_of (concludes n).1 ≡ []
concludes_none n =
    let x : State = forgets (closes n).0 in
    updates-append (closes n).1 (activates x).1
    ∙ (λ i. due_none (is_viewed n.membership) (stops (not n.runs) n.membership) (notes (not n.runs) n.membership) i ++ becomes_none (x.runs && may_activate (me_of x) (settled_of x) (margin_of x) x.singleton) x i)

running_told : (e : NodeEvent) (n : State) (effects : List Effect) → Contains (updates_of (running_step e n).1) effects → Contains (told (given_to e n.membership).1) effects
running_told e n effects there = by_dead (is_dead (me_of n) e) there
  where
    by_dead : (b : Bool) → Contains (updates_of (if b then (n, action.Dead ∷ []) else and_then concludes (rule e n)).1) effects → Contains (told (given_to e n.membership).1) effects
    by_dead true there = absurd (contains_nothing effects there)
    by_dead false there =
        subst (λ l. Contains l effects)
        (updates-append (rule e n).1 (concludes (rule e n).0).1 ∙ (λ i. (rule_does n e).updates i ++ concludes_none (rule e n).0 i) ∙ no_more (told (given_to e n.membership).1)) there

-- what a step tells as updates, the call of its membership tells
pub step_told : (e : NodeEvent) (n : State) → IsTrue n.runs → (effects : List Effect) → Contains (updates_of (step e n).1) effects → Contains (told (given_to e n.membership).1) effects
step_told e n runs effects there = running_told e (record n { steps = n.steps + 1 }) effects (subst (λ (o : node.Outcome). Contains (updates_of o.1) effects) (step_is e n runs) there)
