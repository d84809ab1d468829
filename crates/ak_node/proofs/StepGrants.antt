-- Each grant that a step sends reports each shard once at most: a node reports its own region, and sends no other grant.
use Rattle.std.proofs.Common.{map, ℕ, ◌≡◌, ◌+◌, Bool, true, false, not, ◌&&◌, inl, inr, if◌then◌else◌, List, [], ◌∷◌, ◌++◌, Option, Some, None, Result, Ok, Err, IsTrue, Contains, refl, sym, ap, ◌∙◌, subst, true≢false}
use Rattle.ak_address.specs.Unique.{AddressModel, UniqueModel}
use Rattle.ak_address.specs.Changed.{keys_of}
use Rattle.ak_address.specs.Uniques.{UniqueSet, in_order}
use Rattle.ak_address.proofs.Elements.{contains_nothing, contains_first, contains_rest, first_or_rest, contains_either}
use Rattle.ak_member.specs.declared.effect.Effect.{Effect}
use Rattle.ak_member.specs.declared.status.Status.{Status}
use Rattle.ak_member.specs.Standing.{is_exiting, is_member_with}
use Rattle.ak_membership.specs.declared.change.MemberFault.{MemberFault}
use Rattle.ak_membership.specs.declared.change.Reply.{Reply}
use Rattle.ak_membership.specs.declared.change.Reply.TheVariants as reply
use Rattle.ak_membership.specs.Membership as membership
use Rattle.ak_membership.specs.Closing as closing
use Rattle.ak_membership.specs.declared.change.Closing.{Closing}
use Rattle.ak_membership.specs.Tick as ticks
use Rattle.ak_promise.specs.declared.promise.Answer.{Answer}
use Rattle.ak_promise.specs.declared.promise.Answer.TheVariants as given
use Rattle.ak_sharding.specs.Hosts as hosts
use Rattle.ak_sharding.specs.Coordinates as coordinates
use Rattle.ak_sharding.specs.Packets as packets
use Rattle.ak_sharding.specs.Work.{is_grant, AreWork}
use Rattle.ak_sharding.proofs.RuleWork.{work_grants, offer_work, asks_homes_work, coordinates_work, message_work}
use Rattle.ak_sharding.proofs.SingletonMoves.{reports_once}
use Rattle.ak_line.specs.Told.{EachOnce}
use Rattle.ak_clock.specs.Version.{Counts}
use Rattle.ak_shard_id.specs.declared.report.Report.{Report}
use Rattle.ak_wire.specs.declared.envelope.Envelope.{Envelope}
use Rattle.ak_wire.specs.Wire.{sent}
use Rattle.ak_node.specs.Node as node
use Rattle.ak_promise.specs.Ballot.{BallotModel}
use Rattle.ak_promise.specs.Promise.{is_some_ballot}
use Rattle.ak_singleton.specs.declared.phase.Phase.{Phase}
use Rattle.ak_singleton.specs.declared.phase.Phase.TheVariants as phase
use Rattle.ak_singleton.specs.declared.phase.TickRule.{TickRule}
use Rattle.ak_singleton.specs.Singleton.{steps_of, active_term}
use Rattle.ak_wire.specs.declared.action.Action.{Action}
use Rattle.ak_wire.specs.declared.action.Action.TheVariants as action
use Rattle.ak_wire.specs.declared.envelope.Message.{Message}
use Rattle.ak_wire.specs.declared.envelope.Message.TheVariants as message
use Rattle.ak_node.specs.declared.node.State.{State}
use Rattle.ak_node.specs.declared.node.NodeEvent.{NodeEvent}
use Rattle.ak_node.specs.declared.node.NodeEvent.TheVariants as event
use Rattle.ak_node.specs.Node.{offer, on_shards, around, shards_do, rest, may_leave, leaves, forgets, Outcome, known, me_of, is_member, is_gone, nothing, and_then, to_each, update_by, does, does_for, answer, unless_refused, leave, down, asks_at, counted_members, exits, gossips_to, gossips, told_of, told_its_own, told_to_each, releases, needed_others, rule_on, does_rule, asks_as, status_of, told_end, let_go, ends_phase, told_active, becomes_active, answered, is_asked, answers_ask, takes_grant, has_handed_over, goes_on, ends, beats, on_message, rule, if_so, due, closes, concludes, is_dead, running_step, step, is_entity_at}
use Rattle.ak_node.proofs.StepChanges.{step_is}

-- ---- a message that is no grant, or one with reports of each shard once at most
abbrev pub Once : Message → Type 0
Once m = (b : BallotModel) (floor : Counts) (told : List Report) → m ≡ message.Granted b floor told → EachOnce told

abbrev IsOnce : Action → Type 0
IsOnce (action.Send e) = Once e.message
IsOnce other = Unit {0}

abbrev AreOnce : List Action → Type 0
AreOnce actions = (a : Action) → Contains actions a → IsOnce a

apart : (m : Message) → is_grant m ≡ false → Once m
apart m is b floor told same = absurd (true≢false (sym (ap is_grant same) ∙ is))

abbrev told_in : Message → List Report
told_in (message.Granted b floor told) = told
told_in other = []

none_of : AreOnce []
none_of a there = absurd (contains_nothing a there)

none_first : (a : Action) (actions : List Action) → IsOnce a → AreOnce actions → AreOnce (a ∷ actions)
none_first a actions is rest x there = elim (first_or_rest a x actions there) [
  | inl same ↦ subst IsOnce (sym same) is
  | inr later ↦ rest x later
]

none_both : (a b : List Action) → AreOnce a → AreOnce b → AreOnce (a ++ b)
none_both a b x y c there = elim (contains_either a b c there) [ inl one ↦ x c one | inr other ↦ y c other ]

none_each : (n : State) (tos : List UniqueModel) (what : Message) → Once what → AreOnce (to_each n tos what)
none_each n [] what is = none_of
none_each n (to ∷ tos) what is = none_first _ (to_each n tos what) is (none_each n tos what is)

none_updated : (number : Option ℕ) (effects : List Effect) → AreOnce (update_by number effects)
none_updated None effects = none_of
none_updated (Some number) effects = none_first _ [] tt none_of

none_if : (b : Bool) (o p : Outcome) → AreOnce o.1 → AreOnce p.1 → AreOnce (if b then o else p).1
none_if true o p x y = x
none_if false o p x y = y

none_refused : (next : membership.Outcome → Outcome) (n : State) (r : Result membership.Outcome MemberFault) → ((o : membership.Outcome) → AreOnce (next o).1) → AreOnce (unless_refused next n r).1
none_refused next n (Ok o) each = each o
none_refused next n (Err fault) each = none_first _ [] tt none_of

none_asked : (target : Option AddressModel) (n : State) → AreOnce (asks_at target n).1
none_asked None n = none_of
none_asked (Some target) n = none_first _ [] (apart _ refl) none_of

none_told : (to : Option UniqueModel) (n : State) → AreOnce (gossips_to to n).1
none_told None n = none_of
none_told (Some to) n = none_first _ [] (apart _ refl) none_of

-- ---- promises and the singleton
none_told_of : (o : Option BallotModel) (what : BallotModel → Message) → ((b : BallotModel) → Once (what b)) → (to : UniqueModel) (n : State) → AreOnce (told_of o what to n)
none_told_of None what is to n = none_of
none_told_of (Some b) what is to n = none_first _ [] (is b) none_of

none_its_own : (o : Option BallotModel) (n : State) → AreOnce (told_its_own o n)
none_its_own None n = none_of
none_its_own (Some b) n = none_first _ [] (apart _ refl) none_of

none_to_each : (o : Option BallotModel) (what : BallotModel → Message) → ((b : BallotModel) → Once (what b)) → (to : UniqueSet) (n : State) → AreOnce (told_to_each o what to n)
none_to_each None what is to n = none_of
none_to_each (Some b) what is to n = none_each n (in_order to) (what b) (is b)

none_ruled : (r : TickRule) (n : State) → AreOnce (does_rule r n).1
none_ruled r n =
    let after : State = (does_rule r n).0 in
    let steps = steps_of r (me_of n) n.membership.settled.view n.membership.settings.margin n.singleton in
    none_both (told_its_own steps.hand_over_to after ++ releases steps.release after) _
    (none_both (told_its_own steps.hand_over_to after) (releases steps.release after) (none_its_own steps.hand_over_to after) (none_to_each after.singleton.promise.last _ (λ b. apart _ refl) steps.release after))
    (none_to_each after.singleton.live message.Ask (λ b. apart _ refl) steps.ask after)

none_asked_as : (status : Option Status) (n : State) → AreOnce (asks_as status n).1
none_asked_as None n = none_of
none_asked_as (Some status) n = none_ruled (rule_on status n) n

none_ended : (term : Option ℕ) → AreOnce (told_end term)
none_ended None = none_of
none_ended (Some term) = none_first _ [] tt none_of

none_let_go : (ph : Phase) (n : State) → AreOnce (let_go ph n)
none_let_go phase.Younger n = none_of
none_let_go phase.Asking n = none_to_each n.singleton.promise.last _ (λ b. apart _ refl) (needed_others n) n
none_let_go phase.Active n = none_to_each n.singleton.promise.last _ (λ b. apart _ refl) (needed_others n) n
none_let_go phase.Ended n = none_of

none_answered_ask : (a : Answer) (to : UniqueModel) (b : BallotModel) (n : State) → AreOnce (answered a to b n)
none_answered_ask given.Granted to b n = none_first _ [] (λ c floor told same. subst EachOnce (ap told_in same) (reports_once n.sharding.region)) none_of
none_answered_ask given.Old to b n = none_told_of n.singleton.promise.last _ (λ last. apart _ refl) to n
none_answered_ask given.Busy to b n = none_told_of n.singleton.promise.last _ (λ last. apart _ refl) to n

none_active : (b : Bool) (n : State) → AreOnce (becomes_active b n).1
none_active true n = by_live n.singleton.live
  where
    by_live : (o : Option BallotModel) → AreOnce (told_active o)
    by_live None = none_of
    by_live (Some b) = none_first _ [] tt none_of
none_active false n = none_of

-- work on shards
none_work : (me : UniqueModel) (actions : List Action) → AreWork me actions → AreOnce actions
none_work me actions w (action.Send p) there = apart p.message (work_grants me actions w p there)
none_work me actions w other there = tt

none_rest : (word : ℕ) (n : State) → AreOnce (rest word n).1
none_rest word n =
    let a = (asks_as (status_of n) n).0 in
    let b = (shards_do coordinates.coordinates a).0 in
    let c = (shards_do hosts.asks_homes b).0 in
    none_both _ (gossips word c).1
    (none_both _ (shards_do hosts.asks_homes b).1
    (none_both (asks_as (status_of n) n).1 (shards_do coordinates.coordinates a).1 (none_asked_as (status_of n) n) (none_work (me_of a) _ (coordinates_work (around a) a.sharding)))
    (none_work (me_of b) _ (asks_homes_work (around b) b.sharding)))
    (none_told (ticks.gossip_peer word c.membership) c)

none_on : (word : ℕ) (n : State) → AreOnce (goes_on word n).1
none_on word n =
    let x = (ends_phase n).0 in
    none_if (is_gone n) (nothing n) _ none_of
    (none_if (is_member_with is_exiting (known n).view.standings (me_of n)) (and_then (leaves word) (ends_phase n)) (rest word n)
    (none_both (ends_phase n).1 (leaves word x).1
    (none_both (told_end (active_term n.singleton.phase n.singleton.live)) (let_go n.singleton.phase n) (none_ended (active_term n.singleton.phase n.singleton.live)) (none_let_go n.singleton.phase n))
    (none_if (may_leave x) (exits x) (rest word x) (none_each x (counted_members x) message.ExitingConfirmed (apart _ refl)) (none_rest word x)))
    (none_rest word n))

none_answered : (r : Reply) (to : UniqueModel) (n : State) → AreOnce (answer r to n)
none_answered reply.Nothing to n = none_of
none_answered reply.Welcome to n = none_first _ [] (apart _ refl) none_of
none_answered reply.Gossip to n = none_first _ [] (apart _ refl) none_of

none_for : (from : UniqueModel) (n : State) (o : membership.Outcome) → AreOnce (does_for from n o).1
none_for from n o = none_both _ _ (none_updated o.1.number o.1.effects) (none_answered o.1.reply from (does n o).0)

none_left : (who : UniqueModel) (n : State) → AreOnce (leave who n).1
none_left who n = none_refused (does n) n (membership.leave who n.membership) (λ o. none_updated o.1.number o.1.effects)

none_downed : (who : UniqueModel) (n : State) → AreOnce (down who n).1
none_downed who n = none_refused (does n) n (membership.down who n.membership) (λ o. none_updated o.1.number o.1.effects)

none_shards : (from : UniqueModel) (what : Message) (n : State) → AreOnce (on_shards from what n).1
none_shards from what n = none_if (is_member n) (shards_do (λ a s. packets.on_shard_message a from what s) n) (nothing n) (none_work (me_of n) _ (message_work (around n) from what n.sharding)) none_of

none_offered : (id : List ℕ) (payload : ℕ) (n : State) → AreOnce (offer id payload n).1
none_offered id payload n = none_work (me_of n) _ (offer_work (around n) id payload n.sharding)

none_heard : (from : UniqueModel) (m : Message) (n : State) → AreOnce (on_message from m n).1
none_heard from message.Join n = none_refused (does_for from n) n (membership.on_join from n.membership) (none_for from n)
none_heard from (message.Welcome g) n = none_refused (does_for from n) n (membership.on_gossip g n.membership) (none_for from n)
none_heard from (message.Gossip g) n = none_refused (does_for from n) n (membership.on_gossip g n.membership) (none_for from n)
none_heard from message.Heartbeat n = none_if (is_member n) _ (nothing n) (none_first _ [] (apart _ refl) none_of) none_of
none_heard from message.HeartbeatReply n = none_if (is_member n) _ (nothing n) none_of none_of
none_heard from message.ExitingConfirmed n = none_if (is_member n) _ (nothing n) none_of none_of
none_heard from (message.Ask b) n = none_if (is_asked from b n) (answers_ask from b n) (nothing n) (none_answered_ask _ from b n) none_of
none_heard from (message.Granted b floor reports) n = none_if (takes_grant from reports n) _ (nothing n) none_of none_of
none_heard from (message.Busy b held) n = none_if (is_member n && is_some_ballot n.singleton.live b) _ (nothing n) (none_first _ [] (apart _ refl) none_of) none_of
none_heard from (message.Old b last) n = none_if (is_member n) _ (nothing n) none_of none_of
none_heard from (message.HandOverToMe b) n = none_if (is_member n && has_handed_over b n) _ (nothing n) (none_first _ [] (apart _ refl) none_of) none_of
none_heard from (message.HandOverDone b floor) n = none_if (is_member n) _ (nothing n) (none_each n (in_order (needed_others n)) (message.Release b floor) (apart _ refl)) none_of
none_heard from (message.Release b floor) n = none_if (is_member n) _ (nothing n) none_of none_of
none_heard from (message.Leave who) n = none_left who n
none_heard from (message.Down who) n = none_downed who n
none_heard from (message.GetHome b shard) n = none_shards from (message.GetHome b shard) n
none_heard from (message.Home b shard owner) n = none_shards from (message.Home b shard owner) n
none_heard from (message.HostShard b shard number) n = none_shards from (message.HostShard b shard number) n
none_heard from (message.ShardStarted b shard number) n = none_shards from (message.ShardStarted b shard number) n
none_heard from (message.BeginHandOff b shard number) n = none_shards from (message.BeginHandOff b shard number) n
none_heard from (message.BeginHandOffAck b shard number) n = none_shards from (message.BeginHandOffAck b shard number) n
none_heard from (message.HandOff b shard number) n = none_shards from (message.HandOff b shard number) n
none_heard from (message.ShardStopped b shard number) n = none_shards from (message.ShardStopped b shard number) n
none_heard from (message.Forward entity payload) n = none_if (is_entity_at entity n) (on_shards from (message.Forward entity payload) n) (nothing n) (none_shards from (message.Forward entity payload) n) none_of
none_heard from (message.Offer entity payload) n = none_if (is_entity_at entity n) (offer entity payload n) (nothing n) (none_offered entity payload n) none_of

none_so : (b : Bool) (a : Action) → IsOnce a → AreOnce (if_so b a)
none_so true a is = none_first a [] is none_of
none_so false a is = none_of

none_due : (c : Closing) → AreOnce (due c)
none_due c =
    none_both (if_so c.viewed action.View ++ if_so c.stopped action.Stopped) (if_so c.settled action.Settled)
    (none_both (if_so c.viewed action.View) (if_so c.stopped action.Stopped) (none_so c.viewed action.View tt) (none_so c.stopped action.Stopped tt))
    (none_so c.settled action.Settled tt)

none_closed : (n : State) → AreOnce (closes n).1
none_closed n = none_due (closing.close (not n.runs) n.membership).1

none_concluded : (n : State) → AreOnce (concludes n).1
none_concluded n = none_both (closes n).1 _ (none_closed n) (none_active _ (forgets (closes n).0))

none_margins : (whos : List UniqueModel) → AreOnce (map action.MarginEnd whos)
none_margins [] = none_of
none_margins (who ∷ whos) = none_first (action.MarginEnd who) (map action.MarginEnd whos) tt (none_margins whos)

none_ticking : (word : ℕ) (n : State) → AreOnce (rule (event.Tick word) n).1
none_ticking word n =
    let t = ticks.tick n.membership in
    let after : State = record n { membership = t.0 } in
    none_if (is_member n) (and_then (goes_on word) (node.ticked n t)) (asks_at n.membership.target n)
    (none_both (ends after ++ beats after ++ update_by t.1.number t.1.effects) (goes_on word after).1
    (none_both (ends after ++ beats after) (update_by t.1.number t.1.effects)
    (none_both (ends after) (beats after) (none_margins after.membership.settled.just_ended) (none_each after (in_order (keys_of after.membership.detector)) message.Heartbeat (apart _ refl)))
    (none_updated t.1.number t.1.effects))
    (none_on word after))
    (none_asked n.membership.target n)

-- ---- a step
rule_once : (e : NodeEvent) (n : State) → AreOnce (rule e n).1
rule_once event.Found n = none_updated (membership.found n.membership).1.number (membership.found n.membership).1.effects
rule_once (event.Join target) n = none_if (is_member n) (nothing n) _ none_of (none_first _ [] (apart _ refl) none_of)
rule_once (event.Tick word) n = none_ticking word n
rule_once (event.Packet p) n = none_heard p.from p.message n
rule_once (event.Leave who) n = none_left who n
rule_once (event.Down who) n = none_downed who n
rule_once (event.Offer id payload) n = none_offered id payload n
rule_once event.Stop n = none_of

running_once : (e : NodeEvent) (n : State) → AreOnce (running_step e n).1
running_once e n = none_if (is_dead (me_of n) e) (n, action.Dead ∷ []) (and_then concludes (rule e n)) (none_first action.Dead [] tt none_of)
    (none_both (rule e n).1 (concludes (rule e n).0).1 (rule_once e n) (none_concluded (rule e n).0))

sent_in : (actions : List Action) (p : Envelope) → Contains (sent actions) p → Contains actions (action.Send p)
sent_in [] p there = absurd (contains_nothing p there)
sent_in (action.Send e ∷ actions) p there = elim (first_or_rest e p (sent actions) there) [
  | inl same ↦ subst (λ q. Contains (action.Send q ∷ actions) (action.Send p)) same (contains_first (action.Send p) actions)
  | inr later ↦ contains_rest (action.Send e) (action.Send p) actions (sent_in actions p later)
]
sent_in (other ∷ actions) p there = contains_rest other (action.Send p) actions (sent_in actions p there)

pub step_once : (e : NodeEvent) (n : State) → IsTrue n.runs → (p : Envelope) → Contains (sent (step e n).1) p → Once p.message
step_once e n runs p there = running_once e (record n { steps = n.steps + 1 }) (action.Send p) (sent_in _ p (subst (λ (o : Outcome). Contains (sent o.1) p) (step_is e n runs) there))
