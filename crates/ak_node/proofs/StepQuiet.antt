-- No rule but those of shards touches an entity: it leaves the entities that a node keeps, and tells that none starts or ends.
use Rattle.std.proofs.Common.{◌≡◌, map, Bool, true, false, not, ◌&&◌, if◌then◌else◌, ℕ, List, [], ◌∷◌, ◌++◌, Option, Some, None, Result, Ok, Err, refl, ◌∙◌, true≢false, sym}
use Rattle.ak_address.specs.Unique.{AddressModel, UniqueModel}
use Rattle.ak_address.specs.Changed.{keys_of}
use Rattle.ak_address.specs.Uniques.{UniqueSet, in_order}
use Rattle.ak_member.specs.declared.effect.Effect.{Effect}
use Rattle.ak_member.specs.declared.status.Status.{Status}
use Rattle.ak_member.specs.Standing.{is_exiting, is_member_with}
use Rattle.ak_membership.specs.declared.change.MemberFault.{MemberFault}
use Rattle.ak_membership.specs.declared.change.Reply.{Reply}
use Rattle.ak_membership.specs.declared.change.Reply.TheVariants as reply
use Rattle.ak_membership.specs.Membership as membership
use Rattle.ak_membership.specs.Closing as closing
use Rattle.ak_membership.specs.Tick as ticks
use Rattle.ak_promise.specs.Ballot.{BallotModel}
use Rattle.ak_promise.specs.Promise.{is_some_ballot}
use Rattle.ak_promise.specs.declared.promise.Answer.{Answer}
use Rattle.ak_promise.specs.declared.promise.Answer.TheVariants as given
use Rattle.ak_coordinator.specs.declared.orders.Order.{Order}
use Rattle.ak_coordinator.specs.declared.orders.Order.TheVariants as order
use Rattle.ak_coordinator.specs.Table.{ShardTable}
use Rattle.ak_coordinator.specs.Tick.{orders_from}
use Rattle.ak_sharding.specs.Hosts as hosts
use Rattle.ak_sharding.specs.Coordinates as coordinates
use Rattle.ak_sharding.specs.Sharding as sharding
use Rattle.ak_sharding.specs.Sharding.{ShardingModel, Around}
use Rattle.ak_sharding.specs.Work.{is_of_shards}
use Rattle.ak_sharding.proofs.EntityHosts.{Tells, tells_both}
use Rattle.ak_sharding.proofs.EntityPackets.{asks_homes_tell}
use Rattle.ak_shard_id.specs.declared.report.Report.{Report}
use Rattle.ak_singleton.specs.declared.phase.Phase.{Phase}
use Rattle.ak_singleton.specs.declared.phase.Phase.TheVariants as phase
use Rattle.ak_singleton.specs.declared.phase.TickRule.{TickRule}
use Rattle.ak_singleton.specs.declared.phase.TickRule.TheVariants as tick_rules
use Rattle.ak_singleton.specs.Singleton.{steps_of, active_term, is_first_grant, is_outdone}
use Rattle.ak_wire.specs.declared.action.Action.TheVariants as action
use Rattle.ak_wire.specs.declared.envelope.Message.{Message}
use Rattle.ak_wire.specs.declared.envelope.Message.TheVariants as message
use Rattle.ak_node.specs.declared.node.State.{State}
use Rattle.ak_node.specs.declared.node.NodeEvent.TheVariants as event
use Rattle.ak_node.specs.Node as node
use Rattle.ak_node.specs.Node.{around, shards_do, rest, may_leave, leaves, forgets, Outcome, known, me_of, is_member, is_gone, nothing, and_then, to_each, update_by, does, does_for, answer, unless_refused, leave, down, asks_at, counted_members, exits, gossips_to, gossips, told_of, told_its_own, told_to_each, releases, needed_others, rule_on, does_rule, asks_as, status_of, told_end, let_go, ends_phase, told_active, becomes_active, activates, answered, is_asked, answers_ask, takes_grant, takes, has_handed_over, goes_on, ends, beats, on_message, rule, if_so, closes, concludes}

-- ---- these actions tell of no entity
tells_each : (n : State) (tos : List UniqueModel) (what : Message) → Tells (to_each n tos what)
tells_each n [] what = tt
tells_each n (to ∷ tos) what = (refl, tells_each n tos what)

tells_updated : (number : Option ℕ) (effects : List Effect) → Tells (update_by number effects)
tells_updated None effects = tt
tells_updated (Some number) effects = (refl, tt)

tells_told_of : (o : Option BallotModel) (what : BallotModel → Message) (to : UniqueModel) (n : State) → Tells (told_of o what to n)
tells_told_of None what to n = tt
tells_told_of (Some b) what to n = (refl, tt)

tells_its_own : (o : Option BallotModel) (n : State) → Tells (told_its_own o n)
tells_its_own None n = tt
tells_its_own (Some b) n = (refl, tt)

tells_to_each : (o : Option BallotModel) (what : BallotModel → Message) (to : UniqueSet) (n : State) → Tells (told_to_each o what to n)
tells_to_each None what to n = tt
tells_to_each (Some b) what to n = tells_each n (in_order to) (what b)

tells_ended : (term : Option ℕ) → Tells (told_end term)
tells_ended None = tt
tells_ended (Some term) = (refl, tt)

tells_let_go : (ph : Phase) (n : State) → Tells (let_go ph n)
tells_let_go phase.Younger n = tt
tells_let_go phase.Asking n = tells_to_each n.singleton.promise.last _ (needed_others n) n
tells_let_go phase.Active n = tells_to_each n.singleton.promise.last _ (needed_others n) n
tells_let_go phase.Ended n = tt

tells_answered_ask : (a : Answer) (to : UniqueModel) (b : BallotModel) (n : State) → Tells (answered a to b n)
tells_answered_ask given.Granted to b n = (refl, tt)
tells_answered_ask given.Old to b n = tells_told_of n.singleton.promise.last _ to n
tells_answered_ask given.Busy to b n = tells_told_of n.singleton.promise.last _ to n

tells_active : (o : Option BallotModel) → Tells (told_active o)
tells_active None = tt
tells_active (Some b) = (refl, tt)

tells_answered : (r : Reply) (to : UniqueModel) (n : State) → Tells (answer r to n)
tells_answered reply.Nothing to n = tt
tells_answered reply.Welcome to n = (refl, tt)
tells_answered reply.Gossip to n = (refl, tt)

tells_margins : (whos : List UniqueModel) → Tells (map action.MarginEnd whos)
tells_margins [] = tt
tells_margins (who ∷ whos) = (refl, tells_margins whos)

tells_orders : (a : Around) (b : BallotModel) (orders : List Order) → Tells (map (coordinates.gives_order a b) orders)
tells_orders a b [] = tt
tells_orders a b (order.Begin shard number who ∷ orders) = (refl, tells_orders a b orders)
tells_orders a b (order.HandOff shard number who ∷ orders) = (refl, tells_orders a b orders)
tells_orders a b (order.Host shard number who ∷ orders) = (refl, tells_orders a b orders)

-- a node that goes on does not tell that it stops
tells_due : (viewed stopped settled : Bool) → not stopped ≡ true → Tells (if_so viewed action.View ++ if_so stopped action.Stopped ++ if_so settled action.Settled)
tells_due viewed true settled is = absurd (true≢false (sym is))
tells_due true false true is = (refl, (refl, tt))
tells_due true false false is = (refl, tt)
tells_due false false true is = (refl, tt)
tells_due false false false is = tt

-- ---- a rule that leaves the entities, and tells of none
pub record Quiet (n : State) (o : Outcome) : Type 0 where
  pub same : o.0.sharding.entities ≡ n.sharding.entities
  pub tells : Tells o.1

quiet_nothing : (n : State) → Quiet n (nothing n)
quiet_nothing n = record { same = refl; tells = tt }

pub quiet_then : (next : State → Outcome) (n : State) (o : Outcome) → Quiet n o → Quiet o.0 (next o.0) → Quiet n (and_then next o)
quiet_then next n o first then_is = record { same = then_is.same ∙ first.same; tells = tells_both o.1 (next o.0).1 first.tells then_is.tells }

quiet_if : (n : State) (b : Bool) (o p : Outcome) → Quiet n o → Quiet n p → Quiet n (if b then o else p)
quiet_if n true o p x y = x
quiet_if n false o p x y = y

quiet_refused : (next : membership.Outcome → Outcome) (n : State) (r : Result membership.Outcome MemberFault) → ((o : membership.Outcome) → Quiet n (next o)) → Quiet n (unless_refused next n r)
quiet_refused next n (Ok o) each = each o
quiet_refused next n (Err fault) each = record { same = refl; tells = (refl, tt) }

quiet_does : (n : State) (o : membership.Outcome) → Quiet n (does n o)
quiet_does n o = record { same = refl; tells = tells_updated o.1.number o.1.effects }

quiet_for : (from : UniqueModel) (n : State) (o : membership.Outcome) → Quiet n (does_for from n o)
quiet_for from n o = record { same = refl; tells = tells_both _ _ (tells_updated o.1.number o.1.effects) (tells_answered o.1.reply from (does n o).0) }

quiet_asked : (target : Option AddressModel) (n : State) → Quiet n (asks_at target n)
quiet_asked None n = quiet_nothing n
quiet_asked (Some target) n = record { same = refl; tells = (refl, tt) }

quiet_told : (to : Option UniqueModel) (n : State) → Quiet n (gossips_to to n)
quiet_told None n = quiet_nothing n
quiet_told (Some to) n = record { same = refl; tells = (refl, tt) }

-- ---- promises and the singleton
same_ruled : (r : TickRule) (me : UniqueModel) (s : ShardingModel) → (coordinates.tabled_by r me s).entities ≡ s.entities
same_ruled tick_rules.Rests me s = refl
same_ruled tick_rules.Opens me s = refl
same_ruled tick_rules.HandsOver me s = refl
same_ruled tick_rules.Closes me s = refl
same_ruled tick_rules.Asks me s = refl

quiet_ruled : (r : TickRule) (n : State) → Quiet n (does_rule r n)
quiet_ruled r n =
    let after : State = (does_rule r n).0 in
    let steps = steps_of r (me_of n) n.membership.settled.view n.membership.settings.margin n.singleton in
    record {
      same = same_ruled r (me_of n) n.sharding;
      tells =
          tells_both (told_its_own steps.hand_over_to after ++ releases steps.release after) _
          (tells_both (told_its_own steps.hand_over_to after) (releases steps.release after) (tells_its_own steps.hand_over_to after) (tells_to_each after.singleton.promise.last _ steps.release after))
          (tells_to_each after.singleton.live message.Ask steps.ask after);
    }

quiet_asked_as : (status : Option Status) (n : State) → Quiet n (asks_as status n)
quiet_asked_as None n = quiet_nothing n
quiet_asked_as (Some status) n = quiet_ruled (rule_on status n) n

same_ended : (ph : Phase) (s : ShardingModel) → (coordinates.ended_table ph s).entities ≡ s.entities
same_ended phase.Younger s = refl
same_ended phase.Asking s = refl
same_ended phase.Active s = refl
same_ended phase.Ended s = refl

quiet_ended : (n : State) → Quiet n (ends_phase n)
quiet_ended n = record {
  same = same_ended n.singleton.phase n.sharding;
  tells = tells_both (told_end (active_term n.singleton.phase n.singleton.live)) (let_go n.singleton.phase n) (tells_ended (active_term n.singleton.phase n.singleton.live)) (tells_let_go n.singleton.phase n);
}

-- ---- the coordinator
module _ (a : Around) (s : ShardingModel) where
  abbrev IsQuiet : sharding.Outcome → Type 0
  IsQuiet o = (o.0.entities ≡ s.entities) × Tells o.1

  coordinated : IsQuiet (coordinates.coordinates a s)
  coordinated = by_phase (coordinates.is_active a.singleton.phase) a.singleton.live
    where
      by_table : (b : BallotModel) (o : Option ShardTable) → IsQuiet (coordinates.on_table (λ table. (coordinates.ticked_table a table, map (coordinates.gives_order a b) (orders_from 0 (coordinates.ticked_table a table)))) o s)
      by_table b None = (refl, tt)
      by_table b (Some table) = (refl, tells_orders a b (orders_from 0 (coordinates.ticked_table a table)))

      by_live : (o : Option BallotModel) → IsQuiet (coordinates.coordinates_with a o s)
      by_live None = (refl, tt)
      by_live (Some b) = by_table b s.table

      by_phase : (t : Bool) (o : Option BallotModel) → IsQuiet (if t then coordinates.coordinates_with a o s else sharding.nothing s)
      by_phase true o = by_live o
      by_phase false o = (refl, tt)

quiet_coordinated : (n : State) → Quiet n (shards_do coordinates.coordinates n)
quiet_coordinated n = let q = coordinated (around n) n.sharding in record { same = q.0; tells = q.1 }

-- ---- a tick
quiet_rest : (word : ℕ) (n : State) → Quiet n (rest word n)
quiet_rest word n =
    let o = asks_as (status_of n) n in
    let p = and_then (shards_do coordinates.coordinates) o in
    let q = and_then (shards_do hosts.asks_homes) p in
    quiet_then (gossips word) n q
    (quiet_then (shards_do hosts.asks_homes) n p
    (quiet_then (shards_do coordinates.coordinates) n o (quiet_asked_as (status_of n) n) (quiet_coordinated o.0))
    (record { same = refl; tells = asks_homes_tell (around p.0) p.0.sharding }))
    (quiet_told (ticks.gossip_peer word q.0.membership) q.0)

quiet_on : (word : ℕ) (n : State) → Quiet n (goes_on word n)
quiet_on word n =
    let x = (ends_phase n).0 in
    quiet_if n (is_gone n) (nothing n) _ (quiet_nothing n)
    (quiet_if n (is_member_with is_exiting (known n).view.standings (me_of n)) (and_then (leaves word) (ends_phase n)) (rest word n)
    (quiet_then (leaves word) n (ends_phase n) (quiet_ended n)
    (quiet_if x (may_leave x) (exits x) (rest word x) (record { same = refl; tells = tells_each x (counted_members x) message.ExitingConfirmed }) (quiet_rest word x)))
    (quiet_rest word n))

pub quiet_ticking : (word : ℕ) (n : State) → Quiet n (rule (event.Tick word) n)
quiet_ticking word n =
    let t = ticks.tick n.membership in
    let after : State = record n { membership = t.0 } in
    quiet_if n (is_member n) (and_then (goes_on word) (node.ticked n t)) (asks_at n.membership.target n)
    (quiet_then (goes_on word) n (node.ticked n t)
    (record {
      same = refl;
      tells =
          tells_both (ends after ++ beats after) (update_by t.1.number t.1.effects)
          (tells_both (ends after) (beats after) (tells_margins after.membership.settled.just_ended) (tells_each after (in_order (keys_of after.membership.detector)) message.Heartbeat))
          (tells_updated t.1.number t.1.effects);
    })
    (quiet_on word after))
    (quiet_asked n.membership.target n)

-- ---- local events and packets
pub quiet_found : (n : State) → Quiet n (rule event.Found n)
quiet_found n = quiet_does n (membership.found n.membership)

pub quiet_join : (target : AddressModel) (n : State) → Quiet n (rule (event.Join target) n)
quiet_join target n = quiet_if n (is_member n) (nothing n) _ (quiet_nothing n) (record { same = refl; tells = (refl, tt) })

pub quiet_stop : (n : State) → Quiet n (rule event.Stop n)
quiet_stop n = record { same = refl; tells = tt }

pub quiet_left : (who : UniqueModel) (n : State) → Quiet n (leave who n)
quiet_left who n = quiet_refused (does n) n (membership.leave who n.membership) (quiet_does n)

pub quiet_downed : (who : UniqueModel) (n : State) → Quiet n (down who n)
quiet_downed who n = quiet_refused (does n) n (membership.down who n.membership) (quiet_does n)

same_learnt : (first : Bool) (n : State) (from : UniqueModel) (told : List Report) → (coordinates.learns_if first (around n) from told n.sharding).entities ≡ n.sharding.entities
same_learnt true n from told = refl
same_learnt false n from told = refl

same_begun : (outdone : Bool) (n : State) → (coordinates.begins_if outdone (me_of n) n.sharding).entities ≡ n.sharding.entities
same_begun true n = refl
same_begun false n = refl

pub quiet_heard : (from : UniqueModel) (m : Message) (n : State) → is_of_shards m ≡ false → Quiet n (on_message from m n)
quiet_heard from message.Join n apart = quiet_refused (does_for from n) n (membership.on_join from n.membership) (quiet_for from n)
quiet_heard from (message.Welcome g) n apart = quiet_refused (does_for from n) n (membership.on_gossip g n.membership) (quiet_for from n)
quiet_heard from (message.Gossip g) n apart = quiet_refused (does_for from n) n (membership.on_gossip g n.membership) (quiet_for from n)
quiet_heard from message.Heartbeat n apart = quiet_if n (is_member n) _ (nothing n) (record { same = refl; tells = (refl, tt) }) (quiet_nothing n)
quiet_heard from message.HeartbeatReply n apart = quiet_if n (is_member n) _ (nothing n) (record { same = refl; tells = tt }) (quiet_nothing n)
quiet_heard from message.ExitingConfirmed n apart = quiet_if n (is_member n) _ (nothing n) (record { same = refl; tells = tt }) (quiet_nothing n)
quiet_heard from (message.Ask b) n apart = quiet_if n (is_asked from b n) (answers_ask from b n) (nothing n) (record { same = refl; tells = tells_answered_ask _ from b n }) (quiet_nothing n)
quiet_heard from (message.Granted b floor told) n apart =
    quiet_if n (takes_grant from told n) (nothing (takes from b floor told n)) (nothing n) (record { same = same_learnt (is_first_grant from b n.singleton) n from told; tells = tt }) (quiet_nothing n)
quiet_heard from (message.Busy b held) n apart = quiet_if n (is_member n && is_some_ballot n.singleton.live b) _ (nothing n) (record { same = refl; tells = (refl, tt) }) (quiet_nothing n)
quiet_heard from (message.Old b last) n apart = quiet_if n (is_member n) _ (nothing n) (record { same = same_begun (is_outdone b last n.singleton) n; tells = tt }) (quiet_nothing n)
quiet_heard from (message.HandOverToMe b) n apart = quiet_if n (is_member n && has_handed_over b n) _ (nothing n) (record { same = refl; tells = (refl, tt) }) (quiet_nothing n)
quiet_heard from (message.HandOverDone b floor) n apart = quiet_if n (is_member n) _ (nothing n) (record { same = refl; tells = tells_each n (in_order (needed_others n)) (message.Release b floor) }) (quiet_nothing n)
quiet_heard from (message.Release b floor) n apart = quiet_if n (is_member n) _ (nothing n) (record { same = refl; tells = tt }) (quiet_nothing n)
quiet_heard from (message.Leave who) n apart = quiet_left who n
quiet_heard from (message.Down who) n apart = quiet_downed who n
quiet_heard from (message.GetHome b shard) n apart = absurd (true≢false apart)
quiet_heard from (message.Home b shard owner) n apart = absurd (true≢false apart)
quiet_heard from (message.HostShard b shard number) n apart = absurd (true≢false apart)
quiet_heard from (message.ShardStarted b shard number) n apart = absurd (true≢false apart)
quiet_heard from (message.BeginHandOff b shard number) n apart = absurd (true≢false apart)
quiet_heard from (message.BeginHandOffAck b shard number) n apart = absurd (true≢false apart)
quiet_heard from (message.HandOff b shard number) n apart = absurd (true≢false apart)
quiet_heard from (message.ShardStopped b shard number) n apart = absurd (true≢false apart)
quiet_heard from (message.Forward entity payload) n apart = absurd (true≢false apart)
quiet_heard from (message.Offer entity payload) n apart = absurd (true≢false apart)

-- ---- the closing
pub quiet_activated : (b : Bool) (n : State) → Quiet n (becomes_active b n)
quiet_activated true n = record { same = refl; tells = tells_active n.singleton.live }
quiet_activated false n = record { same = refl; tells = tt }

same_forgotten : (n : State) → (forgets n).sharding.entities ≡ n.sharding.entities
same_forgotten n = by_runs n.runs
  where
    by_runs : (b : Bool) → (if b then (hosts.forgets (around n) n.sharding).0 else n.sharding).entities ≡ n.sharding.entities
    by_runs true = refl
    by_runs false = refl

-- of a node that goes on
pub quiet_concluded : (n : State) → (closes n).0.runs ≡ true → Quiet n (concludes n)
quiet_concluded n runs =
    let c = closing.close (not n.runs) n.membership in
    quiet_then activates n (forgets (closes n).0, (closes n).1) (record { same = same_forgotten (closes n).0; tells = tells_due c.1.viewed c.1.stopped c.1.settled runs }) (quiet_activated _ (forgets (closes n).0))
