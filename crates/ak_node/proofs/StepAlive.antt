-- An entity that a node keeps active it keeps so in a step, unless the step tells that its shard is gone, or that the node stops.
use Rattle.std.proofs.Common.{◌≡◌, ℕ, ◌+◌, Bool, true, false, ◌&&◌, if◌then◌else◌, List, [], ◌∷◌, length, Option, Some, None, Result, Ok, Err, IsTrue, Contains, refl, sym, subst}
use Rattle.ak_address.specs.Unique.{AddressModel, UniqueModel}
use Rattle.ak_member.specs.declared.status.Status.{Status}
use Rattle.ak_member.specs.Standing.{is_exiting, is_member_with}
use Rattle.ak_membership.specs.declared.change.MemberFault.{MemberFault}
use Rattle.ak_membership.specs.Membership as membership
use Rattle.ak_membership.specs.Tick as ticks
use Rattle.ak_promise.specs.Promise.{is_some_ballot}
use Rattle.ak_sharding.specs.Sharding.{ShardingModel, Around}
use Rattle.ak_sharding.specs.Sharding as sharding
use Rattle.ak_sharding.specs.Hosts as hosts
use Rattle.ak_sharding.specs.Coordinates as coordinates
use Rattle.ak_sharding.specs.Packets as packets
use Rattle.ak_sharding.specs.Alive.{IsActive, AreHosted}
use Rattle.ak_sharding.proofs.EntityHosts.{Adds, asks_homes_adds, forgets_adds, on_offer_adds}
use Rattle.ak_sharding.proofs.EntityPackets.{coordinates_adds, on_shard_message_keeps, on_shard_message_stays}
use Rattle.ak_shard_id.specs.Division.{shard_in}
use Rattle.ak_address.proofs.Elements.{contains_left}
use Rattle.ak_wire.specs.declared.action.Action.{Action}
use Rattle.ak_singleton.specs.declared.phase.Phase.{Phase}
use Rattle.ak_singleton.specs.declared.phase.Phase.TheVariants as phase
use Rattle.ak_singleton.specs.declared.phase.TickRule.{TickRule}
use Rattle.ak_singleton.specs.declared.phase.TickRule.TheVariants as tick_rules
use Rattle.ak_singleton.specs.Singleton.{is_first_grant, is_outdone}
use Rattle.ak_wire.specs.declared.envelope.Message.{Message}
use Rattle.ak_wire.specs.declared.envelope.Message.TheVariants as message
use Rattle.ak_wire.specs.declared.action.Action.TheVariants as action
use Rattle.ak_node.specs.declared.node.State.{State}
use Rattle.ak_node.specs.declared.node.NodeEvent.{NodeEvent}
use Rattle.ak_node.specs.declared.node.NodeEvent.TheVariants as event
use Rattle.ak_node.specs.Node as node
use Rattle.ak_node.specs.Node.{Outcome, around, shards_do, known, me_of, status_of, is_member, is_gone, nothing, and_then, does, does_for, unless_refused, asks_at, exits, gossips_to, rule_on, does_rule, asks_as, ends_phase, rest, may_leave, goes_on, ticked, is_asked, answers_ask, takes_grant, takes, has_handed_over, forgets, closes, concludes, on_message, rule, is_dead, running_step, step, is_entity_at}
use Rattle.ak_node.proofs.StepChanges.{step_is}

-- it keeps entities of hosted shards alone, and this one active
module _ (entity : List ℕ) where
  abbrev pub Alive : ShardingModel → Type 0
  Alive s = AreHosted s × IsActive s entity

  abbrev Well : State → Type 0
  Well n = Alive n.sharding

  by_rule : (r : TickRule) (me : UniqueModel) (s : ShardingModel) → Alive s → Alive (coordinates.tabled_by r me s)
  by_rule tick_rules.Rests me s w = w
  by_rule tick_rules.Opens me s w = w
  by_rule tick_rules.HandsOver me s w = w
  by_rule tick_rules.Closes me s w = w
  by_rule tick_rules.Asks me s w = w

  by_end : (ph : Phase) (s : ShardingModel) → Alive s → Alive (coordinates.ended_table ph s)
  by_end phase.Younger s w = w
  by_end phase.Asking s w = w
  by_end phase.Active s w = w
  by_end phase.Ended s w = w

  well_if : (b : Bool) (o p : Outcome) → Well o.0 → Well p.0 → Well (if b then o else p).0
  well_if true o p x y = x
  well_if false o p x y = y

  shards_well : (work : Around → ShardingModel → sharding.Outcome) (n : State) → ((a : Around) (s : ShardingModel) → AreHosted s → Adds s (work a s)) → Well n → Well (shards_do work n).0
  shards_well work n adds w = let k = adds (around n) n.sharding w.0 in (k.keeps.hosted, k.stays entity w.1)

  -- the step does not tell that the entity's shard is gone
  abbrev NoneGone : State → List Action → Type 0
  NoneGone n actions = Contains actions (action.Gone (shard_in n.sharding.region.division entity)) → ⊥

  unless_well : (n : State) (next : membership.Outcome → Outcome) (r : Result membership.Outcome MemberFault) → ((o : membership.Outcome) → (next o).0 ≡ (does n o).0) → Well n → Well (unless_refused next n r).0
  unless_well n next (Ok o) is w = subst Well (sym (is o)) w
  unless_well n next (Err why) is w = w

  asks_well : (target : Option AddressModel) (n : State) → Well n → Well (asks_at target n).0
  asks_well None n w = w
  asks_well (Some target) n w = w

  gossips_well : (to : Option UniqueModel) (n : State) → Well n → Well (gossips_to to n).0
  gossips_well None n w = w
  gossips_well (Some to) n w = w

  rule_well : (r : TickRule) (n : State) → Well n → Well (does_rule r n).0
  rule_well r n w = by_rule r (me_of n) n.sharding w

  asked_well : (status : Option Status) (n : State) → Well n → Well (asks_as status n).0
  asked_well None n w = w
  asked_well (Some status) n w = rule_well (rule_on status n) n w

  rest_well : (word : ℕ) (n : State) → Well n → Well (rest word n).0
  rest_well word n w =
      let a = (asks_as (status_of n) n).0 in
      let b = (shards_do coordinates.coordinates a).0 in
      let c = (shards_do hosts.asks_homes b).0 in
      gossips_well (ticks.gossip_peer word c.membership) c
      (shards_well hosts.asks_homes b (λ x s all. asks_homes_adds x s all)
      (shards_well coordinates.coordinates a (λ x s all. coordinates_adds x s all) (asked_well (status_of n) n w)))

  goes_well : (word : ℕ) (n : State) → Well n → Well (goes_on word n).0
  goes_well word n w =
      let x = (ends_phase n).0 in
      let ended = by_end n.singleton.phase n.sharding w in
      well_if (is_gone n) (nothing n) _ w
      (well_if (is_member_with is_exiting (known n).view.standings (me_of n)) (and_then (node.leaves word) (ends_phase n)) (rest word n)
      (well_if (may_leave x) (exits x) (rest word x) ended (rest_well word x ended))
      (rest_well word n w))

  shard_packet_well : (from : UniqueModel) (what : Message) (n : State) → NoneGone n (node.on_shards from what n).1 → Well n → Well (node.on_shards from what n).0
  shard_packet_well from what n none w = by_member (is_member n) none
    where
      by_member : (b : Bool) → NoneGone n (if b then shards_do (λ a s. packets.on_shard_message a from what s) n else nothing n).1 → Well (if b then shards_do (λ a s. packets.on_shard_message a from what s) n else nothing n).0
      by_member true none = ((on_shard_message_keeps (around n) n.sharding w.0 from what).hosted, on_shard_message_stays (around n) n.sharding w.0 from what entity w.1 none)
      by_member false none = w

  offer_well : (id : List ℕ) (payload : ℕ) (n : State) → Well n → Well (node.offer id payload n).0
  offer_well id payload n w = shards_well (λ a s. hosts.on_offer a id payload s) n (λ a s all. on_offer_adds a id payload s all) w

  told_well : (from : UniqueModel) (m : Message) (n : State) → NoneGone n (on_message from m n).1 → Well n → Well (on_message from m n).0
  told_well from message.Join n none w = unless_well n (does_for from n) (membership.on_join from n.membership) (λ o. refl) w
  told_well from (message.Welcome g) n none w = unless_well n (does_for from n) (membership.on_gossip g n.membership) (λ o. refl) w
  told_well from (message.Gossip g) n none w = unless_well n (does_for from n) (membership.on_gossip g n.membership) (λ o. refl) w
  told_well from message.Heartbeat n none w = well_if (is_member n) _ (nothing n) w w
  told_well from message.HeartbeatReply n none w = well_if (is_member n) _ (nothing n) w w
  told_well from message.ExitingConfirmed n none w = well_if (is_member n) _ (nothing n) w w
  told_well from (message.Ask b) n none w = well_if (is_asked from b n) (answers_ask from b n) (nothing n) w w
  told_well from (message.Granted b floor told) n none w = well_if (takes_grant from told n) (nothing (takes from b floor told n)) (nothing n) (by_first (is_first_grant from b n.singleton)) w
    where
      by_first : (first : Bool) → Alive (coordinates.learns_if first (around n) from told n.sharding)
      by_first true = w
      by_first false = w
  told_well from (message.Busy b held) n none w = well_if (is_member n && is_some_ballot n.singleton.live b) _ (nothing n) w w
  told_well from (message.Old b last) n none w = well_if (is_member n) _ (nothing n) (by_outdone (is_outdone b last n.singleton)) w
    where
      by_outdone : (outdone : Bool) → Alive (coordinates.begins_if outdone (me_of n) n.sharding)
      by_outdone true = w
      by_outdone false = w
  told_well from (message.HandOverToMe b) n none w = well_if (is_member n && has_handed_over b n) _ (nothing n) w w
  told_well from (message.HandOverDone b floor) n none w = well_if (is_member n) _ (nothing n) w w
  told_well from (message.Release b floor) n none w = well_if (is_member n) _ (nothing n) w w
  told_well from (message.GetHome b shard) n none w = shard_packet_well from (message.GetHome b shard) n none w
  told_well from (message.Home b shard owner) n none w = shard_packet_well from (message.Home b shard owner) n none w
  told_well from (message.HostShard b shard number) n none w = shard_packet_well from (message.HostShard b shard number) n none w
  told_well from (message.ShardStarted b shard number) n none w = shard_packet_well from (message.ShardStarted b shard number) n none w
  told_well from (message.BeginHandOff b shard number) n none w = shard_packet_well from (message.BeginHandOff b shard number) n none w
  told_well from (message.BeginHandOffAck b shard number) n none w = shard_packet_well from (message.BeginHandOffAck b shard number) n none w
  told_well from (message.HandOff b shard number) n none w = shard_packet_well from (message.HandOff b shard number) n none w
  told_well from (message.ShardStopped b shard number) n none w = shard_packet_well from (message.ShardStopped b shard number) n none w
  told_well from (message.Forward id payload) n none w = by_entity (is_entity_at id n) none
    where
      by_entity : (b : Bool) → NoneGone n (if b then node.on_shards from (message.Forward id payload) n else nothing n).1 → Well (if b then node.on_shards from (message.Forward id payload) n else nothing n).0
      by_entity true none = shard_packet_well from (message.Forward id payload) n none w
      by_entity false none = w
  told_well from (message.Leave who) n none w = unless_well n (does n) (membership.leave who n.membership) (λ o. refl) w
  told_well from (message.Down who) n none w = unless_well n (does n) (membership.down who n.membership) (λ o. refl) w
  told_well from (message.Offer id payload) n none w = well_if (is_entity_at id n) (node.offer id payload n) (nothing n) (offer_well id payload n w) w

  ruled_well : (e : NodeEvent) (n : State) → NoneGone n (rule e n).1 → Well n → Well (rule e n).0
  ruled_well event.Found n none w = w
  ruled_well (event.Join target) n none w = well_if (is_member n) (nothing n) _ w w
  ruled_well (event.Tick word) n none w = well_if (is_member n) _ (asks_at n.membership.target n) (goes_well word (ticked n (ticks.tick n.membership)).0 w) (asks_well n.membership.target n w)
  ruled_well (event.Packet p) n none w = told_well p.from p.message n none w
  ruled_well (event.Leave who) n none w = unless_well n (does n) (membership.leave who n.membership) (λ o. refl) w
  ruled_well (event.Down who) n none w = unless_well n (does n) (membership.down who n.membership) (λ o. refl) w
  ruled_well (event.Offer id payload) n none w = offer_well id payload n w
  ruled_well event.Stop n none w = w

  forgets_well : (n : State) → Well n → Well (forgets n)
  forgets_well n w = by_runs n.runs
    where
      by_runs : (b : Bool) → Well (node.sharing (if b then (hosts.forgets (around n) n.sharding).0 else n.sharding) n)
      by_runs true = let k = forgets_adds (around n) n.sharding w.0 in (k.keeps.hosted, k.stays entity w.1)
      by_runs false = w

  pub concluded_well : (n : State) → Well n → Well (concludes n).0
  concluded_well n w = forgets_well (closes n).0 w

  running_well : (e : NodeEvent) (n : State) → NoneGone n (running_step e n).1 → Well n → Well (running_step e n).0
  running_well e n none w = by_dead (is_dead (me_of n) e) none
    where
      by_dead : (b : Bool) → NoneGone n (if b then (n, action.Dead ∷ []) else and_then concludes (rule e n)).1 → Well (if b then (n, action.Dead ∷ []) else and_then concludes (rule e n)).0
      by_dead true none = w
      by_dead false none = concluded_well (rule e n).0 (ruled_well e n (λ there. none (contains_left (rule e n).1 (concludes (rule e n).0).1 (action.Gone (shard_in n.sharding.region.division entity)) there)) w)

  pub step_alive : (e : NodeEvent) (n : State) → IsTrue n.runs → NoneGone n (step e n).1 → Alive n.sharding → Alive (step e n).0.sharding
  step_alive e n runs none w =
      subst (λ (o : Outcome). Alive o.0.sharding) (sym (step_is e n runs)) (running_well e (record n { steps = n.steps + 1 }) (subst (λ (o : Outcome). NoneGone n o.1) (step_is e n runs) none) w)
