-- A node keeps entities of hosted shards alone, whatever a step does, and divides them as before.
use Rattle.std.proofs.Common.{◌≡◌, ℕ, ◌+◌, Bool, true, false, ◌&&◌, if◌then◌else◌, List, [], ◌∷◌, length, Option, Some, None, Result, Ok, Err, refl, sym, ◌∙◌, subst}
use Rattle.ak_address.specs.Unique.{AddressModel, UniqueModel}
use Rattle.ak_member.specs.declared.status.Status.{Status}
use Rattle.ak_member.specs.Standing.{is_exiting, is_member_with}
use Rattle.ak_membership.specs.declared.change.MemberFault.{MemberFault}
use Rattle.ak_membership.specs.Membership as membership
use Rattle.ak_membership.specs.Tick as ticks
use Rattle.ak_promise.specs.Promise.{is_some_ballot}
use Rattle.ak_shard_id.specs.Division.{DivisionModel}
use Rattle.ak_sharding.specs.Sharding.{ShardingModel, Around}
use Rattle.ak_sharding.specs.Sharding as sharding
use Rattle.ak_sharding.specs.Hosts as hosts
use Rattle.ak_sharding.specs.Coordinates as coordinates
use Rattle.ak_sharding.specs.Packets as packets
use Rattle.ak_sharding.specs.Alive.{AreHosted, KeepsEntities}
use Rattle.ak_sharding.proofs.EntityHosts.{asks_homes_keeps, forgets_keeps, on_offer_keeps}
use Rattle.ak_sharding.proofs.EntityPackets.{coordinates_keeps, on_shard_message_keeps}
use Rattle.ak_singleton.specs.declared.phase.Phase.{Phase}
use Rattle.ak_singleton.specs.declared.phase.Phase.TheVariants as phase
use Rattle.ak_singleton.specs.declared.phase.TickRule.{TickRule}
use Rattle.ak_singleton.specs.declared.phase.TickRule.TheVariants as tick_rules
use Rattle.ak_singleton.specs.Singleton.{is_first_grant, is_outdone}
use Rattle.ak_wire.specs.declared.envelope.Message.{Message}
use Rattle.ak_wire.specs.declared.envelope.Message.TheVariants as message
use Rattle.ak_wire.specs.declared.action.Action.TheVariants as action
use Rattle.ak_node.specs.declared.node.State.{State}
use Rattle.ak_node.specs.declared.node.NodeEvent.{NodeEvent}
use Rattle.ak_node.specs.declared.node.NodeEvent.TheVariants as event
use Rattle.ak_node.specs.Node as node
use Rattle.ak_node.specs.Node.{Outcome, around, shards_do, known, me_of, status_of, is_member, is_gone, nothing, and_then, does, does_for, unless_refused, asks_at, exits, gossips_to, rule_on, does_rule, asks_as, ends_phase, rest, may_leave, goes_on, ticked, is_asked, answers_ask, takes_grant, takes, has_handed_over, forgets, closes, concludes, on_message, rule, is_dead, running_step, step, is_entity_at}

-- entities are of hosted shards after it where they were before, and are divided as before
pub record Keeps (s t : ShardingModel) : Type 0 where
  pub hosted : AreHosted s → AreHosted t
  pub divided : t.region.division ≡ s.region.division

itself : (s : ShardingModel) → Keeps s s
itself s = record { hosted = λ h. h; divided = refl }

-- ---- the table changes alone
by_rule : (r : TickRule) (me : UniqueModel) (s : ShardingModel) → Keeps s (coordinates.tabled_by r me s)
by_rule tick_rules.Rests me s = itself s
by_rule tick_rules.Opens me s = record { hosted = λ h. h; divided = refl }
by_rule tick_rules.HandsOver me s = itself s
by_rule tick_rules.Closes me s = record { hosted = λ h. h; divided = refl }
by_rule tick_rules.Asks me s = itself s

by_end : (ph : Phase) (s : ShardingModel) → Keeps s (coordinates.ended_table ph s)
by_end phase.Younger s = itself s
by_end phase.Asking s = record { hosted = λ h. h; divided = refl }
by_end phase.Active s = record { hosted = λ h. h; divided = refl }
by_end phase.Ended s = itself s

-- ---- a node with entities of hosted shards alone
abbrev pub IsWell : DivisionModel → State → Type 0
IsWell division n = AreHosted n.sharding × (n.sharding.region.division ≡ division)

well_then : (division : DivisionModel) (n : State) (m : State) → Keeps n.sharding m.sharding → IsWell division n → IsWell division m
well_then division n m k w = (k.hosted w.0, k.divided ∙ w.1)

module _ (division : DivisionModel) where
  abbrev Well : State → Type 0
  Well n = IsWell division n

  well_if : (b : Bool) (o p : Outcome) → Well o.0 → Well p.0 → Well (if b then o else p).0
  well_if true o p x y = x
  well_if false o p x y = y

  shards_well : (work : Around → ShardingModel → sharding.Outcome) (n : State) → ((a : Around) (s : ShardingModel) → AreHosted s → KeepsEntities s (work a s)) → Well n → Well (shards_do work n).0
  shards_well work n keeps w = let k = keeps (around n) n.sharding w.0 in (k.hosted, k.divided ∙ w.1)

  unless_well : (n : State) (next : membership.Outcome → Outcome) (r : Result membership.Outcome MemberFault) → ((o : membership.Outcome) → (next o).0 ≡ (does n o).0) → Well n → Well (unless_refused next n r).0
  unless_well n next (Ok o) is w = subst Well (sym (is o)) w
  unless_well n next (Err why) is w = w

  asks_well : (target : Option AddressModel) (n : State) → Well n → Well (asks_at target n).0
  asks_well None n w = w
  asks_well (Some target) n w = w

  gossips_well : (to : Option UniqueModel) (n : State) → Well n → Well (gossips_to to n).0
  gossips_well None n w = w
  gossips_well (Some to) n w = w

  rule_well : (r : TickRule) (n : State) → Well n → Well (does_rule r n).0
  rule_well r n w = well_then division n (does_rule r n).0 (by_rule r (me_of n) n.sharding) w

  asked_well : (status : Option Status) (n : State) → Well n → Well (asks_as status n).0
  asked_well None n w = w
  asked_well (Some status) n w = rule_well (rule_on status n) n w

  rest_well : (word : ℕ) (n : State) → Well n → Well (rest word n).0
  rest_well word n w =
      let a = (asks_as (status_of n) n).0 in
      let b = (shards_do coordinates.coordinates a).0 in
      let c = (shards_do hosts.asks_homes b).0 in
      gossips_well (ticks.gossip_peer word c.membership) c
      (shards_well hosts.asks_homes b (λ x s all. asks_homes_keeps x s all)
      (shards_well coordinates.coordinates a (λ x s all. coordinates_keeps x s all) (asked_well (status_of n) n w)))

  goes_well : (word : ℕ) (n : State) → Well n → Well (goes_on word n).0
  goes_well word n w =
      let x = (ends_phase n).0 in
      let ended = well_then division n x (by_end n.singleton.phase n.sharding) w in
      well_if (is_gone n) (nothing n) _ w
      (well_if (is_member_with is_exiting (known n).view.standings (me_of n)) (and_then (node.leaves word) (ends_phase n)) (rest word n)
      (well_if (may_leave x) (exits x) (rest word x) ended (rest_well word x ended))
      (rest_well word n w))

  shard_packet_well : (from : UniqueModel) (what : Message) (n : State) → Well n → Well (node.on_shards from what n).0
  shard_packet_well from what n w = well_if (is_member n) (shards_do (λ a s. packets.on_shard_message a from what s) n) (nothing n) (shards_well (λ a s. packets.on_shard_message a from what s) n (λ a s all. on_shard_message_keeps a s all from what) w) w

  offer_well : (entity : List ℕ) (payload : ℕ) (n : State) → Well n → Well (node.offer entity payload n).0
  offer_well entity payload n w = shards_well (λ a s. hosts.on_offer a entity payload s) n (λ a s all. on_offer_keeps a entity payload s all) w

  told_well : (from : UniqueModel) (m : Message) (n : State) → Well n → Well (on_message from m n).0
  told_well from message.Join n w = unless_well n (does_for from n) (membership.on_join from n.membership) (λ o. refl) w
  told_well from (message.Welcome g) n w = unless_well n (does_for from n) (membership.on_gossip g n.membership) (λ o. refl) w
  told_well from (message.Gossip g) n w = unless_well n (does_for from n) (membership.on_gossip g n.membership) (λ o. refl) w
  told_well from message.Heartbeat n w = well_if (is_member n) _ (nothing n) w w
  told_well from message.HeartbeatReply n w = well_if (is_member n) _ (nothing n) w w
  told_well from message.ExitingConfirmed n w = well_if (is_member n) _ (nothing n) w w
  told_well from (message.Ask b) n w = well_if (is_asked from b n) (answers_ask from b n) (nothing n) w w
  told_well from (message.Granted b floor told) n w = well_if (takes_grant from told n) (nothing (takes from b floor told n)) (nothing n) (by_first (is_first_grant from b n.singleton)) w
    where
      by_first : (first : Bool) → AreHosted (coordinates.learns_if first (around n) from told n.sharding) × ((coordinates.learns_if first (around n) from told n.sharding).region.division ≡ division)
      by_first true = w
      by_first false = w
  told_well from (message.Busy b held) n w = well_if (is_member n && is_some_ballot n.singleton.live b) _ (nothing n) w w
  told_well from (message.Old b last) n w = well_if (is_member n) _ (nothing n) (by_outdone (is_outdone b last n.singleton)) w
    where
      by_outdone : (outdone : Bool) → AreHosted (coordinates.begins_if outdone (me_of n) n.sharding) × ((coordinates.begins_if outdone (me_of n) n.sharding).region.division ≡ division)
      by_outdone true = w
      by_outdone false = w
  told_well from (message.HandOverToMe b) n w = well_if (is_member n && has_handed_over b n) _ (nothing n) w w
  told_well from (message.HandOverDone b floor) n w = well_if (is_member n) _ (nothing n) w w
  told_well from (message.Release b floor) n w = well_if (is_member n) _ (nothing n) w w
  told_well from (message.GetHome b shard) n w = shard_packet_well from (message.GetHome b shard) n w
  told_well from (message.Home b shard owner) n w = shard_packet_well from (message.Home b shard owner) n w
  told_well from (message.HostShard b shard number) n w = shard_packet_well from (message.HostShard b shard number) n w
  told_well from (message.ShardStarted b shard number) n w = shard_packet_well from (message.ShardStarted b shard number) n w
  told_well from (message.BeginHandOff b shard number) n w = shard_packet_well from (message.BeginHandOff b shard number) n w
  told_well from (message.BeginHandOffAck b shard number) n w = shard_packet_well from (message.BeginHandOffAck b shard number) n w
  told_well from (message.HandOff b shard number) n w = shard_packet_well from (message.HandOff b shard number) n w
  told_well from (message.ShardStopped b shard number) n w = shard_packet_well from (message.ShardStopped b shard number) n w
  told_well from (message.Forward entity payload) n w = well_if (is_entity_at entity n) (node.on_shards from (message.Forward entity payload) n) (nothing n) (shard_packet_well from (message.Forward entity payload) n w) w
  told_well from (message.Leave who) n w = unless_well n (does n) (membership.leave who n.membership) (λ o. refl) w
  told_well from (message.Down who) n w = unless_well n (does n) (membership.down who n.membership) (λ o. refl) w
  told_well from (message.Offer entity payload) n w = well_if (is_entity_at entity n) (node.offer entity payload n) (nothing n) (offer_well entity payload n w) w

  ruled_well : (e : NodeEvent) (n : State) → Well n → Well (rule e n).0
  ruled_well event.Found n w = w
  ruled_well (event.Join target) n w = well_if (is_member n) (nothing n) _ w w
  ruled_well (event.Tick word) n w = well_if (is_member n) _ (asks_at n.membership.target n) (goes_well word (ticked n (ticks.tick n.membership)).0 w) (asks_well n.membership.target n w)
  ruled_well (event.Packet p) n w = told_well p.from p.message n w
  ruled_well (event.Leave who) n w = unless_well n (does n) (membership.leave who n.membership) (λ o. refl) w
  ruled_well (event.Down who) n w = unless_well n (does n) (membership.down who n.membership) (λ o. refl) w
  ruled_well (event.Offer entity payload) n w = offer_well entity payload n w
  ruled_well event.Stop n w = w

  forgets_well : (n : State) → Well n → Well (forgets n)
  forgets_well n w = by_runs n.runs
    where
      by_runs : (b : Bool) → Well (node.sharing (if b then (hosts.forgets (around n) n.sharding).0 else n.sharding) n)
      by_runs true = let k = forgets_keeps (around n) n.sharding w.0 in (k.hosted, k.divided ∙ w.1)
      by_runs false = w

  concluded_well : (n : State) → Well n → Well (concludes n).0
  concluded_well n w = forgets_well (closes n).0 w

  running_well : (e : NodeEvent) (n : State) → Well n → Well (running_step e n).0
  running_well e n w = well_if (is_dead (me_of n) e) (n, action.Dead ∷ []) (and_then concludes (rule e n)) w (concluded_well (rule e n).0 (ruled_well e n w))

  pub step_well : (e : NodeEvent) (n : State) → Well n → Well (step e n).0
  step_well e n w = well_if n.runs (running_step e (record n { steps = n.steps + 1 })) (nothing n) (running_well e (record n { steps = n.steps + 1 }) w) w
