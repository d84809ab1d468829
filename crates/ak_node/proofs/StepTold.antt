-- An entity that a node keeps active after a step was told: it was active before and the step does not end it, or the step starts it.
use Rattle.std.proofs.Common.{◌≡◌, ℕ, ◌+◌, Bool, true, false, if◌then◌else◌, List, [], ◌∷◌, length, is_some, IsTrue, refl, sym, subst}
use Rattle.std.specs.FinMap as finmap
use Rattle.ak_address.specs.Unique.{UniqueModel}
use Rattle.ak_sharding.specs.Packets as packets
use Rattle.ak_sharding.specs.Alive.{IsActive, AreHosted, alive_after}
use Rattle.ak_sharding.proofs.AliveByActions.{IsAlive, after_is}
use Rattle.ak_sharding.proofs.EntityHosts.{alive_tells, both_after, on_offer_keeps}
use Rattle.ak_sharding.proofs.EntityPackets.{on_shard_message_keeps}
use Rattle.ak_wire.specs.declared.action.Action.{Action}
use Rattle.ak_wire.specs.declared.action.Action.TheVariants as action
use Rattle.ak_wire.specs.declared.envelope.Message.{Message}
use Rattle.ak_wire.specs.declared.envelope.Message.TheVariants as message
use Rattle.ak_node.specs.declared.node.State.{State}
use Rattle.ak_node.specs.declared.node.NodeEvent.{NodeEvent}
use Rattle.ak_node.specs.declared.node.NodeEvent.TheVariants as event
use Rattle.ak_node.specs.Node.{Outcome, around, shards_do, me_of, is_member, nothing, and_then, offer, on_shards, on_message, rule, concludes, is_dead, running_step, step, is_entity_at}
use Rattle.ak_node.proofs.StepChanges.{step_is}
use Rattle.ak_node.proofs.StepQuiet.{Quiet, quiet_found, quiet_join, quiet_ticking, quiet_left, quiet_downed, quiet_stop, quiet_heard, quiet_concluded}

module _ (x : List ℕ) where
  -- by these actions the entity is active at a node that kept so many shards
  abbrev IsTold : State → List Action → Type 0
  IsTold n actions = alive_after n.sharding.region.division (IsActive n.sharding) actions x

  -- whoever is active after a rule is so by its actions
  abbrev Told : State → Outcome → Type 0
  Told n o = IsActive o.0.sharding x → IsTold n o.1

  quiet_back : (n : State) (o : Outcome) → Quiet n o → IsActive o.0.sharding x → IsActive n.sharding x
  quiet_back n o q h = subst (λ m. is_some (finmap.get m x) ≡ true) q.same h

  told_quiet : (n : State) (o : Outcome) → Quiet n o → Told n o
  told_quiet n o q h = alive_tells n.sharding.region.division (IsActive n.sharding) o.1 q.tells x (quiet_back n o q h)

  -- after a rule comes one that touches no entity
  told_then : (next : State → Outcome) (n : State) (o : Outcome) → Told n o → Quiet o.0 (next o.0) → Told n (and_then next o)
  told_then next n o told q h =
      let division = n.sharding.region.division in
      both_after division (IsActive n.sharding) o.1 (next o.0).1 x (alive_tells division (alive_after division (IsActive n.sharding) o.1) (next o.0).1 q.tells x (told (quiet_back o.0 (next o.0) q h)))

  told_offer : (id : List ℕ) (payload : ℕ) (n : State) → AreHosted n.sharding → Told n (offer id payload n)
  told_offer id payload n all = (on_offer_keeps (around n) id payload n.sharding all).told x

  told_packet : (from : UniqueModel) (what : Message) (n : State) → AreHosted n.sharding → Told n (on_shards from what n)
  told_packet from what n all = by_member (is_member n)
    where
      by_member : (b : Bool) → Told n (if b then shards_do (λ a s. packets.on_shard_message a from what s) n else nothing n)
      by_member true = (on_shard_message_keeps (around n) n.sharding all from what).told x
      by_member false = λ h. h

  told_if : (b : Bool) (n : State) (o : Outcome) → Told n o → Told n (if b then o else nothing n)
  told_if true n o told = told
  told_if false n o told = λ h. h

  told_message : (from : UniqueModel) (m : Message) (n : State) → AreHosted n.sharding → Told n (on_message from m n)
  told_message from (message.GetHome b shard) n all = told_packet from (message.GetHome b shard) n all
  told_message from (message.Home b shard owner) n all = told_packet from (message.Home b shard owner) n all
  told_message from (message.HostShard b shard number) n all = told_packet from (message.HostShard b shard number) n all
  told_message from (message.ShardStarted b shard number) n all = told_packet from (message.ShardStarted b shard number) n all
  told_message from (message.BeginHandOff b shard number) n all = told_packet from (message.BeginHandOff b shard number) n all
  told_message from (message.BeginHandOffAck b shard number) n all = told_packet from (message.BeginHandOffAck b shard number) n all
  told_message from (message.HandOff b shard number) n all = told_packet from (message.HandOff b shard number) n all
  told_message from (message.ShardStopped b shard number) n all = told_packet from (message.ShardStopped b shard number) n all
  told_message from (message.Forward id payload) n all = told_if (is_entity_at id n) n (on_shards from (message.Forward id payload) n) (told_packet from (message.Forward id payload) n all)
  told_message from (message.Offer id payload) n all = told_if (is_entity_at id n) n (offer id payload n) (told_offer id payload n all)
  told_message from other n all = told_quiet n (on_message from other n) (quiet_heard from other n refl)

  told_rule : (e : NodeEvent) (n : State) → AreHosted n.sharding → Told n (rule e n)
  told_rule event.Found n all = told_quiet n (rule event.Found n) (quiet_found n)
  told_rule (event.Join target) n all = told_quiet n (rule (event.Join target) n) (quiet_join target n)
  told_rule (event.Tick word) n all = told_quiet n (rule (event.Tick word) n) (quiet_ticking word n)
  told_rule (event.Packet p) n all = told_message p.from p.message n all
  told_rule (event.Leave who) n all = told_quiet n (rule (event.Leave who) n) (quiet_left who n)
  told_rule (event.Down who) n all = told_quiet n (rule (event.Down who) n) (quiet_downed who n)
  told_rule (event.Offer id payload) n all = told_offer id payload n all
  told_rule event.Stop n all = told_quiet n (rule event.Stop n) (quiet_stop n)

  running_told : (e : NodeEvent) (n : State) → AreHosted n.sharding → IsTrue (running_step e n).0.runs → Told n (running_step e n)
  running_told e n all = by_dead (is_dead (me_of n) e)
    where
      by_dead : (b : Bool) → IsTrue (if b then (n, action.Dead ∷ []) else and_then concludes (rule e n)).0.runs → Told n (if b then (n, action.Dead ∷ []) else and_then concludes (rule e n))
      by_dead true runs = λ h. h
      by_dead false runs = told_then concludes n (rule e n) (told_rule e n all) (quiet_concluded (rule e n).0 runs)

  -- of a node that runs still
  pub step_told : (e : NodeEvent) (n : State) → IsTrue n.runs → AreHosted n.sharding → IsTrue (step e n).0.runs → IsActive (step e n).0.sharding x
      → IsAlive n.sharding.region.division (IsActive n.sharding) (step e n).1 x
  step_told e n runs all still active =
      let told : Told n (step e n) =
      subst (λ (o : Outcome). Told n o) (sym (step_is e n runs)) (running_told e (record n { steps = n.steps + 1 }) all (subst (λ (o : Outcome). IsTrue o.0.runs) (step_is e n runs) still)) in
      after_is n.sharding.region.division (IsActive n.sharding) (step e n).1 x (told active)
