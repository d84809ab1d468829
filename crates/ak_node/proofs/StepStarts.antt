-- An entity that a step tells to start is kept active after it; no rule but those of shards starts one.
use Rattle.std.proofs.Common.{◌||◌, ℕ, ◌≡◌, ◌+◌, Bool, true, false, not, inl, inr, if◌then◌else◌, List, [], ◌∷◌, ◌++◌, IsTrue, Contains, refl, sym, ap, ◌∙◌, subst, true≢false}
use Rattle.ak_address.specs.Unique.{UniqueModel}
use Rattle.ak_address.proofs.Elements.{contains_nothing, first_or_rest, contains_either}
use Rattle.ak_membership.specs.Membership as membership
use Rattle.ak_membership.specs.Closing as closing
use Rattle.ak_membership.specs.declared.change.Closing.{Closing}
use Rattle.ak_sharding.specs.Hosts as hosts
use Rattle.ak_sharding.specs.Sharding as sharding
use Rattle.ak_sharding.specs.Sharding.{ShardingModel, Around}
use Rattle.ak_sharding.specs.Packets as packets
use Rattle.ak_sharding.specs.Alive.{AreHosted, KeepsEntities}
use Rattle.ak_sharding.proofs.EntityHosts.{tells_starts, on_offer_keeps}
use Rattle.ak_sharding.proofs.EntityPackets.{on_shard_message_keeps}
use Rattle.ak_wire.specs.declared.action.Action.{Action}
use Rattle.ak_wire.specs.declared.action.Action.TheVariants as action
use Rattle.ak_wire.specs.declared.envelope.Message.{Message}
use Rattle.ak_wire.specs.declared.envelope.Message.TheVariants as message
use Rattle.ak_node.specs.declared.node.State.{State}
use Rattle.ak_node.specs.declared.node.NodeEvent.{NodeEvent}
use Rattle.ak_node.specs.declared.node.NodeEvent.TheVariants as event
use Rattle.ak_node.specs.Node.{offer, on_shards, around, shards_do, forgets, Outcome, me_of, is_member, is_gone, nothing, and_then, on_message, rule, if_so, due, closes, activates, concludes, is_dead, running_step, step, is_entity_at}
use Rattle.ak_node.proofs.StepAlive.{Alive, concluded_well}
use Rattle.ak_node.proofs.StepChanges.{step_is}
use Rattle.ak_node.proofs.StepQuiet.{Quiet, quiet_found, quiet_join, quiet_ticking, quiet_left, quiet_downed, quiet_stop, quiet_heard, quiet_activated}

-- ---- no action of the closing starts an entity
abbrev StartsNone : List Action → Type 0
StartsNone actions = (who : List ℕ) → Contains actions (action.Entity who) → ⊥

-- an action that starts none
abbrev is_start : Action → Bool
is_start (action.Entity who) = true
is_start other = false

none_of : StartsNone []
none_of who there = contains_nothing _ there

none_first : (a : Action) (actions : List Action) → is_start a ≡ false → StartsNone actions → StartsNone (a ∷ actions)
none_first a actions is rest who there = elim (first_or_rest a (action.Entity who) actions there) [
  | inl same ↦ true≢false (ap is_start same ∙ is)
  | inr later ↦ rest who later
]

none_both : (a b : List Action) → StartsNone a → StartsNone b → StartsNone (a ++ b)
none_both a b x y who there = elim (contains_either a b (action.Entity who) there) [ inl one ↦ x who one | inr other ↦ y who other ]

none_so : (b : Bool) (a : Action) → is_start a ≡ false → StartsNone (if_so b a)
none_so true a is = none_first a [] is none_of
none_so false a is = none_of

none_due : (c : Closing) → StartsNone (due c)
none_due c =
    none_both (if_so c.viewed action.View ++ if_so c.stopped action.Stopped) (if_so c.settled action.Settled)
    (none_both (if_so c.viewed action.View) (if_so c.stopped action.Stopped) (none_so c.viewed action.View refl) (none_so c.stopped action.Stopped refl))
    (none_so c.settled action.Settled refl)

none_concluded : (n : State) → StartsNone (concludes n).1
none_concluded n =
    none_both (closes n).1 (activates (forgets (closes n).0)).1 (none_due (closing.close (not n.runs) n.membership).1)
    (tells_starts (activates (forgets (closes n).0)).1 (quiet_activated _ (forgets (closes n).0)).tells)

-- ---- an entity that is told to start is kept active
module _ (x : List ℕ) where
  abbrev Started : State → Outcome → Type 0
  Started n o = Contains o.1 (action.Entity x) → Alive x o.0.sharding × (o.0.membership ≡ n.membership) × (o.0.runs ≡ n.runs)

  started_none : (n : State) (o : Outcome) → Quiet n o → Started n o
  started_none n o q there = absurd (tells_starts o.1 q.tells x there)

  work_started : (work : Around → ShardingModel → sharding.Outcome) (n : State) → KeepsEntities n.sharding (work (around n) n.sharding) → Started n (shards_do work n)
  work_started work n k there = ((k.hosted, k.started x there), refl, refl)

  packet_started : (from : UniqueModel) (what : Message) (n : State) → AreHosted n.sharding → Started n (on_shards from what n)
  packet_started from what n all = by_member (is_member n)
    where
      by_member : (b : Bool) → Started n (if b then shards_do (λ a s. packets.on_shard_message a from what s) n else nothing n)
      by_member true there = work_started (λ a s. packets.on_shard_message a from what s) n (on_shard_message_keeps (around n) n.sharding all from what) there
      by_member false there = absurd (contains_nothing _ there)

  offer_started : (id : List ℕ) (payload : ℕ) (n : State) → AreHosted n.sharding → Started n (offer id payload n)
  offer_started id payload n all there = work_started (λ a s. hosts.on_offer a id payload s) n (on_offer_keeps (around n) id payload n.sharding all) there

  started_if : (b : Bool) (n : State) (o : Outcome) → Started n o → Started n (if b then o else nothing n)
  started_if true n o started there = started there
  started_if false n o started there = absurd (contains_nothing _ there)

  told_started : (from : UniqueModel) (m : Message) (n : State) → AreHosted n.sharding → Started n (on_message from m n)
  told_started from (message.GetHome b shard) n all = packet_started from (message.GetHome b shard) n all
  told_started from (message.Home b shard owner) n all = packet_started from (message.Home b shard owner) n all
  told_started from (message.HostShard b shard number) n all = packet_started from (message.HostShard b shard number) n all
  told_started from (message.ShardStarted b shard number) n all = packet_started from (message.ShardStarted b shard number) n all
  told_started from (message.BeginHandOff b shard number) n all = packet_started from (message.BeginHandOff b shard number) n all
  told_started from (message.BeginHandOffAck b shard number) n all = packet_started from (message.BeginHandOffAck b shard number) n all
  told_started from (message.HandOff b shard number) n all = packet_started from (message.HandOff b shard number) n all
  told_started from (message.ShardStopped b shard number) n all = packet_started from (message.ShardStopped b shard number) n all
  told_started from (message.Forward id payload) n all = started_if (is_entity_at id n) n (on_shards from (message.Forward id payload) n) (packet_started from (message.Forward id payload) n all)
  told_started from (message.Offer id payload) n all = started_if (is_entity_at id n) n (offer id payload n) (offer_started id payload n all)
  told_started from other n all = started_none n (on_message from other n) (quiet_heard from other n refl)

  rule_started : (e : NodeEvent) (n : State) → AreHosted n.sharding → Started n (rule e n)
  rule_started event.Found n all = started_none n (rule event.Found n) (quiet_found n)
  rule_started (event.Join target) n all = started_none n (rule (event.Join target) n) (quiet_join target n)
  rule_started (event.Tick word) n all = started_none n (rule (event.Tick word) n) (quiet_ticking word n)
  rule_started (event.Packet p) n all = told_started p.from p.message n all
  rule_started (event.Leave who) n all = started_none n (rule (event.Leave who) n) (quiet_left who n)
  rule_started (event.Down who) n all = started_none n (rule (event.Down who) n) (quiet_downed who n)
  rule_started (event.Offer id payload) n all = offer_started id payload n all
  rule_started event.Stop n all = started_none n (rule event.Stop n) (quiet_stop n)

  -- a node that runs and is not gone runs after it
  abbrev After : State → Outcome → Type 0
  After n o = Contains o.1 (action.Entity x) → Alive x o.0.sharding × IsTrue o.0.runs

  running_started : (e : NodeEvent) (n : State) → AreHosted n.sharding → IsTrue n.runs → is_gone n ≡ false → After n (running_step e n)
  running_started e n all runs stays = by_dead (is_dead (me_of n) e)
    where
      by_dead : (b : Bool) → After n (if b then (n, action.Dead ∷ []) else and_then concludes (rule e n))
      by_dead true there = absurd (none_first action.Dead [] refl none_of x there)
      by_dead false there = elim (contains_either (rule e n).1 (concludes (rule e n).0).1 (action.Entity x) there) [
        | inl ruled ↦
            let w = rule_started e n all ruled in
            (concluded_well x (rule e n).0 w.0, (λ i. not (not ((w.2 ∙ runs) i) || (ap membership.is_gone w.1 ∙ stays) i)))
        | inr closed ↦ absurd (none_concluded (rule e n).0 x closed)
      ]

  pub step_started : (e : NodeEvent) (n : State) → IsTrue n.runs → AreHosted n.sharding → is_gone n ≡ false → Contains (step e n).1 (action.Entity x) → Alive x (step e n).0.sharding × IsTrue (step e n).0.runs
  step_started e n runs all stays there =
      subst (λ (o : Outcome). Alive x o.0.sharding × IsTrue o.0.runs) (sym (step_is e n runs)) (running_started e (record n { steps = n.steps + 1 }) all runs stays (subst (λ (o : Outcome). Contains o.1 (action.Entity x)) (step_is e n runs) there))
