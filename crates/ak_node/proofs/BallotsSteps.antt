-- Each step of a node keeps its ballots, its versions and what it keeps of the shards in their ranges.
use Rattle.std.proofs.Common.{◌≡◌, ℕ, ◌+◌, ◌≤◌, ◌<◌, ◌^◌, List, length, arith, Bool, true, false, not, ◌&&◌, if◌then◌else◌, [], ◌∷◌, Option, Some, None, is_some, Result, Ok, Err, IsTrue, refl, sym, ap, ◌∙◌, subst, true≢false}
use Rattle.std.specs.FinMap as map
use Rattle.ak_address.specs.Unique.{AddressModel, UniqueModel, IsUnique, unique_cmp}
use Rattle.ak_address.proofs.TableLaws.{get-empty, entries-empty}
use Rattle.ak_gossip.specs.Gossip.{GossipState, IsGossip, is_known}
use Rattle.ak_member.specs.declared.status.Status.{Status}
use Rattle.ak_member.specs.Standing.{is_exiting, is_member_with}
use Rattle.ak_membership.specs.declared.change.MemberFault.{MemberFault}
use Rattle.ak_membership.specs.Membership as membership
use Rattle.ak_membership.specs.Closing.{notes}
use Rattle.ak_membership.specs.Knowledge.{nothing_given}
use Rattle.ak_membership.specs.Tick as ticks
use Rattle.ak_membership.proofs.MembershipLemmas.{waits_version, waits_standings}
use Rattle.ak_membership.proofs.Walk.{tick_learns}
use Rattle.ak_promise.specs.Promise.{is_some_ballot}
use Rattle.ak_settings.specs.Settings.{SettingsModel}
use Rattle.ak_address.proofs.UniquesLaws.{has-no_one}
use Rattle.ak_field.specs.Ranges.{IsEntity}
use Rattle.ak_promise.specs.Ballot.{BallotModel, IsBallot}
use Rattle.ak_sharding.specs.Coordinates as coordinates
use Rattle.ak_sharding.specs.Hosts as hosts
use Rattle.ak_sharding.specs.Packets as packets
use Rattle.ak_sharding.specs.Sharding as sharding
use Rattle.ak_sharding.specs.Sharding.{ShardingModel, Around}
use Rattle.ak_sharding.specs.Ranges.{IfThere, InRange, AroundInRange, GoesWell}
use Rattle.ak_sharding.proofs.RangesKept.{offer_in, forgets_in}
use Rattle.ak_sharding.proofs.TableRanges.{coordinates_in}
use Rattle.ak_sharding.proofs.ShardRanges.{told_in, message_in, tabled_in, begins_if_in, learns_if_in, ended_in}
use Rattle.ak_settled.specs.Settled.{unsettled, version_of, standings_of, after_note}
use Rattle.ak_settled.specs.SettledView.{SettledModel}
use Rattle.ak_singleton.specs.Singleton.{unasked, is_first_grant, is_outdone, may_activate}
use Rattle.ak_wire.specs.Datagram.{IsBody}
use Rattle.ak_wire.specs.declared.envelope.Message.{Message}
use Rattle.ak_wire.specs.declared.envelope.Message.TheVariants as message
use Rattle.ak_wire.specs.declared.action.Action.TheVariants as action
use Rattle.ak_node.specs.declared.node.State.{State}
use Rattle.ak_node.specs.declared.node.NodeEvent.{NodeEvent}
use Rattle.ak_node.specs.declared.node.NodeEvent.TheVariants as event
use Rattle.ak_node.specs.Node as node
use Rattle.ak_node.specs.Node.{Outcome, known, me_of, settled_of, margin_of, is_member, is_gone, nothing, and_then, started, does, does_for, unless_refused, leave, down, asks_at, exits, gossips_to, status_of, asks_as, ends_phase, around, shards_do, offer, on_shards, takes, rest, may_leave, leaves, forgets, rule_on, is_over_here, is_asked, takes_grant, has_handed_over, goes_on, on_message, rule, closes, concludes, is_dead, running_step, step, is_entity_at}
use Rattle.ak_node.specs.Sends.{KnowsProcesses, IsProcess, IsCounted, KeepsBallots, KeepsSettled, KeepsShards, IsSaid}
use Rattle.ak_node.proofs.NamesKept.{step_names}
use Rattle.ak_node.proofs.BallotsKept.{counted_empty, short_counted, known_fits, released_kept, asked_kept, granted_kept, rule_kept, old_kept, ended_kept, active_kept, settled_alike}
use Rattle.ak_node.proofs.NodeLemmas.{rule_settled}
use Rattle.ak_node.proofs.StepChanges.{rule_changes, step_is}

abbrev pub Keeps : State → Type 0
Keeps n = KeepsBallots n.singleton × KeepsShards n

abbrev pub Kept : Outcome → Type 0
Kept o = Keeps o.0

kept_if : (b : Bool) (o p : Outcome) → (b ≡ true → Kept o) → Kept p → Kept (if b then o else p)
kept_if true o p x y = x refl
kept_if false o p x y = y

-- what the rules of shards read of the node
pub around_in : (n : State) → IsUnique (me_of n) → KeepsBallots n.singleton → AroundInRange (around n)
around_in n me k = record { me = me; last = there n.singleton.promise.last k.last; live = there n.singleton.live k.live; granted = k.granted }
  where
    there : (o : Option BallotModel) → ((b : BallotModel) → o ≡ Some b → IsBallot b) → IfThere IsBallot o
    there None is = tt
    there (Some b) is = is b refl

module _ (n : State) (me : IsUnique (me_of n)) (k : Keeps n) where
  unless_kept : (next : membership.Outcome → Outcome) (r : Result membership.Outcome MemberFault) → ((o : membership.Outcome) → (next o).0.singleton ≡ n.singleton) → ((o : membership.Outcome) → (next o).0.sharding ≡ n.sharding) → Kept (unless_refused next n r)
  unless_kept next (Ok o) same same_shards = (subst KeepsBallots (sym (same o)) k.0, subst InRange (sym (same_shards o)) k.1)
  unless_kept next (Err why) same same_shards = k

  asking_kept : (target : Option AddressModel) → Kept (asks_at target n)
  asking_kept None = k
  asking_kept (Some target) = k

  shards_kept : (work : Around → ShardingModel → sharding.Outcome) → GoesWell (work (around n) n.sharding) → Kept (shards_do work n)
  shards_kept work g = (k.0, g.0)

  packet_kept : (from : UniqueModel) (what : Message) → IsUnique from → IsBody what → Kept (on_shards from what n)
  packet_kept from what from_is body = kept_if (is_member n) _ (nothing n) (λ is. shards_kept (λ a s. packets.on_shard_message a from what s) (message_in (around n) (around_in n me k.0) n.sharding k.1 from from_is what body)) k

  offer_kept : (entity : List ℕ) (payload : ℕ) → IsEntity entity → payload < 2 ^ 64 → Kept (offer entity payload n)
  offer_kept entity payload e p = shards_kept (λ a s. hosts.on_offer a entity payload s) (offer_in (around n) (around_in n me k.0) n.sharding k.1 entity payload e p)

  module _ (ks : IsCounted (version_of (settled_of n))) where
    told_kept : (from : UniqueModel) (m : Message) → IsUnique from → IsBody m → Kept (on_message from m n)
    told_kept from message.Join from_is said = unless_kept (does_for from n) (membership.on_join from n.membership) (λ o. refl) (λ o. refl)
    told_kept from (message.Welcome g) from_is said = unless_kept (does_for from n) (membership.on_gossip g n.membership) (λ o. refl) (λ o. refl)
    told_kept from (message.Gossip g) from_is said = unless_kept (does_for from n) (membership.on_gossip g n.membership) (λ o. refl) (λ o. refl)
    told_kept from message.Heartbeat from_is said = kept_if (is_member n) _ (nothing n) (λ is. k) k
    told_kept from message.HeartbeatReply from_is said = kept_if (is_member n) _ (nothing n) (λ is. k) k
    told_kept from message.ExitingConfirmed from_is said = kept_if (is_member n) _ (nothing n) (λ is. k) k
    told_kept from (message.Ask b) from_is said = kept_if (is_asked from b n) _ (nothing n) (λ is. (asked_kept n.singleton k.0 b said (is_over_here n), k.1)) k
    told_kept from (message.Granted b floor reports) from_is said =
        kept_if (takes_grant from reports n) (nothing (takes from b floor reports n)) (nothing n)
        (λ is. (granted_kept n.singleton k.0 (is_first_grant from b n.singleton) from from_is floor, learns_if_in (is_first_grant from b n.singleton) (around n) from reports from_is (told_in None reports said.1.1.each) n.sharding k.1)) k
    told_kept from (message.Busy b held) from_is said = kept_if (is_member n && is_some_ballot n.singleton.live b) _ (nothing n) (λ is. k) k
    told_kept from (message.Old b last) from_is said = kept_if (is_member n) _ (nothing n) (λ is. (old_kept n.singleton k.0 b last said.0, begins_if_in (is_outdone b last n.singleton) (me_of n) me n.sharding k.1)) k
    told_kept from (message.HandOverToMe b) from_is said = kept_if (is_member n && has_handed_over b n) _ (nothing n) (λ is. k) k
    told_kept from (message.HandOverDone b floor) from_is said = kept_if (is_member n) _ (nothing n) (λ is. (released_kept n.singleton k.0 b floor (short_counted floor said.1), k.1)) k
    told_kept from (message.Release b floor) from_is said = kept_if (is_member n) _ (nothing n) (λ is. (released_kept n.singleton k.0 b floor (short_counted floor said.1), k.1)) k
    told_kept from (message.Leave who) from_is said = unless_kept (does n) (membership.leave who n.membership) (λ o. refl) (λ o. refl)
    told_kept from (message.Down who) from_is said = unless_kept (does n) (membership.down who n.membership) (λ o. refl) (λ o. refl)
    told_kept from (message.GetHome b shard) from_is said = packet_kept from (message.GetHome b shard) from_is said
    told_kept from (message.Home b shard owner) from_is said = packet_kept from (message.Home b shard owner) from_is said
    told_kept from (message.HostShard b shard number) from_is said = packet_kept from (message.HostShard b shard number) from_is said
    told_kept from (message.ShardStarted b shard number) from_is said = packet_kept from (message.ShardStarted b shard number) from_is said
    told_kept from (message.BeginHandOff b shard number) from_is said = packet_kept from (message.BeginHandOff b shard number) from_is said
    told_kept from (message.BeginHandOffAck b shard number) from_is said = packet_kept from (message.BeginHandOffAck b shard number) from_is said
    told_kept from (message.HandOff b shard number) from_is said = packet_kept from (message.HandOff b shard number) from_is said
    told_kept from (message.ShardStopped b shard number) from_is said = packet_kept from (message.ShardStopped b shard number) from_is said
    told_kept from (message.Forward entity payload) from_is said = kept_if (is_entity_at entity n) _ (nothing n) (λ is. packet_kept from (message.Forward entity payload) from_is said) k
    told_kept from (message.Offer entity payload) from_is said = kept_if (is_entity_at entity n) _ (nothing n) (λ is. offer_kept entity payload said.0 said.1) k

gossiping_kept : (x : State) (to : Option UniqueModel) → Keeps x → Kept (gossips_to to x)
gossiping_kept x None kept = kept
gossiping_kept x (Some to) kept = kept

module _ (n : State) (me : IsUnique (me_of n)) (k : Keeps n) (ks : IsCounted (version_of (settled_of n))) where
  pub status_kept : (status : Option Status) → Kept (asks_as status n)
  status_kept None = k
  status_kept (Some status) = (rule_kept n.singleton k.0 (me_of n) me (settled_of n) ks status (margin_of n), tabled_in (rule_on status n) (me_of n) me n.sharding k.1)

  rest_kept : (word : ℕ) → Kept (rest word n)
  rest_kept word =
      let a = (asks_as (status_of n) n).0 in
      let b = (shards_do coordinates.coordinates a).0 in
      let c = (shards_do hosts.asks_homes b).0 in
      let x = status_kept (status_of n) in
      let y : Keeps b = (x.0, (coordinates_in (around a) (around_in a (me_then (status_of n)) x.0) a.sharding x.1).0) in
      gossiping_kept c (ticks.gossip_peer word c.membership) y
    where
      me_then : (status : Option Status) → IsUnique (me_of (asks_as status n).0)
      me_then None = me
      me_then (Some status) = me

  pub end_kept : Kept (ends_phase n)
  end_kept = (ended_kept n.singleton k.0 (settled_of n) ks, ended_in n.singleton.phase n.sharding k.1)

goes_kept : (n : State) → IsUnique (me_of n) → Keeps n → IsCounted (version_of (settled_of n)) → (word : ℕ) → Kept (goes_on word n)
goes_kept n me k ks word =
    let x = (ends_phase n).0 in
    let ended = end_kept n me k ks in
    kept_if (is_gone n) (nothing n) _ (λ is. k)
    (kept_if (is_member_with is_exiting (known n).view.standings (me_of n)) (and_then (leaves word) (ends_phase n)) (rest word n)
    (λ is. kept_if (may_leave x) (exits x) (rest word x) (λ is. ended) (rest_kept x me ended ks word))
    (rest_kept n me k ks word))

rule_keeps : (e : NodeEvent) (n : State) → IsSaid e → IsUnique (me_of n) → Keeps n → IsCounted (version_of (settled_of n)) → Kept (rule e n)
rule_keeps event.Found n said me k ks = k
rule_keeps (event.Join target) n said me k ks = kept_if (is_member n) (nothing n) _ (λ is. k) k
rule_keeps (event.Tick word) n said me k ks =
    let t = ticks.tick n.membership in
    let after : State = record n { membership = t.0 } in
    let l = tick_learns nothing_given n.membership in
    kept_if (is_member n) (and_then (goes_on word) (node.ticked n t)) (asks_at n.membership.target n)
    (λ is. goes_kept after (subst IsUnique (sym l.same_me) me) k (subst IsCounted (sym (waits_version (margin_of n) n.membership.settled after.membership.settled l.waits_on)) ks) word)
    (asking_kept n me k n.membership.target)
rule_keeps (event.Packet p) n said me k ks = told_kept n me k ks p.from p.message said.from said.body
rule_keeps (event.Leave who) n said me k ks = unless_kept n me k (does n) (membership.leave who n.membership) (λ o. refl) (λ o. refl)
rule_keeps (event.Down who) n said me k ks = unless_kept n me k (does n) (membership.down who n.membership) (λ o. refl) (λ o. refl)
rule_keeps (event.Offer entity payload) n said me k ks = offer_kept n me k entity payload said.0 said.1
rule_keeps event.Stop n said me k ks = k

-- homes that are no members are forgotten
forgets_keeps : (n : State) → IsUnique (me_of n) → Keeps n → Keeps (forgets n)
forgets_keeps n me k = (k.0, by_runs n.runs)
  where
    by_runs : (b : Bool) → InRange (if b then (hosts.forgets (around n) n.sharding).0 else n.sharding)
    by_runs true = (forgets_in (around n) (around_in n me k.0) n.sharding k.1).0
    by_runs false = k.1

-- the closing: what is noted is what is known
closes_keeps : (m : State) → KnowsProcesses m → IsGossip (known m) → KeepsSettled m → KeepsSettled (closes m).0
closes_keeps m names gossip ks = by_notes (notes (not m.runs) m.membership) refl
  where
    by_notes : (b : Bool) → notes (not m.runs) m.membership ≡ b → KeepsSettled (closes m).0
    by_notes false is =
        let same : (closes m).0.membership.settled ≡ m.membership.settled = ap (λ b. if b then after_note (known m).version (known m).view.standings m.membership.settled else m.membership.settled) is in
        settled_alike m (closes m).0 (ap (λ (x : SettledModel). version_of x.view) same) (ap (λ (x : SettledModel). standings_of x.view) same) ks
    by_notes true is =
        let new : (closes m).0.membership.settled ≡ after_note (known m).version (known m).view.standings m.membership.settled = ap (λ b. if b then after_note (known m).version (known m).view.standings m.membership.settled else m.membership.settled) is in
        let fits = known_fits (known m) gossip names in
        record {
          version = subst (λ (x : SettledModel). IsCounted (version_of x.view)) (sym new) fits.0;
          few = subst (λ (x : SettledModel). map.len (version_of x.view) ≤ 128) (sym new) fits.1;
          processes = λ who is_there. names who (subst (λ (x : SettledModel). IsTrue (is_known (standings_of x.view) who)) new is_there);
        }

-- what a step leaves
pub record Leaves (n : State) : Type 0 where
  pub ballots : KeepsBallots n.singleton
  pub settled : KeepsSettled n
  pub shards : KeepsShards n

pub step_leaves : (e : NodeEvent) (n : State) → IsSaid e → IsProcess n → KeepsBallots n.singleton → KeepsSettled n → KeepsShards n → KnowsProcesses (step e n).0 → IsGossip (known (step e n).0) → Leaves (step e n).0
step_leaves e n said is k ks kh names gossip = by_runs n.runs refl
  where
    x : State
    x = record n { steps = n.steps + 1 }

    runs_leave : (b : Bool) → KnowsProcesses (if b then (x, action.Dead ∷ []) else and_then concludes (rule e x)).0 → IsGossip (known (if b then (x, action.Dead ∷ []) else and_then concludes (rule e x)).0) → Leaves (if b then (x, action.Dead ∷ []) else and_then concludes (rule e x)).0
    runs_leave true names gossip = record { ballots = k; settled = settled_alike n x refl refl ks; shards = kh }
    runs_leave false names gossip =
        let m = (rule e x).0 in
        let c = forgets (closes m).0 in
        let kept = forgets_keeps (closes m).0 (subst IsUnique (sym (rule_changes e x).same_me) is.me) (rule_keeps e x said is.me (k, kh) ks.version) in
        let settled_m : KeepsSettled m = settled_alike n m (waits_version (margin_of n) n.membership.settled m.membership.settled (rule_settled x e)) (waits_standings (margin_of n) n.membership.settled m.membership.settled (rule_settled x e)) ks in
        let closed = closes_keeps m names gossip settled_m in
        record {
          ballots = active_kept m.singleton kept.0 (c.runs && may_activate (me_of c) (settled_of c) (margin_of c) c.singleton);
          settled = settled_alike (closes m).0 (concludes m).0 refl refl closed;
          shards = kept.1;
        }

    by_runs : (b : Bool) → n.runs ≡ b → Leaves (step e n).0
    by_runs true runs =
        subst (λ (o : Outcome). Leaves o.0) (sym (step_is e n runs))
        (runs_leave (is_dead (me_of x) e) (subst (λ (o : Outcome). KnowsProcesses o.0) (step_is e n runs) names) (subst (λ (o : Outcome). IsGossip (known o.0)) (step_is e n runs) gossip))
    by_runs false stopped = subst (λ b. Leaves (if b then running_step e x else nothing n).0) (sym stopped) (record { ballots = k; settled = ks; shards = kh })

-- what a call leaves, and one that ran out of memory
pub call_leaves : (e : NodeEvent) (n s : State) (g : GossipState) → IsSaid e → KnowsProcesses n → IsProcess n → KeepsBallots n.singleton → KeepsSettled n → KeepsShards n → s ≡ (step e n).0 → g ≡ known s → IsGossip g → Leaves s
call_leaves e n s g said names is k ks kh state same gossip =
    subst Leaves (sym state) (step_leaves e n said is k ks kh (step_names e n said is names) (subst IsGossip (same ∙ ap known state) gossip))

-- a process that knows nothing, whatever range of shards it has
none_kept : (me : UniqueModel) (settings : SettingsModel) → KeepsBallots unasked × KeepsSettled (started me settings)
none_kept me settings = (
  record { last = λ b none. absurd (true≢false (sym (ap is_some none))); live = λ b none. absurd (true≢false (sym (ap is_some none))); floor = counted_empty; granted = λ who is. absurd (true≢false (sym is ∙ has-no_one who)) },
  record { version = counted_empty; few = empty_few; processes = λ who there. absurd (true≢false (sym there ∙ ap is_some (get-empty who))) },
)
  where
    empty_few : map.len (map.empty {X = ℕ} {R = unique_cmp}) ≤ 128
    empty_few = subst (λ k. k ≤ 128) (sym (map.len-entries (map.empty {X = ℕ} {R = unique_cmp}) ∙ ap length (entries-empty {X = ℕ}))) (omega arith)

pub forgets_keeping : (n : State) → n.membership.settled ≡ unsettled → n.singleton ≡ unasked → KeepsShards n → Leaves n
forgets_keeping n none single shards =
    let kept = none_kept n.membership.me n.membership.settings in
    record {
      ballots = subst KeepsBallots (sym single) kept.0;
      settled = settled_alike (started n.membership.me n.membership.settings) n (ap (λ (x : SettledModel). version_of x.view) none) (ap (λ (x : SettledModel). standings_of x.view) none) kept.1;
      shards = shards;
    }
