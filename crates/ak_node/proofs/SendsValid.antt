-- What a node sends is valid: it goes to processes that the node knows or hears from, or to the address that it joins through.
use Rattle.std.proofs.Common.{◌≡◌, ℕ, Bool, true, false, inl, inr, if◌then◌else◌, List, [], ◌∷◌, ◌++◌, Option, Some, None, is_some, not, ◌+◌, ◌≤◌, ◌<◌, ◌^◌, ◌&&◌, Result, Ok, Err, IsTrue, Contains, refl, sym, ap, ◌∙◌, subst, true≢false, arith}
use Rattle.std.proofs.lemmas.Option.{same_Some}
use Rattle.std.proofs.lemmas.Bool.{leb-true}
use Rattle.std.specs.FinMap as finmap
use Rattle.ak_address.specs.Changed.{keys_of}
use Rattle.std.specs.Ordering.{is_eq}
use Rattle.std.specs.Cmp.{second_so}
use Rattle.ak_address.specs.Unique.{AddressModel, UniqueModel, IsAddress, IsUnique, unique_cmp}
use Rattle.ak_address.specs.Uniques.{UniqueSet, in_order}
use Rattle.ak_address.proofs.ChangedLaws.{has-keys_of}
use Rattle.ak_address.proofs.Elements.{contains_nothing, contains_either, contains_first, contains_rest, first_or_rest, in_map, index_of}
use Rattle.ak_address.proofs.TableLaws.{get-empty}
use Rattle.ak_address.proofs.UniquesLaws.{has_at}
use Rattle.ak_detector.proofs.DetectorLaws.{ticked_same}
use Rattle.ak_gossip.specs.Gossip.{GossipState, IsGossip, is_known, nothing_known}
use Rattle.ak_gossip.proofs.InvariantLemmas.{member_known}
use Rattle.ak_member.specs.declared.effect.Effect.{Effect}
use Rattle.ak_member.specs.declared.effect.Effect.TheVariants.{Observed}
use Rattle.ak_leader.specs.Leader.{leaders_effects, founding_effects, weak_effects}
use Rattle.ak_member.specs.Standing as standing
use Rattle.ak_member.specs.Standing.{Standings, is_exiting, is_member_with}
use Rattle.ak_membership.specs.declared.change.MemberFault.{MemberFault}
use Rattle.ak_membership.specs.declared.change.Reply.{Reply}
use Rattle.ak_membership.specs.declared.change.Reply.TheVariants as reply
use Rattle.ak_membership.specs.declared.state.MembershipState.{MembershipState}
use Rattle.ak_membership.specs.Membership as membership
use Rattle.ak_membership.specs.Membership.{made, update, update_any, unchanged, may_count}
use Rattle.ak_membership.specs.Tick as ticks
use Rattle.ak_membership.specs.Tick.{gossip_peer}
use Rattle.ak_membership.specs.Closing.{is_viewed, stops, notes}
use Rattle.ak_member.specs.Age.{counted_pairs}
use Rattle.ak_select.specs.Select.{peer}
use Rattle.ak_select.proofs.SelectLaws.{peer_reachable}
use Rattle.ak_clock.specs.Version.{Counts}
use Rattle.ak_member.specs.declared.status.Status.{Status}
use Rattle.ak_membership.specs.Knowledge.{nothing_given}
use Rattle.ak_membership.proofs.MembershipLemmas.{waits_version, waits_standings}
use Rattle.ak_membership.proofs.Walk.{tick_learns}
use Rattle.ak_promise.specs.declared.promise.Answer.{Answer}
use Rattle.ak_promise.specs.declared.promise.Answer.TheVariants as given
use Rattle.ak_promise.specs.Ballot.{BallotModel, IsBallot}
use Rattle.ak_promise.specs.Promise.{is_some_ballot, released_by}
use Rattle.ak_settled.specs.Settled.{version_of}
use Rattle.ak_singleton.specs.declared.phase.Phase.{Phase}
use Rattle.ak_singleton.specs.declared.phase.Phase.TheVariants as phase
use Rattle.ak_singleton.specs.declared.phase.Steps.{Steps}
use Rattle.ak_singleton.specs.declared.phase.TickRule.{TickRule}
use Rattle.ak_singleton.specs.declared.phase.TickRule.TheVariants as rules
use Rattle.ak_singleton.specs.Singleton.{only, steps_of, active_term, may_activate}
use Rattle.ak_wire.specs.declared.envelope.Envelope.{Envelope}
use Rattle.ak_wire.specs.declared.envelope.Message.{Message}
use Rattle.ak_wire.specs.declared.envelope.Message.TheVariants as message
use Rattle.ak_wire.specs.declared.action.Action.{Action}
use Rattle.ak_wire.specs.declared.action.Action.TheVariants as action
use Rattle.ak_wire.specs.Wire.{sent, gossip_of}
use Rattle.ak_wire.specs.Datagram.{IsSendable, IsValid, IsBody}
use Rattle.ak_wire.proofs.Sending.{sent-append}
use Rattle.ak_node.specs.declared.node.State.{State}
use Rattle.ak_node.specs.declared.node.NodeEvent.{NodeEvent}
use Rattle.ak_node.specs.declared.node.NodeEvent.TheVariants as event
use Rattle.ak_node.specs.Node as node
use Rattle.ak_node.specs.Node.{Outcome, known, me_of, settled_of, margin_of, reports_of, status_of, floor_of, most_in_version, fits_packet, is_grantable, promising, told_of, told_its_own, told_to_each, releases, needed_others, rule_on, does_rule, asks_as, told_end, let_go, ends_phase, told_active, becomes_active, activates, is_asked, answers_ask, takes_grant, has_handed_over, gossips, concludes, is_member, is_gone, nothing, and_then, to_process, to_each, update_by, answer, does, does_for, unless_refused, number_of, asks_at, counted_members, exits, gossips_to, around, shards_do, offer, on_shards, takes, rest, may_leave, leaves, forgets, goes_on, ends, beats, ticked, tick, on_message, rule, closes, is_dead, running_step, step, is_entity_at}
use Rattle.ak_node.specs.NodeContracts.{IsNode}
use Rattle.ak_node.specs.Sends.{AreValid, KnowsProcesses, IsTarget, IsProcess, KeepsBallots, KeepsSettled, KeepsShards, IsSaid}
use Rattle.ak_field.specs.Ranges.{IsEntity}
use Rattle.ak_sharding.specs.Coordinates as coordinates
use Rattle.ak_sharding.specs.Hosts as hosts
use Rattle.ak_sharding.specs.Packets as packets
use Rattle.ak_sharding.specs.Sharding as sharding
use Rattle.ak_sharding.specs.Sharding.{ShardingModel, Around}
use Rattle.ak_sharding.specs.Ranges.{AllOf, IsSentWell, GoesWell}
use Rattle.ak_sharding.proofs.RangesKept.{offer_in}
use Rattle.ak_sharding.proofs.TableRanges.{coordinates_in}
use Rattle.ak_sharding.proofs.ShardRanges.{message_in, asks_homes_in}
use Rattle.ak_sharding.proofs.ReportRanges.{reports_spelled}
use Rattle.ak_node.proofs.NamesKept.{step_names}
use Rattle.ak_node.proofs.BallotsSteps.{around_in, status_kept, end_kept}
use Rattle.ak_node.proofs.BallotsKept.{counted_merged, counted_short, rule_kept, settled_alike, needed_process, nobody_there}
use Rattle.ak_node.proofs.CountedPairs.{counted_have}
use Rattle.ak_node.proofs.StepChanges.{ended_sent, due_sent, goes_quiet, step_changes, step_is}

-- ---- where a packet goes
abbrev GoesTo : Message → AddressModel → ℕ → Type 0
GoesTo message.Join to uid = (uid ≡ 0) × IsAddress to
GoesTo (message.Welcome g) to uid = IsUnique (record { address = to; uid = uid })
GoesTo (message.Gossip g) to uid = IsUnique (record { address = to; uid = uid })
GoesTo message.Heartbeat to uid = IsUnique (record { address = to; uid = uid })
GoesTo message.HeartbeatReply to uid = IsUnique (record { address = to; uid = uid })
GoesTo message.ExitingConfirmed to uid = IsUnique (record { address = to; uid = uid })
GoesTo (message.Ask b) to uid = IsUnique (record { address = to; uid = uid }) × IsBody (message.Ask b)
GoesTo (message.Granted b floor reports) to uid = IsUnique (record { address = to; uid = uid }) × IsBody (message.Granted b floor reports)
GoesTo (message.Busy b held) to uid = IsUnique (record { address = to; uid = uid }) × IsBody (message.Busy b held)
GoesTo (message.Old b last) to uid = IsUnique (record { address = to; uid = uid }) × IsBody (message.Old b last)
GoesTo (message.HandOverToMe b) to uid = IsUnique (record { address = to; uid = uid }) × IsBody (message.HandOverToMe b)
GoesTo (message.HandOverDone b floor) to uid = IsUnique (record { address = to; uid = uid }) × IsBody (message.HandOverDone b floor)
GoesTo (message.Release b floor) to uid = IsUnique (record { address = to; uid = uid }) × IsBody (message.Release b floor)
GoesTo (message.GetHome b shard) to uid = IsUnique (record { address = to; uid = uid }) × IsBody (message.GetHome b shard)
GoesTo (message.Home b shard owner) to uid = IsUnique (record { address = to; uid = uid }) × IsBody (message.Home b shard owner)
GoesTo (message.HostShard b shard number) to uid = IsUnique (record { address = to; uid = uid }) × IsBody (message.HostShard b shard number)
GoesTo (message.ShardStarted b shard number) to uid = IsUnique (record { address = to; uid = uid }) × IsBody (message.ShardStarted b shard number)
GoesTo (message.BeginHandOff b shard number) to uid = IsUnique (record { address = to; uid = uid }) × IsBody (message.BeginHandOff b shard number)
GoesTo (message.BeginHandOffAck b shard number) to uid = IsUnique (record { address = to; uid = uid }) × IsBody (message.BeginHandOffAck b shard number)
GoesTo (message.HandOff b shard number) to uid = IsUnique (record { address = to; uid = uid }) × IsBody (message.HandOff b shard number)
GoesTo (message.ShardStopped b shard number) to uid = IsUnique (record { address = to; uid = uid }) × IsBody (message.ShardStopped b shard number)
GoesTo (message.Forward entity payload) to uid = IsUnique (record { address = to; uid = uid }) × IsBody (message.Forward entity payload)
GoesTo (message.Leave who) to uid = (uid ≡ 0) × (IsAddress to × IsBody (message.Leave who))
GoesTo (message.Down who) to uid = (uid ≡ 0) × (IsAddress to × IsBody (message.Down who))
GoesTo (message.Offer entity payload) to uid = (uid ≡ 0) × (IsAddress to × IsBody (message.Offer entity payload))

abbrev Goes : Envelope → Type 0
Goes p = GoesTo p.message p.to p.uid

abbrev AllGo : List Action → Type 0
AllGo actions = (p : Envelope) → Contains (sent actions) p → Goes p

valid_by : (m : Message) (from : UniqueModel) (to : AddressModel) (uid : ℕ) → IsUnique from → GoesTo m to uid → ((g : GossipState) → gossip_of m ≡ Some g → IsSendable g) → IsValid (record { from = from; to = to; uid = uid; message = m })
valid_by message.Join from to uid who goes carries = record { from = who; to = goes.1; uid = goes.0; body = tt }
valid_by (message.Welcome g) from to uid who goes carries = record { from = who; to = goes.address; uid = (goes.uid, goes.uid_fits); body = carries g refl }
valid_by (message.Gossip g) from to uid who goes carries = record { from = who; to = goes.address; uid = (goes.uid, goes.uid_fits); body = carries g refl }
valid_by message.Heartbeat from to uid who goes carries = record { from = who; to = goes.address; uid = (goes.uid, goes.uid_fits); body = tt }
valid_by message.HeartbeatReply from to uid who goes carries = record { from = who; to = goes.address; uid = (goes.uid, goes.uid_fits); body = tt }
valid_by message.ExitingConfirmed from to uid who goes carries = record { from = who; to = goes.address; uid = (goes.uid, goes.uid_fits); body = tt }
valid_by (message.Ask b) from to uid who goes carries = record { from = who; to = goes.0.address; uid = (goes.0.uid, goes.0.uid_fits); body = goes.1 }
valid_by (message.Granted b floor reports) from to uid who goes carries = record { from = who; to = goes.0.address; uid = (goes.0.uid, goes.0.uid_fits); body = goes.1 }
valid_by (message.Busy b held) from to uid who goes carries = record { from = who; to = goes.0.address; uid = (goes.0.uid, goes.0.uid_fits); body = goes.1 }
valid_by (message.Old b last) from to uid who goes carries = record { from = who; to = goes.0.address; uid = (goes.0.uid, goes.0.uid_fits); body = goes.1 }
valid_by (message.HandOverToMe b) from to uid who goes carries = record { from = who; to = goes.0.address; uid = (goes.0.uid, goes.0.uid_fits); body = goes.1 }
valid_by (message.HandOverDone b floor) from to uid who goes carries = record { from = who; to = goes.0.address; uid = (goes.0.uid, goes.0.uid_fits); body = goes.1 }
valid_by (message.Release b floor) from to uid who goes carries = record { from = who; to = goes.0.address; uid = (goes.0.uid, goes.0.uid_fits); body = goes.1 }
valid_by (message.GetHome b shard) from to uid sender goes carries = record { from = sender; to = goes.0.address; uid = (goes.0.uid, goes.0.uid_fits); body = goes.1 }
valid_by (message.Home b shard owner) from to uid sender goes carries = record { from = sender; to = goes.0.address; uid = (goes.0.uid, goes.0.uid_fits); body = goes.1 }
valid_by (message.HostShard b shard number) from to uid sender goes carries = record { from = sender; to = goes.0.address; uid = (goes.0.uid, goes.0.uid_fits); body = goes.1 }
valid_by (message.ShardStarted b shard number) from to uid sender goes carries = record { from = sender; to = goes.0.address; uid = (goes.0.uid, goes.0.uid_fits); body = goes.1 }
valid_by (message.BeginHandOff b shard number) from to uid sender goes carries = record { from = sender; to = goes.0.address; uid = (goes.0.uid, goes.0.uid_fits); body = goes.1 }
valid_by (message.BeginHandOffAck b shard number) from to uid sender goes carries = record { from = sender; to = goes.0.address; uid = (goes.0.uid, goes.0.uid_fits); body = goes.1 }
valid_by (message.HandOff b shard number) from to uid sender goes carries = record { from = sender; to = goes.0.address; uid = (goes.0.uid, goes.0.uid_fits); body = goes.1 }
valid_by (message.ShardStopped b shard number) from to uid sender goes carries = record { from = sender; to = goes.0.address; uid = (goes.0.uid, goes.0.uid_fits); body = goes.1 }
valid_by (message.Forward entity payload) from to uid sender goes carries = record { from = sender; to = goes.0.address; uid = (goes.0.uid, goes.0.uid_fits); body = goes.1 }
valid_by (message.Leave who) from to uid sender goes carries = record { from = sender; to = goes.1.0; uid = goes.0; body = goes.1.1 }
valid_by (message.Down who) from to uid sender goes carries = record { from = sender; to = goes.1.0; uid = goes.0; body = goes.1.1 }
valid_by (message.Offer entity payload) from to uid sender goes carries = record { from = sender; to = goes.1.0; uid = goes.0; body = goes.1.1 }

-- a packet with a spelling goes where it may
valid_goes : (m : Message) (from : UniqueModel) (to : AddressModel) (uid : ℕ) → IsValid (record { from = from; to = to; uid = uid; message = m }) → GoesTo m to uid
valid_goes message.Join from to uid v = (v.uid, v.to)
valid_goes (message.Welcome g) from to uid v = record { address = v.to; uid = v.uid.0; uid_fits = v.uid.1 }
valid_goes (message.Gossip g) from to uid v = record { address = v.to; uid = v.uid.0; uid_fits = v.uid.1 }
valid_goes message.Heartbeat from to uid v = record { address = v.to; uid = v.uid.0; uid_fits = v.uid.1 }
valid_goes message.HeartbeatReply from to uid v = record { address = v.to; uid = v.uid.0; uid_fits = v.uid.1 }
valid_goes message.ExitingConfirmed from to uid v = record { address = v.to; uid = v.uid.0; uid_fits = v.uid.1 }
valid_goes (message.Leave who) from to uid v = (v.uid, (v.to, v.body))
valid_goes (message.Down who) from to uid v = (v.uid, (v.to, v.body))
valid_goes (message.Offer entity payload) from to uid v = (v.uid, (v.to, v.body))
valid_goes other from to uid v = (record { address = v.to; uid = v.uid.0; uid_fits = v.uid.1 }, v.body)

-- ---- lists of actions
none_go : (actions : List Action) → sent actions ≡ [] → AllGo actions
none_go actions none p there = absurd (contains_nothing p (subst (λ l. Contains l p) none there))

both_go : (a b : List Action) → AllGo a → AllGo b → AllGo (a ++ b)
both_go a b first second p there = elim (contains_either (sent a) (sent b) p (subst (λ l. Contains l p) (sent-append a b) there)) [
  | inl before ↦ first p before
  | inr after ↦ second p after
]

-- what is sent of shards
sent_well : (actions : List Action) → AllOf IsSentWell actions → AllGo actions
sent_well [] w p there = absurd (contains_nothing p there)
sent_well (action.Send q ∷ actions) w p there = elim (first_or_rest q p (sent actions) there) [
  | inl same ↦ subst Goes (sym same) (valid_goes q.message q.from q.to q.uid w.0)
  | inr later ↦ sent_well actions w.1 p later
]
sent_well (other ∷ actions) w p there = sent_well actions w.1 p there

one_goes : (q : Envelope) → Goes q → AllGo (action.Send q ∷ [])
one_goes q goes p there = elim (first_or_rest q p [] there) [
  | inl is ↦ subst Goes (sym is) goes
  | inr none ↦ absurd (contains_nothing p none)
]

all_go : (n : State) (to : List UniqueModel) (what : Message) → ((u : UniqueModel) → IsUnique u → GoesTo what u.address u.uid) → ((u : UniqueModel) → Contains to u → IsUnique u) → AllGo (to_each n to what)
all_go n [] what goes names p there = absurd (contains_nothing p there)
all_go n (u ∷ to) what goes names p there = elim (first_or_rest (record { from = me_of n; to = u.address; uid = u.uid; message = what }) p (sent (to_each n to what)) there) [
  | inl is ↦ subst Goes (sym is) (goes u (names u (contains_first u to)))
  | inr later ↦ all_go n to what goes (λ v at. names v (contains_rest u v to at)) p later
]

go_if : (b : Bool) (x y : Outcome) → (b ≡ true → AllGo x.1) → (b ≡ false → AllGo y.1) → AllGo (if b then x else y).1
go_if true x y first second = first refl
go_if false x y first second = second refl

untold : (number : Option ℕ) (effects : List Effect) → sent (update_by number effects) ≡ []
untold None effects = refl
untold (Some number) effects = refl

update_goes : (n : State) (o : membership.Outcome) → AllGo (does n o).1
update_goes n o = none_go (update_by o.1.number o.1.effects) (untold o.1.number o.1.effects)

answer_goes : (r : Reply) (to : UniqueModel) (n : State) → IsUnique to → AllGo (answer r to n)
answer_goes reply.Nothing to n who = none_go [] refl
answer_goes reply.Welcome to n who = one_goes (record { from = me_of n; to = to.address; uid = to.uid; message = message.Welcome (known n) }) who
answer_goes reply.Gossip to n who = one_goes (record { from = me_of n; to = to.address; uid = to.uid; message = message.Gossip (known n) }) who

answered : (from : UniqueModel) (n : State) → IsUnique from → (o : membership.Outcome) → AllGo (does_for from n o).1
answered from n who o = both_go (does n o).1 (answer o.1.reply from (does n o).0) (update_goes n o) (answer_goes o.1.reply from (does n o).0 who)

unless_refused_goes : (next : membership.Outcome → Outcome) (n : State) (r : Result membership.Outcome MemberFault) → ((o : membership.Outcome) → AllGo (next o).1) → AllGo (unless_refused next n r).1
unless_refused_goes next n (Ok o) each = each o
unless_refused_goes next n (Err fault) each = none_go (action.Refused (number_of fault) ∷ []) refl

asks_go : (target : Option AddressModel) (n : State) → IsTarget target → AllGo (asks_at target n).1
asks_go None n is = none_go [] refl
asks_go (Some target) n is = one_goes (record { from = me_of n; to = target; uid = 0; message = message.Join }) (refl, is)

-- ---- a tick
-- whom the node watches stays through its update
abbrev Watches : MembershipState → membership.Outcome → Type 0
Watches m o = o.0.detector ≡ m.detector

watches_if : (m : MembershipState) (b : Bool) (x y : membership.Outcome) → Watches m x → Watches m y → Watches m (if b then x else y)
watches_if m true x y first second = first
watches_if m false x y first second = second

updated_watches : (m : MembershipState) (effects : List Effect) → Watches m (update effects m)
updated_watches m effects = watches_if m (may_count m) (made effects m) (unchanged m) refl refl

any_watches : (m : MembershipState) (effects : List Effect) → Watches m (update_any effects m)
any_watches m [] = refl
any_watches m (effect ∷ effects) = updated_watches m (effect ∷ effects)

module _ (m : MembershipState) where
  abbrev let_in : membership.Outcome
  let_in = if ticks.lets_in m then update_any (weak_effects m.gossip.view) m else unchanged m

  abbrev led : membership.Outcome
  led = if ticks.leads m then update_any (leaders_effects m.gossip.view m.confirmed) m else let_in

  abbrev founded : membership.Outcome
  founded = if ticks.founds m then update (founding_effects m.gossip.view.standings) m else led

  abbrev resolved : membership.Outcome
  resolved = if ticks.decides m then update (ticks.decided m) m else founded

  tick_watches : Watches m (ticks.updates m)
  tick_watches =
      watches_if m (ticks.observes m) (update (Observed (ticks.silent m) ∷ []) m) resolved (updated_watches m (Observed (ticks.silent m) ∷ []))
      (watches_if m (ticks.decides m) (update (ticks.decided m) m) founded (updated_watches m (ticks.decided m))
      (watches_if m (ticks.founds m) (update (founding_effects m.gossip.view.standings) m) led (updated_watches m (founding_effects m.gossip.view.standings))
      (watches_if m (ticks.leads m) (update_any (leaders_effects m.gossip.view m.confirmed) m) let_in (any_watches m (leaders_effects m.gossip.view m.confirmed))
      (watches_if m (ticks.lets_in m) (update_any (weak_effects m.gossip.view) m) (unchanged m) (any_watches m (weak_effects m.gossip.view)) refl))))

watched_then : (m : MembershipState) → membership.is_member m ≡ true → (who : UniqueModel) → finmap.contains_key (ticks.tick m).0.detector who ≡ finmap.contains_key m.detector who
watched_then m member who =
    ap (λ b. finmap.contains_key (if b then (ticks.counted (ticks.waited m) (ticks.updates m).0, (ticks.updates m).1) else unchanged m).0.detector who) member
    ∙ ticked_same (ticks.updates m).0.settings.deadline (ticks.updates m).0.detector who
    ∙ ap (λ c. finmap.contains_key c who) (tick_watches m)

known_of : (s : Standings) (who : UniqueModel) → IsTrue (standing.is_member s who) → IsTrue (is_known s who)
known_of s who member = member_known (finmap.get s who) member

counted_known : (n : State) (who : UniqueModel) → Contains (counted_members n) who → IsTrue (is_known (known n).view.standings who)
counted_known n who there =
    let s = (known n).view.standings in
    let pair = in_map (λ (pair : UniqueModel × ℕ). pair.0) (counted_pairs (standing.members_of s)) who there in
    let counted = counted_have s pair.0 pair.1 in
    subst (λ (u : UniqueModel). IsTrue (is_known s u)) (sym pair.2) (known_of s pair.0.0 (ap is_some counted.1))

peer_known : (word : ℕ) (m : MembershipState) (who : UniqueModel) → gossip_peer word m ≡ Some who → IsTrue (standing.is_member m.gossip.view.standings who)
peer_known word m who is = by_turn (ticks.gossips m) is
  where
    by_turn : (b : Bool) → (if b then peer word m.gossip.view m.gossip.seen m.me else None) ≡ Some who → IsTrue (standing.is_member m.gossip.view.standings who)
    by_turn true chosen = (peer_reachable word m.gossip.view m.gossip.seen m.me who chosen).member
    by_turn false none = absurd (true≢false (sym (ap is_some none)))

gossips_go : (to : Option UniqueModel) (n : State) → ((who : UniqueModel) → to ≡ Some who → IsUnique who) → AllGo (gossips_to to n).1
gossips_go None n names = none_go [] refl
gossips_go (Some to) n names = one_goes (record { from = me_of n; to = to.address; uid = to.uid; message = message.Gossip (known n) }) (names to refl)

-- ---- promises and the singleton
of_go : (o : Option BallotModel) (what : BallotModel → Message) (to : UniqueModel) (n : State) → ((b : BallotModel) → o ≡ Some b → GoesTo (what b) to.address to.uid) → AllGo (told_of o what to n)
of_go None what to n goes = none_go [] refl
of_go (Some b) what to n goes = one_goes (record { from = me_of n; to = to.address; uid = to.uid; message = what b }) (goes b refl)

own_go : (o : Option BallotModel) (n : State) → ((b : BallotModel) → o ≡ Some b → IsBallot b) → AllGo (told_its_own o n)
own_go None n is = none_go [] refl
own_go (Some b) n is = one_goes (record { from = me_of n; to = b.unique.address; uid = b.unique.uid; message = message.HandOverToMe b }) (let ballot = is b refl in (ballot.unique, ballot))

to_each_go : (o : Option BallotModel) (what : BallotModel → Message) (to : UniqueSet) (n : State) → ((b : BallotModel) (u : UniqueModel) → o ≡ Some b → IsUnique u → GoesTo (what b) u.address u.uid) → ((u : UniqueModel) → Contains (in_order to) u → IsUnique u) → AllGo (told_to_each o what to n)
to_each_go None what to n goes names = none_go [] refl
to_each_go (Some b) what to n goes names = all_go n (in_order to) (what b) (λ u who. goes b u refl who) names

releases_go : (to : UniqueSet) (n : State) → KeepsBallots n.singleton → KeepsSettled n → ((u : UniqueModel) → Contains (in_order to) u → IsUnique u) → AllGo (releases to n)
releases_go to n kb ks names = to_each_go n.singleton.promise.last (λ b. message.Release b (version_of (settled_of n))) to n (λ b u at who. (who, (kb.last b at, counted_short (version_of (settled_of n)) ks.version ks.few))) names

module _ (n : State) (me : IsUnique (me_of n)) (kb : KeepsBallots n.singleton) (ks : KeepsSettled n) (kh : KeepsShards n) where
  abbrev steps_by : TickRule → Steps
  steps_by r = steps_of r (me_of n) (settled_of n) (margin_of n) n.singleton

  handed : (r : TickRule) (b : BallotModel) → (steps_by r).hand_over_to ≡ Some b → IsBallot b
  handed rules.Rests b at = absurd (true≢false (sym (ap is_some at)))
  handed rules.Opens b at = absurd (true≢false (sym (ap is_some at)))
  handed rules.HandsOver b at = kb.last b at
  handed rules.Closes b at = absurd (true≢false (sym (ap is_some at)))
  handed rules.Asks b at = absurd (true≢false (sym (ap is_some at)))

  released_to : (r : TickRule) (u : UniqueModel) → Contains (in_order (steps_by r).release) u → IsUnique u
  released_to rules.Rests u there = absurd (nobody_there u there)
  released_to rules.Opens u there = absurd (nobody_there u there)
  released_to rules.HandsOver u there = absurd (nobody_there u there)
  released_to rules.Closes u there = needed_process n ks (only (me_of n)) u there
  released_to rules.Asks u there = absurd (nobody_there u there)

  asked_of : (r : TickRule) (u : UniqueModel) → Contains (in_order (steps_by r).ask) u → IsUnique u
  asked_of rules.Rests u there = absurd (nobody_there u there)
  asked_of rules.Opens u there = needed_process n ks (only (me_of n)) u there
  asked_of rules.HandsOver u there = absurd (nobody_there u there)
  asked_of rules.Closes u there = absurd (nobody_there u there)
  asked_of rules.Asks u there = needed_process n ks n.singleton.granted u there

  asks_as_go : (status : Option Status) → AllGo (asks_as status n).1
  asks_as_go None = none_go [] refl
  asks_as_go (Some status) =
      let r = rule_on status n in
      let after : State = (does_rule r n).0 in
      let kept : KeepsBallots after.singleton = rule_kept n.singleton kb (me_of n) me (settled_of n) ks.version status (margin_of n) in
      let settled_after : KeepsSettled after = settled_alike n after refl refl ks in
      both_go (told_its_own (steps_by r).hand_over_to after ++ releases (steps_by r).release after) (told_to_each after.singleton.live message.Ask (steps_by r).ask after)
      (both_go (told_its_own (steps_by r).hand_over_to after) (releases (steps_by r).release after) (own_go (steps_by r).hand_over_to after (handed r)) (releases_go (steps_by r).release after kept settled_after (released_to r)))
      (to_each_go after.singleton.live message.Ask (steps_by r).ask after (λ b u at who. (who, kept.live b at)) (asked_of r))

  ends_go : AllGo (ends_phase n).1
  ends_go = both_go (told_end (active_term n.singleton.phase n.singleton.live)) (let_go n.singleton.phase n) (none_go (told_end (active_term n.singleton.phase n.singleton.live)) (unsent (active_term n.singleton.phase n.singleton.live))) (by_phase n.singleton.phase)
    where
      unsent : (term : Option ℕ) → sent (told_end term) ≡ []
      unsent None = refl
      unsent (Some term) = refl

      by_phase : (ph : Phase) → AllGo (let_go ph n)
      by_phase phase.Younger = none_go [] refl
      by_phase phase.Asking = releases_go (needed_others n) n kb ks (needed_process n ks (only (me_of n)))
      by_phase phase.Active = releases_go (needed_others n) n kb ks (needed_process n ks (only (me_of n)))
      by_phase phase.Ended = none_go [] refl

  -- answers to messages about ballots
  at_most : (v : Counts) → fits_packet v ≡ true → finmap.len v ≤ most_in_version
  at_most v is = leb-true (finmap.len v) most_in_version is

  answered_go : (a : Answer) (from : UniqueModel) (b : BallotModel) → IsUnique from → IsBallot b → is_grantable n ≡ true → AllGo (node.answered a from b n)
  answered_go given.Granted from b who is fits =
      one_goes (record { from = me_of n; to = from.address; uid = from.uid; message = message.Granted b (floor_of n) (reports_of n) })
      (who, (is, (counted_short (floor_of n) (counted_merged n.singleton.promise.floor (version_of (settled_of n)) kb.floor ks.version) (at_most (floor_of n) fits), reports_spelled n.sharding.region kh.region)))
  answered_go given.Old from b who is fits = of_go n.singleton.promise.last (λ last. message.Old b last) from n (λ last at. (who, (is, kb.last last at)))
  answered_go given.Busy from b who is fits = of_go n.singleton.promise.last (λ last. message.Busy b last) from n (λ last at. (who, (is, kb.last last at)))

work_goes : (work : Around → ShardingModel → sharding.Outcome) (n : State) → GoesWell (work (around n) n.sharding) → AllGo (shards_do work n).1
work_goes work n g = sent_well (work (around n) n.sharding).1 g.1

rest_goes : (n : State) (me : IsUnique (me_of n)) (kb : KeepsBallots n.singleton) (ks : KeepsSettled n) (kh : KeepsShards n) (word : ℕ) → KnowsProcesses n → AllGo (rest word n).1
rest_goes n me kb ks kh word names = by_status (status_of n) (status_kept n me (kb, kh) ks.version (status_of n)) (asks_as_go n me kb ks kh (status_of n))
  where
    from_there : (a : State) (told : List Action) → IsUnique (me_of a) → KnowsProcesses a → KeepsBallots a.singleton → KeepsShards a → AllGo told → AllGo (and_then (gossips word) (and_then (shards_do hosts.asks_homes) (and_then (shards_do coordinates.coordinates) (a, told)))).1
    from_there a told is all ab ah go =
        let placed = coordinates_in (around a) (around_in a is ab) a.sharding ah in
        let b = (shards_do coordinates.coordinates a).0 in
        let homes = asks_homes_in (around b) (around_in b is ab) b.sharding placed.0 in
        let c = (shards_do hosts.asks_homes b).0 in
        both_go ((told ++ (shards_do coordinates.coordinates a).1) ++ (shards_do hosts.asks_homes b).1) (gossips word c).1
        (both_go (told ++ (shards_do coordinates.coordinates a).1) (shards_do hosts.asks_homes b).1
        (both_go told (shards_do coordinates.coordinates a).1 go (work_goes coordinates.coordinates a placed))
        (work_goes hosts.asks_homes b homes))
        (gossips_go (gossip_peer word c.membership) c (λ who chosen. all who (known_of (known c).view.standings who (peer_known word c.membership who chosen))))

    by_status : (status : Option Status) → KeepsBallots (asks_as status n).0.singleton × KeepsShards (asks_as status n).0 → AllGo (asks_as status n).1 → AllGo (and_then (gossips word) (and_then (shards_do hosts.asks_homes) (and_then (shards_do coordinates.coordinates) (asks_as status n)))).1
    by_status None kept go = from_there n [] me names kept.0 kept.1 go
    by_status (Some status) kept go = from_there (asks_as (Some status) n).0 (asks_as (Some status) n).1 me names kept.0 kept.1 go

goes_on_go : (n : State) (me : IsUnique (me_of n)) (kb : KeepsBallots n.singleton) (ks : KeepsSettled n) (kh : KeepsShards n) (word : ℕ) → KnowsProcesses n → AllGo (goes_on word n).1
goes_on_go n me kb ks kh word names =
    let m = (ends_phase n).0 in
    let ended = end_kept n me (kb, kh) ks.version in
    go_if (is_gone n) (nothing n) _ (λ gone. none_go [] refl) (λ stays.
    go_if (is_member_with is_exiting (known n).view.standings (me_of n)) (and_then (leaves word) (ends_phase n)) (rest word n)
    (λ exiting. both_go (ends_phase n).1 (leaves word m).1 (ends_go n me kb ks kh)
    (go_if (may_leave m) (exits m) (rest word m) (λ is. all_go m (counted_members m) message.ExitingConfirmed (λ u who. who) (λ u there. names u (counted_known m u there)))
    (λ is. rest_goes m me ended.0 (settled_alike n m refl refl ks) ended.1 word names)))
    (λ other. rest_goes n me kb ks kh word names))

module _ (n : State) (names : KnowsProcesses n) (is : IsProcess n) (node : IsNode n) (kb : KeepsBallots n.singleton) (ks : KeepsSettled n) (kh : KeepsShards n) where
  beats_go : is_member n ≡ true → AllGo (beats (record n { membership = (ticks.tick n.membership).0 }))
  beats_go member =
      let after : State = record n { membership = (ticks.tick n.membership).0 } in
      all_go after (in_order (keys_of after.membership.detector)) message.Heartbeat (λ u who. who)
      (λ u there.
      let at = index_of (in_order (keys_of after.membership.detector)) u there in
      let watched : finmap.contains_key n.membership.detector u ≡ true = sym (watched_then n.membership member u) ∙ sym (has-keys_of after.membership.detector u) ∙ has_at (keys_of after.membership.detector) at.0 u at.1 in
      names u (known_of (known n).view.standings u (node.watching u watched)))

  tick_goes : (word : ℕ) → KnowsProcesses (tick word n).0 → AllGo (tick word n).1
  tick_goes word later = by_member (is_member n) refl later
    where
      ticks_go : is_member n ≡ true → KnowsProcesses (and_then (goes_on word) (ticked n (ticks.tick n.membership))).0 → AllGo (and_then (goes_on word) (ticked n (ticks.tick n.membership))).1
      ticks_go member later =
          let o = ticks.tick n.membership in
          let after : State = record n { membership = o.0 } in
          both_go (ticked n o).1 (goes_on word after).1
          (both_go (ends after ++ beats after) (update_by o.1.number o.1.effects)
          (both_go (ends after) (beats after) (none_go (ends after) (ended_sent after.membership.settled.just_ended)) (beats_go member))
          (none_go (update_by o.1.number o.1.effects) (untold o.1.number o.1.effects)))
          (goes_on_go after (subst IsUnique (sym (tick_learns nothing_given n.membership).same_me) is.me) kb (settled_alike n after (waits_version (margin_of n) n.membership.settled after.membership.settled (tick_learns nothing_given n.membership).waits_on) (waits_standings (margin_of n) n.membership.settled after.membership.settled (tick_learns nothing_given n.membership).waits_on) ks) kh word (subst (λ (g : GossipState). (who : UniqueModel) → IsTrue (is_known g.view.standings who) → IsUnique who) (goes_quiet word after).same later))

      by_member : (b : Bool) → is_member n ≡ b
          → KnowsProcesses (if b then and_then (goes_on word) (ticked n (ticks.tick n.membership)) else asks_at n.membership.target n).0
          → AllGo (if b then and_then (goes_on word) (ticked n (ticks.tick n.membership)) else asks_at n.membership.target n).1
      by_member true member later = ticks_go member later
      by_member false member later = asks_go n.membership.target n is.target

-- ---- packets and local events
packet_goes : (n : State) (me : IsUnique (me_of n)) (kb : KeepsBallots n.singleton) (kh : KeepsShards n) (from : UniqueModel) (m : Message) → IsUnique from → IsBody m → AllGo (on_shards from m n).1
packet_goes n me kb kh from m who body = go_if (is_member n) (shards_do (λ a s. packets.on_shard_message a from m s) n) (nothing n) (λ is. work_goes (λ a s. packets.on_shard_message a from m s) n (message_in (around n) (around_in n me kb) n.sharding kh from who m body)) (λ is. none_go [] refl)

offer_goes : (n : State) (me : IsUnique (me_of n)) (kb : KeepsBallots n.singleton) (kh : KeepsShards n) (entity : List ℕ) (payload : ℕ) → IsEntity entity → payload < 2 ^ 64 → AllGo (offer entity payload n).1
offer_goes n me kb kh entity payload e p = work_goes (λ a s. hosts.on_offer a entity payload s) n (offer_in (around n) (around_in n me kb) n.sharding kh entity payload e p)

told_goes : (n : State) (me : IsUnique (me_of n)) (kb : KeepsBallots n.singleton) (ks : KeepsSettled n) (kh : KeepsShards n) (from : UniqueModel) (m : Message) → IsUnique from → IsBody m → AllGo (on_message from m n).1
told_goes n me kb ks kh from message.Join who said = unless_refused_goes (does_for from n) n (membership.on_join from n.membership) (answered from n who)
told_goes n me kb ks kh from (message.Welcome g) who said = unless_refused_goes (does_for from n) n (membership.on_gossip g n.membership) (answered from n who)
told_goes n me kb ks kh from (message.Gossip g) who said = unless_refused_goes (does_for from n) n (membership.on_gossip g n.membership) (answered from n who)
told_goes n me kb ks kh from message.Heartbeat who said = go_if (is_member n) (n, to_process n from message.HeartbeatReply ∷ []) (nothing n) (λ member. one_goes (record { from = me_of n; to = from.address; uid = from.uid; message = message.HeartbeatReply }) who) (λ none. none_go [] refl)
told_goes n me kb ks kh from message.HeartbeatReply who said = go_if (is_member n) _ (nothing n) (λ member. none_go [] refl) (λ none. none_go [] refl)
told_goes n me kb ks kh from message.ExitingConfirmed who said = go_if (is_member n) _ (nothing n) (λ member. none_go [] refl) (λ none. none_go [] refl)
told_goes n me kb ks kh from (message.Ask b) who said = go_if (is_asked from b n) (answers_ask from b n) (nothing n) (λ is. answered_go n me kb ks kh _ from b who said (second_so (is_member n && is_eq (unique_cmp b.unique from)) (is_grantable n) is)) (λ is. none_go [] refl)
told_goes n me kb ks kh from (message.Granted b floor reports) who said = go_if (takes_grant from reports n) (nothing (takes from b floor reports n)) (nothing n) (λ is. none_go [] refl) (λ is. none_go [] refl)
told_goes n me kb ks kh from (message.Busy b held) who said = go_if (is_member n && is_some_ballot n.singleton.live b) (n, told_its_own (Some held) n) (nothing n) (λ is. own_go (Some held) n (λ c at. subst IsBallot (same_Some held c at) said.1)) (λ is. none_go [] refl)
told_goes n me kb ks kh from (message.Old b last) who said = go_if (is_member n) _ (nothing n) (λ is. none_go [] refl) (λ is. none_go [] refl)
told_goes n me kb ks kh from (message.HandOverToMe b) who said =
    go_if (is_member n && has_handed_over b n) (n, to_process n from (message.HandOverDone b (version_of (settled_of n))) ∷ []) (nothing n)
    (λ is. one_goes (record { from = me_of n; to = from.address; uid = from.uid; message = message.HandOverDone b (version_of (settled_of n)) }) (who, (said, counted_short (version_of (settled_of n)) ks.version ks.few))) (λ is. none_go [] refl)
told_goes n me kb ks kh from (message.HandOverDone b floor) who said =
    go_if (is_member n) (promising (released_by n.singleton.promise b floor) n, to_each n (in_order (needed_others n)) (message.Release b floor)) (nothing n)
    (λ is. all_go n (in_order (needed_others n)) (message.Release b floor) (λ u unique. (unique, said)) (needed_process n ks (only (me_of n)))) (λ is. none_go [] refl)
told_goes n me kb ks kh from (message.Release b floor) who said = go_if (is_member n) (nothing (promising (released_by n.singleton.promise b floor) n)) (nothing n) (λ is. none_go [] refl) (λ is. none_go [] refl)
told_goes n me kb ks kh from (message.Leave subject) who said = unless_refused_goes (does n) n (membership.leave subject n.membership) (update_goes n)
told_goes n me kb ks kh from (message.Down subject) who said = unless_refused_goes (does n) n (membership.down subject n.membership) (update_goes n)
told_goes n me kb ks kh from (message.GetHome b shard) who said = packet_goes n me kb kh from (message.GetHome b shard) who said
told_goes n me kb ks kh from (message.Home b shard owner) who said = packet_goes n me kb kh from (message.Home b shard owner) who said
told_goes n me kb ks kh from (message.HostShard b shard number) who said = packet_goes n me kb kh from (message.HostShard b shard number) who said
told_goes n me kb ks kh from (message.ShardStarted b shard number) who said = packet_goes n me kb kh from (message.ShardStarted b shard number) who said
told_goes n me kb ks kh from (message.BeginHandOff b shard number) who said = packet_goes n me kb kh from (message.BeginHandOff b shard number) who said
told_goes n me kb ks kh from (message.BeginHandOffAck b shard number) who said = packet_goes n me kb kh from (message.BeginHandOffAck b shard number) who said
told_goes n me kb ks kh from (message.HandOff b shard number) who said = packet_goes n me kb kh from (message.HandOff b shard number) who said
told_goes n me kb ks kh from (message.ShardStopped b shard number) who said = packet_goes n me kb kh from (message.ShardStopped b shard number) who said
told_goes n me kb ks kh from (message.Forward entity payload) who said = go_if (is_entity_at entity n) (on_shards from (message.Forward entity payload) n) (nothing n) (λ is. packet_goes n me kb kh from (message.Forward entity payload) who said) (λ is. none_go [] refl)
told_goes n me kb ks kh from (message.Offer entity payload) who said = go_if (is_entity_at entity n) (offer entity payload n) (nothing n) (λ is. offer_goes n me kb kh entity payload said.0 said.1) (λ is. none_go [] refl)

rule_goes : (e : NodeEvent) (n : State) → IsSaid e → KnowsProcesses n → IsProcess n → IsNode n → KeepsBallots n.singleton → KeepsSettled n → KeepsShards n → KnowsProcesses (rule e n).0 → AllGo (rule e n).1
rule_goes event.Found n said names is node kb ks kh later = update_goes n (membership.found n.membership)
rule_goes (event.Join target) n said names is node kb ks kh later = go_if (is_member n) (nothing n) _ (λ member. none_go [] refl) (λ none. one_goes (record { from = me_of n; to = target; uid = 0; message = message.Join }) (refl, said))
rule_goes (event.Tick word) n said names is node kb ks kh later = tick_goes n names is node kb ks kh word later
rule_goes (event.Packet p) n said names is node kb ks kh later = told_goes n is.me kb ks kh p.from p.message said.from said.body
rule_goes (event.Leave who) n said names is node kb ks kh later = unless_refused_goes (does n) n (membership.leave who n.membership) (update_goes n)
rule_goes (event.Down who) n said names is node kb ks kh later = unless_refused_goes (does n) n (membership.down who n.membership) (update_goes n)
rule_goes (event.Offer entity payload) n said names is node kb ks kh later = offer_goes n is.me kb kh entity payload said.0 said.1
rule_goes event.Stop n said names is node kb ks kh later = none_go [] refl

running_goes : (e : NodeEvent) (n : State) → IsSaid e → KnowsProcesses n → IsProcess n → IsNode n → KeepsBallots n.singleton → KeepsSettled n → KeepsShards n → KnowsProcesses (running_step e n).0 → AllGo (running_step e n).1
running_goes e n said names is node kb ks kh later = by_dead (is_dead (me_of n) e) later
  where
    closing_sent : (after : State) → sent (closes after).1 ≡ []
    closing_sent after = due_sent (is_viewed after.membership) (stops (not after.runs) after.membership) (notes (not after.runs) after.membership)

    told_sent : (o : Option BallotModel) → sent (told_active o) ≡ []
    told_sent None = refl
    told_sent (Some b) = refl

    active_sent : (b : Bool) (x : State) → sent (becomes_active b x).1 ≡ []
    active_sent true x = told_sent x.singleton.live
    active_sent false x = refl

    by_dead : (b : Bool) → KnowsProcesses (if b then (n, action.Dead ∷ []) else and_then concludes (rule e n)).0 → AllGo (if b then (n, action.Dead ∷ []) else and_then concludes (rule e n)).1
    by_dead true later = none_go (action.Dead ∷ []) refl
    by_dead false later =
        let after = (rule e n).0 in
        let c = forgets (closes after).0 in
        both_go (rule e n).1 (concludes after).1 (rule_goes e n said names is node kb ks kh later)
        (both_go (closes after).1 (activates c).1 (none_go (closes after).1 (closing_sent after))
        (none_go (activates c).1 (active_sent (c.runs && may_activate (me_of c) (settled_of c) (margin_of c) c.singleton) c)))

-- a step more changes nothing of what is asked of a node
more : (n : State) → IsNode n → IsNode (record n { steps = n.steps + 1 })
more n node = record { ticked = let ticked = node.ticked in omega arith; shown = node.shown; watching = node.watching; counting = node.counting; stays = node.stays }

pub sends_valid : (e : NodeEvent) (n : State) → IsSaid e → KnowsProcesses n → IsProcess n → IsNode n → KeepsBallots n.singleton → KeepsSettled n → KeepsShards n → KnowsProcesses (step e n).0 → IsGossip (known (step e n).0) → AreValid (step e n).1
sends_valid e n said names is node kb ks kh later gossip = by_runs n.runs refl
  where
    runs_valid : n.runs ≡ true → AreValid (step e n).1
    runs_valid runs p there =
        let c = step_changes e n runs in
        let goes = running_goes e (record n { steps = n.steps + 1 }) said names (record { me = is.me; target = is.target }) (more n node) kb (settled_alike n (record n { steps = n.steps + 1 }) refl refl ks) kh (subst (λ (o : Outcome). KnowsProcesses o.0) (step_is e n runs) later) p (subst (λ (o : Outcome). Contains (sent o.1) p) (step_is e n runs) there) in
        valid_by p.message p.from p.to p.uid (subst IsUnique (sym (c.from p there)) is.me) goes
        (λ g carries. subst IsSendable (sym (c.carried p g there carries)) (record { gossip = gossip; uniques = later }))

    by_runs : (b : Bool) → n.runs ≡ b → AreValid (step e n).1
    by_runs true runs = runs_valid runs
    by_runs false stopped = λ p there. absurd (contains_nothing p (subst (λ (b : Bool). Contains (sent (if b then running_step e (record n { steps = n.steps + 1 }) else nothing n).1) p) stopped there))

-- ---- what a call makes of that
pub names_of : (e : NodeEvent) (n s : State) → IsSaid e → KnowsProcesses n → IsProcess n → s ≡ (step e n).0 → KnowsProcesses s
names_of e n s said names is state = subst KnowsProcesses (sym state) (step_names e n said is names)

pub step_sends : (e : NodeEvent) (n s : State) (actions : List Action) (g : GossipState) → IsSaid e → KnowsProcesses n → IsProcess n → IsNode n → KeepsBallots n.singleton → KeepsSettled n → KeepsShards n → s ≡ (step e n).0 → actions ≡ (step e n).1 → g ≡ known s → IsGossip g → AreValid actions
step_sends e n s actions g said names is node kb ks kh state done same gossip =
    subst AreValid (sym done) (sends_valid e n said names is node kb ks kh (step_names e n said is names) (subst IsGossip (same ∙ ap known state) gossip))

-- whoever knows nothing knows no process
pub no_names : (g : GossipState) → g ≡ nothing_known → (who : UniqueModel) → IsTrue (is_known g.view.standings who) → IsUnique who
no_names g is who there = absurd (true≢false (sym there ∙ ap (λ (h : GossipState). is_known h.view.standings who) is ∙ ap is_some (get-empty who)))
