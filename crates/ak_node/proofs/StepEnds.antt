-- The walk over a whole step: its rule and its closing make of the node's part what a list of allowed moves makes of it.
use Rattle.std.proofs.Common.{◌≡◌, ℕ, Bool, true, false, not, ◌&&◌, inl, inr, ◌⊎◌, if◌then◌else◌, List, [], ◌∷◌, ◌++◌, Option, Some, None, Result, Ok, Err, IfOk, IsTrue, Contains, map, nat_le, refl, sym, ap, ◌∙◌, subst, true≢false, ◌+◌}
use Rattle.std.specs.FinMap as finmap
use Rattle.std.specs.Cmp.{second_so}
use Rattle.ak_address.specs.Unique.{AddressModel, UniqueModel}
use Rattle.ak_address.specs.Changed.{keys_of}
use Rattle.ak_address.specs.Uniques.{in_order, with_one}
use Rattle.ak_address.proofs.Elements.{contains_first, contains_rest, contains_nothing, contains_either, contains_left, map_in, first_or_rest}
use Rattle.ak_clock.specs.Version.{Counts, Covers}
use Rattle.ak_gossip.specs.Gossip.{GossipState, is_known, receive}
use Rattle.ak_gossip.specs.declared.gossip.GossipFault.{GossipFault}
use Rattle.ak_gossip.specs.declared.gossip.GossipFault.TheVariants as gossip_fault
use Rattle.ak_gossip.specs.declared.gossip.Received.{Received}
use Rattle.ak_member.specs.declared.effect.Effect.{Effect}
use Rattle.ak_member.specs.declared.effect.Effect.TheVariants.{Joined, Rise}
use Rattle.ak_member.specs.declared.status.Status.{Status}
use Rattle.ak_member.specs.declared.status.Status.TheVariants.{Leaving, Down}
use Rattle.ak_member.specs.Standing as standing
use Rattle.ak_member.specs.Standing.{is_exiting, is_up, is_down, is_member_with}
use Rattle.ak_line.specs.BallotOrder.{IsLater}
use Rattle.ak_line.specs.Moves as moves
use Rattle.ak_line.specs.Moves.{IsLive, Node, Said, Move}
use Rattle.ak_line.specs.Local.{changed, AllLocal, changed_all}
use Rattle.ak_line.proofs.LocalLists.{changed_append, speaks_first, speaks_then, local_append}
use Rattle.ak_line.proofs.LocalRuns.{finds, found, local_finds, after_finds}
use Rattle.ak_membership.specs.declared.change.MemberFault.{MemberFault}
use Rattle.ak_membership.specs.declared.change.MemberFault.TheVariants as fault
use Rattle.ak_membership.specs.declared.change.Closing.{Closing}
use Rattle.ak_membership.specs.declared.change.Reply.TheVariants as reply
use Rattle.ak_membership.specs.declared.state.MembershipState.{MembershipState}
use Rattle.ak_membership.specs.Membership as membership
use Rattle.ak_membership.specs.Membership.{unchanged, made, update_any, may_count, replying, has_member_beside, replaced, admitted, on_received, most_at_join}
use Rattle.ak_membership.specs.Closing as closing
use Rattle.ak_membership.specs.Closing.{stops, notes}
use Rattle.ak_membership.specs.Knowledge.{Learns, Given, nothing_given}
use Rattle.ak_membership.specs.Tick as ticks
use Rattle.ak_membership.proofs.Walk.{found_learns, leave_learns, down_learns, tick_learns, join_learns, gossip_learns}
use Rattle.ak_promise.specs.Ballot.{BallotModel}
use Rattle.ak_settings.specs.Settings.{SettingsModel, is_listed}
use Rattle.ak_settled.specs.SettledView.{SettledView, SettledModel}
use Rattle.ak_settled.specs.Settled.{version_of, is_finished, after_tick, after_note, ticked, ending}
use Rattle.ak_promise.specs.Promise.{is_some_ballot, released_by}
use Rattle.ak_singleton.specs.Singleton.{SingletonModel, is_outdone, after_old, ended_from, ended, may_activate}
use Rattle.ak_shard_id.specs.declared.report.Report.{Report}
use Rattle.ak_line.specs.Told.{EachOnce}
use Rattle.ak_sharding.specs.Sharding.{ShardingModel}
use Rattle.ak_sharding.specs.Hosts as hosts
use Rattle.ak_sharding.specs.Coordinates as coordinates
use Rattle.ak_sharding.specs.Packets as packets
use Rattle.ak_sharding.specs.Sharing.{IsSharing}
use Rattle.ak_sharding.proofs.HostMoves.{forgets_kept}
use Rattle.ak_singleton.specs.declared.phase.Phase.{Phase}
use Rattle.ak_singleton.specs.declared.phase.Phase.TheVariants as phase
use Rattle.ak_singleton.proofs.AsMoves.{HasPhase, IsLike}
use Rattle.ak_singleton.proofs.LiveKept.{Fits}
use Rattle.ak_wire.specs.declared.envelope.Envelope.{Envelope}
use Rattle.ak_wire.specs.declared.envelope.Message.{Message}
use Rattle.ak_wire.specs.declared.envelope.Message.TheVariants as message
use Rattle.ak_wire.specs.declared.action.Action.{Action}
use Rattle.ak_wire.specs.declared.action.Action.TheVariants as action
use Rattle.ak_wire.specs.Wire.{sent}
use Rattle.ak_wire.proofs.Sending.{sent-append}
use Rattle.ak_node.specs.declared.node.State.{State}
use Rattle.ak_node.specs.declared.node.NodeEvent.{NodeEvent}
use Rattle.ak_node.specs.declared.node.NodeEvent.TheVariants as event
use Rattle.ak_node.specs.Node as node
use Rattle.ak_node.specs.Node.{around, sharing, shards_do, takes, rest, may_leave, forgets, Outcome, known, me_of, settled_of, margin_of, is_member, is_gone, nothing, number_of, and_then, to_process, to_each, to_address, update_by, does, does_for, unless_refused, join, leave, down, stop, asks_at, counted_members, exits, gossips_to, gossips, status_of, asks_as, ends_phase, becomes_active, activates, told_active, keeping, promising, told_its_own, needed_others, is_asked, answers_ask, takes_grant, has_handed_over, goes_on, ends, beats, tick, on_message, rule, due, closes, concludes, is_dead, running_step, is_entity_at, on_shards, offer}
use Rattle.ak_node.specs.Said.{said_to, said_in}
use Rattle.ak_node.proofs.StepChanges.{ended_sent, due_sent}
use Rattle.ak_node.proofs.MarginEnds.{Leaves, leaves_if, update_leaves, update_any_leaves, updates_leave}
use Rattle.ak_node.proofs.StepMoves.{on_shards_does, offer_does, coordinates_do, asks_homes_do, bound_asked, Unsaid, unsaid_none, unsaid_both, unsaid_each, unsaid_answer, finished_in, finished_there, there_finished, l, IsShown, IsPart, IsAfter, IsOwn, part_alike, SaysNoMore, Does, does_then, does_if, unmoved, asks_does, ends_does, active_does, ask_does, granted_does, busy_does, old_does, hand_over_does, done_does, release_does}

-- ---- each rule of the membership but the tick leaves the settled view, and the settings
abbrev LeavesOk : MembershipState → Result membership.Outcome MemberFault → Type 0
LeavesOk m r = IfOk r (λ o. Leaves m o)

module _ (m : MembershipState) where
  ok_if : (b : Bool) (r s : Result membership.Outcome MemberFault) → LeavesOk m r → LeavesOk m s → LeavesOk m (if b then r else s)
  ok_if true r s x y = x
  ok_if false r s x y = y

  itself_left : Leaves m (unchanged m)
  itself_left = record { settings = refl; settled = refl }

  found_leaves : Leaves m (membership.found m)
  found_leaves =
      let f : MembershipState = record m { founder = true } in
      let u = update_leaves f (Joined m.me ∷ []) in
      leaves_if m (is_known m.gossip.view.standings m.me) (unchanged m) _ itself_left (record { settings = u.settings; settled = u.settled })

  leave_leaves : (who : UniqueModel) → LeavesOk m (membership.leave who m)
  leave_leaves who =
      ok_if (not (membership.is_member m)) (Err fault.NotMember) _ tt
      (ok_if (not (standing.is_member m.gossip.view.standings who)) (Err fault.UnknownMember) _ tt
      (ok_if (not (is_member_with is_up m.gossip.view.standings who)) (Err fault.NotUp) _ tt (update_leaves m (Rise who Leaving 0 ∷ []))))

  down_leaves : (who : UniqueModel) → LeavesOk m (membership.down who m)
  down_leaves who =
      ok_if (not (membership.is_member m)) (Err fault.NotMember) _ tt
      (ok_if (not (standing.is_member m.gossip.view.standings who)) (Err fault.UnknownMember) _ tt
      (ok_if (is_member_with is_down m.gossip.view.standings who) (Ok (unchanged m)) _ itself_left (update_leaves m (Rise who Down 0 ∷ []))))

  admitted_leaves : (from : UniqueModel) → Leaves m (admitted from m)
  admitted_leaves from = by_room (may_count m)
    where
      by_room : (b : Bool) → Leaves m (if b then replying reply.Welcome (made (Joined from ∷ []) m) else unchanged m)
      by_room true = record { settings = refl; settled = refl }
      by_room false = itself_left

  join_leaves : (from : UniqueModel) → LeavesOk m (membership.on_join from m)
  join_leaves from =
      ok_if (not (membership.is_member m)) (Err fault.NotMember) _ tt
      (ok_if (not (is_listed m.settings.listed from.address)) (Err fault.Unlisted) _ tt
      (ok_if (standing.is_member m.gossip.view.standings from) (Ok (replying reply.Welcome (unchanged m))) _ (record { settings = refl; settled = refl })
      (ok_if (is_known m.gossip.view.standings from) (Ok (unchanged m)) _ itself_left
      (ok_if (has_member_beside from m.gossip.view.standings) (Ok (update_any (replaced from m.gossip.view.standings) m)) _ (update_any_leaves m (replaced from m.gossip.view.standings))
      (ok_if (nat_le most_at_join (finmap.len m.gossip.view.standings)) (Err (fault.TooManyUniques (finmap.len m.gossip.view.standings + 1))) (Ok (admitted from m)) tt (admitted_leaves from))))))

  received_leaves : (g : GossipState) (r : Result (Received × GossipState) GossipFault) → LeavesOk m (on_received g m r)
  received_leaves g (Err (gossip_fault.ForeignCount own theirs)) = tt
  received_leaves g (Err (gossip_fault.TooManyUniques union)) = tt
  received_leaves g (Err (gossip_fault.NoMemory _)) = itself_left
  received_leaves g (Ok r) = record { settings = refl; settled = refl }

  gossip_leaves : (g : GossipState) → LeavesOk m (membership.on_gossip g m)
  gossip_leaves g = ok_if (is_known g.view.standings m.me) (on_received g m (receive m.me m.gossip g)) (Ok (unchanged m)) (received_leaves g (receive m.me m.gossip g)) itself_left

-- ---- the margins that end are told
ends_told : (whos : List UniqueModel) (q : UniqueModel) → Contains whos q → Contains (map action.MarginEnd whos) (action.MarginEnd q)
ends_told whos q there = map_in action.MarginEnd whos q there

-- the tick of a member makes its settled view wait for a tick more
pub tick_waits : (m : MembershipState) → membership.is_member m ≡ true → ((ticks.tick m).0.settled ≡ after_tick m.settings.margin m.settled) × ((ticks.tick m).0.settings ≡ m.settings)
tick_waits m member =
    let left = updates_leave m in (
      ap (λ b. (if b then (ticks.counted (ticks.waited m) (ticks.updates m).0, (ticks.updates m).1) else unchanged m).0.settled) member ∙ (λ i. after_tick (left.settings i).margin (left.settled i)),
      ap (λ b. (if b then (ticks.counted (ticks.waited m) (ticks.updates m).0, (ticks.updates m).1) else unchanged m).0.settings) member ∙ left.settings,
    )

-- at a step of a member each tombstone whose margin ends at the tick is told
pub ending_told : (n : State) (word : ℕ) → is_member n ≡ true → (q : UniqueModel) → Contains (ending (margin_of n) (settled_of n)) q → Contains (rule (event.Tick word) n).1 (action.MarginEnd q)
ending_told n word member q there =
    let t = ticks.tick n.membership in
    let after : State = record n { membership = t.0 } in
    let just : after.membership.settled.just_ended ≡ ending (margin_of n) (settled_of n) = ap (λ (s : SettledModel). s.just_ended) (tick_waits n.membership member).0 in
    let told : Contains (ends after) (action.MarginEnd q) = ends_told after.membership.settled.just_ended q (subst (λ k. Contains k q) (sym just) there) in
    subst (λ b. Contains (if b then and_then (goes_on word) (node.ticked n t) else asks_at n.membership.target n).1 (action.MarginEnd q)) (sym member)
    (contains_left (node.ticked n t).1 (goes_on word after).1 (action.MarginEnd q)
    (contains_left (ends after ++ beats after) (update_by t.1.number t.1.effects) (action.MarginEnd q)
    (contains_left (ends after) (beats after) (action.MarginEnd q) told)))

-- ---- the settled view after a rule is as it was, but at the tick of a member, after which it has waited for a tick more
abbrev pub Waits : NodeEvent → State → State → Type 0
Waits e n m =
    (m.membership.settled ≡ n.membership.settled)
    ⊎ ((word : ℕ) × (e ≡ event.Tick word) × (is_member n ≡ true) × (m.membership.settled ≡ after_tick (margin_of n) n.membership.settled))

abbrev Stays : State → State → Type 0
Stays n m = m.membership.settled ≡ n.membership.settled

stays_if : (n : State) (b : Bool) (o p : Outcome) → Stays n o.0 → Stays n p.0 → Stays n (if b then o else p).0
stays_if n true o p x y = x
stays_if n false o p x y = y

stays_unless : (n : State) (next : membership.Outcome → Outcome) (r : Result membership.Outcome MemberFault) → ((o : membership.Outcome) → (next o).0 ≡ (does n o).0) → LeavesOk n.membership r → Stays n (unless_refused next n r).0
stays_unless n next (Ok o) is left = ap (λ (x : State). x.membership.settled) (is o) ∙ left.settled
stays_unless n next (Err why) is left = refl

stays_asking : (n : State) (target : Option AddressModel) → Stays n (asks_at target n).0
stays_asking n None = refl
stays_asking n (Some target) = refl

stays_told : (n : State) (from : UniqueModel) (m : Message) → Stays n (on_message from m n).0
stays_told n from message.Join = stays_unless n (does_for from n) (membership.on_join from n.membership) (λ o. refl) (join_leaves n.membership from)
stays_told n from (message.Welcome g) = stays_unless n (does_for from n) (membership.on_gossip g n.membership) (λ o. refl) (gossip_leaves n.membership g)
stays_told n from (message.Gossip g) = stays_unless n (does_for from n) (membership.on_gossip g n.membership) (λ o. refl) (gossip_leaves n.membership g)
stays_told n from message.Heartbeat = stays_if n (is_member n) (n, to_process n from message.HeartbeatReply ∷ []) (nothing n) refl refl
stays_told n from message.HeartbeatReply = stays_if n (is_member n) (nothing (record n { membership = membership.on_heard from n.membership })) (nothing n) refl refl
stays_told n from message.ExitingConfirmed = stays_if n (is_member n) (nothing (record n { membership = membership.on_confirmed from n.membership })) (nothing n) (by_member (standing.is_member (known n).view.standings from)) refl
  where
    by_member : (b : Bool) → Stays n (record n { membership = if b then record n.membership { confirmed = with_one n.membership.confirmed from } else n.membership })
    by_member true = refl
    by_member false = refl
stays_told n from (message.Ask b) = stays_if n (is_asked from b n) (answers_ask from b n) (nothing n) refl refl
stays_told n from (message.Granted b floor reports) = stays_if n (takes_grant from reports n) (nothing (takes from b floor reports n)) (nothing n) refl refl
stays_told n from (message.Busy b held) = stays_if n (is_member n && is_some_ballot n.singleton.live b) (n, told_its_own (Some held) n) (nothing n) refl refl
stays_told n from (message.Old b last) = stays_if n (is_member n) (nothing (keeping (after_old (is_outdone b last n.singleton) b last n.singleton) (sharing (coordinates.begins_if (is_outdone b last n.singleton) (me_of n) n.sharding) n))) (nothing n) refl refl
stays_told n from (message.HandOverToMe b) = stays_if n (is_member n && has_handed_over b n) (n, to_process n from (message.HandOverDone b (version_of (settled_of n))) ∷ []) (nothing n) refl refl
stays_told n from (message.HandOverDone b floor) = stays_if n (is_member n) (promising (released_by n.singleton.promise b floor) n, to_each n (in_order (needed_others n)) (message.Release b floor)) (nothing n) refl refl
stays_told n from (message.Release b floor) = stays_if n (is_member n) (nothing (promising (released_by n.singleton.promise b floor) n)) (nothing n) refl refl
stays_told n from (message.Leave who) = stays_unless n (does n) (membership.leave who n.membership) (λ o. refl) (leave_leaves n.membership who)
stays_told n from (message.Down who) = stays_unless n (does n) (membership.down who n.membership) (λ o. refl) (down_leaves n.membership who)
stays_told n from (message.GetHome b shard) = stays_if n (is_member n) (shards_do (λ a t. packets.on_shard_message a from (message.GetHome b shard) t) n) (nothing n) refl refl
stays_told n from (message.Home b shard owner) = stays_if n (is_member n) (shards_do (λ a t. packets.on_shard_message a from (message.Home b shard owner) t) n) (nothing n) refl refl
stays_told n from (message.HostShard b shard number) = stays_if n (is_member n) (shards_do (λ a t. packets.on_shard_message a from (message.HostShard b shard number) t) n) (nothing n) refl refl
stays_told n from (message.ShardStarted b shard number) = stays_if n (is_member n) (shards_do (λ a t. packets.on_shard_message a from (message.ShardStarted b shard number) t) n) (nothing n) refl refl
stays_told n from (message.BeginHandOff b shard number) = stays_if n (is_member n) (shards_do (λ a t. packets.on_shard_message a from (message.BeginHandOff b shard number) t) n) (nothing n) refl refl
stays_told n from (message.BeginHandOffAck b shard number) = stays_if n (is_member n) (shards_do (λ a t. packets.on_shard_message a from (message.BeginHandOffAck b shard number) t) n) (nothing n) refl refl
stays_told n from (message.HandOff b shard number) = stays_if n (is_member n) (shards_do (λ a t. packets.on_shard_message a from (message.HandOff b shard number) t) n) (nothing n) refl refl
stays_told n from (message.ShardStopped b shard number) = stays_if n (is_member n) (shards_do (λ a t. packets.on_shard_message a from (message.ShardStopped b shard number) t) n) (nothing n) refl refl
stays_told n from (message.Forward entity payload) = stays_if n (is_entity_at entity n) (on_shards from (message.Forward entity payload) n) (nothing n) (stays_if n (is_member n) (shards_do (λ a t. packets.on_shard_message a from (message.Forward entity payload) t) n) (nothing n) refl refl) refl
stays_told n from (message.Offer entity payload) = stays_if n (is_entity_at entity n) (offer entity payload n) (nothing n) (refl) refl

rest_stays : (word : ℕ) (n : State) → Stays n (rest word n).0
rest_stays word n =
    let x = (and_then (shards_do hosts.asks_homes) (and_then (shards_do coordinates.coordinates) (asks_as (status_of n) n))).0 in
    by_peer x (ticks.gossip_peer word x.membership) ∙ by_status (status_of n)
  where
    by_peer : (x : State) (to : Option UniqueModel) → (gossips_to to x).0.membership.settled ≡ x.membership.settled
    by_peer x None = refl
    by_peer x (Some to) = refl

    by_status : (status : Option Status) → (asks_as status n).0.membership.settled ≡ n.membership.settled
    by_status None = refl
    by_status (Some status) = refl

goes_stays : (word : ℕ) (n : State) → Stays n (goes_on word n).0
goes_stays word n =
    let x = (ends_phase n).0 in
    stays_if n (is_gone n) (nothing n) _ refl
    (stays_if n (is_member_with is_exiting (known n).view.standings (me_of n)) (and_then (node.leaves word) (ends_phase n)) (rest word n)
    (stays_if n (may_leave x) (exits x) (rest word x) refl (rest_stays word x))
    (rest_stays word n))

pub rule_waits : (e : NodeEvent) (n : State) → Waits e n (rule e n).0
rule_waits event.Found n = inl (found_leaves n.membership).settled
rule_waits (event.Join target) n = inl (by_member (is_member n))
  where
    by_member : (b : Bool) → Stays n (if b then nothing n else (record n { membership = membership.join target n.membership }, to_address n target message.Join ∷ [])).0
    by_member true = refl
    by_member false = by_join (is_member n)
      where
        by_join : (b : Bool) → (if b then n.membership else record n.membership { target = Some target }).settled ≡ n.membership.settled
        by_join true = refl
        by_join false = refl
rule_waits (event.Tick word) n = by_member (is_member n) refl
  where
    by_member : (b : Bool) → is_member n ≡ b → Waits (event.Tick word) n (if b then and_then (goes_on word) (node.ticked n (ticks.tick n.membership)) else asks_at n.membership.target n).0
    by_member true member = inr (word, refl, member, goes_stays word (node.ticked n (ticks.tick n.membership)).0 ∙ (tick_waits n.membership member).0)
    by_member false member = inl (stays_asking n n.membership.target)
rule_waits (event.Packet p) n = inl (stays_told n p.from p.message)
rule_waits (event.Leave who) n = inl (stays_unless n (does n) (membership.leave who n.membership) (λ o. refl) (leave_leaves n.membership who))
rule_waits (event.Down who) n = inl (stays_unless n (does n) (membership.down who n.membership) (λ o. refl) (down_leaves n.membership who))
rule_waits (event.Offer entity payload) n = inl refl
rule_waits event.Stop n = inl refl

-- ---- what is not of this says nothing of it
unsaid_update : (number : Option ℕ) (effects : List Effect) → Unsaid (update_by number effects)
unsaid_update None effects = unsaid_none [] refl
unsaid_update (Some number) effects = unsaid_none (action.Update number effects ∷ []) refl

unsaid_join : (n : State) (target : AddressModel) → Unsaid (to_address n target message.Join ∷ [])
unsaid_join n target p there = elim (first_or_rest (record { from = me_of n; to = target; uid = 0; message = message.Join }) p [] there) [ inl is ↦ ap said_in is | inr none ↦ absurd (contains_nothing p none) ]

unsaid_ticked : (n : State) (o : membership.Outcome) → Unsaid (node.ticked n o).1
unsaid_ticked n o =
    let after : State = record n { membership = o.0 } in
    unsaid_both (ends after ++ beats after) (update_by o.1.number o.1.effects)
    (unsaid_both (ends after) (beats after) (unsaid_none (ends after) (ended_sent after.membership.settled.just_ended)) (unsaid_each after (in_order (keys_of after.membership.detector)) message.Heartbeat (λ u. refl)))
    (unsaid_update o.1.number o.1.effects)

module _ (on : Counts → Type 0) (aged removed : Counts → UniqueModel → Type 0) (heard : UniqueModel → Said Counts → Type 0) (stopped : UniqueModel → Type 0) where
  -- ---- all that are finished are found so
  abbrev Finds : UniqueModel → List UniqueModel → List (Move Counts)
  Finds me qs = finds (l on aged removed) IsLater heard stopped me qs

  abbrev Found : UniqueModel → List UniqueModel → List UniqueModel → List UniqueModel
  Found me qs old = found (l on aged removed) IsLater heard stopped me qs old

  found_old : (me : UniqueModel) (qs old : List UniqueModel) (q : UniqueModel) → Contains old q → Contains (Found me qs old) q
  found_old me [] old q there = there
  found_old me (x ∷ qs) old q there = found_old me qs (x ∷ old) q (contains_rest x q old there)

  found_new : (me : UniqueModel) (qs old : List UniqueModel) (q : UniqueModel) → Contains qs q → Contains (Found me qs old) q
  found_new me [] old q there = absurd (contains_nothing q there)
  found_new me (x ∷ qs) old q there = elim (first_or_rest x q qs there) [
    | inl is ↦ found_old me qs (x ∷ old) q (subst (Contains (x ∷ old)) (sym is) (contains_first x old))
    | inr rest ↦ found_new me qs (x ∷ old) q rest
  ]

  -- what is known of a settled view, and that whoever is finished by it has stopped
  pub record IsSure (margin : ℕ) (settled : SettledView) : Type 0 where
    pub shown : IsShown on aged removed margin settled
    pub rests : (q : UniqueModel) → IsTrue (is_finished margin settled q) → stopped q

  -- these may be found, by a settled view of this version
  finds_local : (me : UniqueModel) (a : Node Counts) (margin : ℕ) (settled : SettledView) → IsSure margin settled → a.runs ≡ true → a.settled ≡ version_of settled → (qs : List UniqueModel) → ((q : UniqueModel) → Contains qs q → IsTrue (is_finished margin settled q))
      → AllLocal (l on aged removed) IsLater heard stopped me a (Finds me qs)
  finds_local me a margin settled sure runs version [] all = tt
  finds_local me a margin settled sure runs version (q ∷ qs) all =
      let first = sure.shown.over q (all q (contains_first q qs)) in
      local_finds (l on aged removed) IsLater heard stopped me a (q ∷ qs) runs (subst on (sym version) (sure.shown.known.settles first.0))
      (λ k there. (subst (λ v. removed v k) (sym version) (sure.shown.over k (all k there)).1, sure.rests k (all k there)))

  -- the phase, where it alone matters
  phase_same : (s : SingletonModel) (ph : Phase) (a b : Node Counts) → b.phase ≡ a.phase → HasPhase s ph a → HasPhase s ph b
  phase_same s phase.Younger a b same is = same ∙ is
  phase_same s phase.Asking a b same is = (is.0, same ∙ is.1, is.2)
  phase_same s phase.Active a b same is = (is.0, same ∙ is.1, is.2)
  phase_same s phase.Ended a b same is = same ∙ is

  -- the shards, where marks and table stay
  shares_on : (s t : ShardingModel) (a b : Node Counts) → t ≡ s → b.marks ≡ a.marks → b.table ≡ a.table → IsSharing s a → IsSharing t b
  shares_on s t a b same marks table p = subst (λ x. IsSharing x b) (sym same) (record { marks = marks ∙ p.marks; slots = p.slots; table = λ x at. let h = p.table x at in (table ∙ h.0, h.1) })

  -- after that the node keeps the same, by the settled view
  found_part : (n m : State) (a : Node Counts) → IsPart n a → m.singleton ≡ n.singleton → m.sharding ≡ n.sharding → a.settled ≡ version_of (settled_of m)
      → IsPart m (record a { finished = Found (me_of n) (finished_in (margin_of m) (settled_of m)) a.finished })
  found_part n m a part single shares version = record {
    like =
        subst (λ s. IsLike (margin_of m) (settled_of m) s (record a { finished = Found (me_of n) (finished_in (margin_of m) (settled_of m)) a.finished })) (sym single) (record {
          runs = part.like.runs;
          settled_is = version;
          finished = λ q over. found_new (me_of n) (finished_in (margin_of m) (settled_of m)) a.finished q (finished_there (margin_of m) (settled_of m) q over);
          last = part.like.last;
          released = part.like.released;
          floor = part.like.floor;
          phase = phase_same n.singleton n.singleton.phase a (record a { finished = Found (me_of n) (finished_in (margin_of m) (settled_of m)) a.finished }) refl part.like.phase;
        });
    fits = subst (λ s. Fits s) (sym single) part.fits;
    sharing = shares_on n.sharding m.sharding a (record a { finished = Found (me_of n) (finished_in (margin_of m) (settled_of m)) a.finished }) shares refl refl part.sharing;
  }

  -- what a packet says, by its message
  said : (me : UniqueModel) (p : Envelope) → ((x : Said Counts) → Contains (said_to me p.message) x → heard p.from x) → (m : Message) → p.message ≡ m → (x : Said Counts) → Contains (said_to me m) x → heard p.from x
  said me p was_heard m is x there = was_heard x (subst (λ k. Contains (said_to me k) x) (sym is) there)

  -- ---- rules of the membership
  abbrev DoesHere : State → Node Counts → Outcome → Type 0
  DoesHere n a o = Does on aged removed heard stopped n a o

  module _ (n : State) (a : Node Counts) (part : IsPart n a) where
    membered : (given : Given) (o : membership.Outcome) → Learns given n.membership o → Leaves n.membership o → DoesHere n a (does n o)
    membered given o learns left =
        unmoved on aged removed heard stopped n (does n o).0 a (does n o).1
        (part_alike n (does n o).0 a part (ap (λ (x : SettingsModel). x.margin) left.settings) (ap (λ (x : SettledModel). x.view) left.settled) refl refl)
        learns.same_me (unsaid_update o.1.number o.1.effects)

    membered_for : (given : Given) (from : UniqueModel) (o : membership.Outcome) → Learns given n.membership o → Leaves n.membership o → DoesHere n a (does_for from n o)
    membered_for given from o learns left =
        unmoved on aged removed heard stopped n (does n o).0 a (does_for from n o).1
        (part_alike n (does n o).0 a part (ap (λ (x : SettingsModel). x.margin) left.settings) (ap (λ (x : SettledModel). x.view) left.settled) refl refl)
        learns.same_me (unsaid_both (does n o).1 _ (unsaid_update o.1.number o.1.effects) (unsaid_answer o.1.reply from (does n o).0))

    unless_does : (next : membership.Outcome → Outcome) (r : Result membership.Outcome MemberFault) (given : Given) → ((o : membership.Outcome) → Learns given n.membership o → Leaves n.membership o → DoesHere n a (next o))
        → IfOk r (λ o. Learns given n.membership o) → LeavesOk n.membership r → DoesHere n a (unless_refused next n r)
    unless_does next (Ok o) given each learns left = each o learns left
    unless_does next (Err why) given each learns left = unmoved on aged removed heard stopped n n a (action.Refused (number_of why) ∷ []) part refl (unsaid_none (action.Refused (number_of why) ∷ []) refl)

    still : (actions : List Action) → Unsaid actions → DoesHere n a (n, actions)
    still actions unsaid = unmoved on aged removed heard stopped n n a actions part refl unsaid

    joins : (target : AddressModel) → DoesHere n a (join target n)
    joins target = does_if on aged removed heard stopped n a (is_member n) (λ is. still [] (unsaid_none [] refl)) (λ is. by_member (is_member n))
      where
        by_member : (b : Bool) → DoesHere n a (record n { membership = if b then n.membership else record n.membership { target = Some target } }, to_address n target message.Join ∷ [])
        by_member true = still (to_address n target message.Join ∷ []) (unsaid_join n target)
        by_member false = unmoved on aged removed heard stopped n (record n { membership = record n.membership { target = Some target } }) a _ (part_alike n (record n { membership = record n.membership { target = Some target } }) a part refl refl refl refl) refl (unsaid_join n target)

    asks_again : (target : Option AddressModel) → DoesHere n a (asks_at target n)
    asks_again None = still [] (unsaid_none [] refl)
    asks_again (Some target) = still (to_address n target message.Join ∷ []) (unsaid_join n target)

    leaves : (who : UniqueModel) → DoesHere n a (leave who n)
    leaves who = unless_does (does n) (membership.leave who n.membership) nothing_given (membered nothing_given) (leave_learns nothing_given n.membership who) (leave_leaves n.membership who)

    downs : (who : UniqueModel) → DoesHere n a (down who n)
    downs who = unless_does (does n) (membership.down who n.membership) nothing_given (membered nothing_given) (down_learns nothing_given n.membership who) (down_leaves n.membership who)

    brings : GossipState → Given
    brings g = record { founds = false; asks = None; brings = Some g }

    asks_in : UniqueModel → Given
    asks_in from = record { founds = false; asks = Some from; brings = None }

    hears : (from : UniqueModel) (g : GossipState) → DoesHere n a (node.on_gossip from g n)
    unfolding brings
    hears from g = unless_does (does_for from n) (membership.on_gossip g n.membership) (brings g) (membered_for (brings g) from) (gossip_learns (brings g) n.membership g refl) (gossip_leaves n.membership g)

    is_asked_to : (from : UniqueModel) → DoesHere n a (node.on_join from n)
    unfolding asks_in
    is_asked_to from = unless_does (does_for from n) (membership.on_join from n.membership) (asks_in from) (membered_for (asks_in from) from) (join_learns (asks_in from) n.membership from refl) (join_leaves n.membership from)

    -- ---- what follows the update of a tick
    gossips_does : (to : Option UniqueModel) → DoesHere n a (gossips_to to n)
    gossips_does None = still [] (unsaid_none [] refl)
    gossips_does (Some to) = still _ (unsaid_each n (to ∷ []) (message.Gossip (known n)) (λ u. refl))

    exits_does : DoesHere n a (exits n)
    exits_does = unmoved on aged removed heard stopped n (exits n).0 a (exits n).1 (part_alike n (exits n).0 a part refl refl refl refl) refl (unsaid_each n (counted_members n) message.ExitingConfirmed (λ u. refl))

  rest_by : (word : ℕ) (n : State) (a : Node Counts) → IsPart n a → IsShown on aged removed (margin_of n) (settled_of n) → IsOwn on aged removed (me_of n) a → (status : Option Status)
      → DoesHere n a (and_then (gossips word) (and_then (shards_do hosts.asks_homes) (and_then (shards_do coordinates.coordinates) (asks_as status n))))
  rest_by word n a part shown own None =
      let d = asks_does on aged removed heard stopped n a part shown None own in
      let e = does_then on aged removed heard stopped n a (shards_do coordinates.coordinates) (asks_as None n) d (coordinates_do on aged removed heard stopped n _ d.part shown (bound_asked on aged removed heard stopped n a part shown None own)) in
      let m = (shards_do coordinates.coordinates n).0 in
      let f = does_then on aged removed heard stopped n a (shards_do hosts.asks_homes) (and_then (shards_do coordinates.coordinates) (asks_as None n)) e (asks_homes_do on aged removed heard stopped m _ e.part shown) in
      let k = (shards_do hosts.asks_homes m).0 in
      does_then on aged removed heard stopped n a (gossips word) (and_then (shards_do hosts.asks_homes) (and_then (shards_do coordinates.coordinates) (asks_as None n))) f (gossips_does k _ f.part (ticks.gossip_peer word k.membership))
  rest_by word n a part shown own (Some status) =
      let d = asks_does on aged removed heard stopped n a part shown (Some status) own in
      let j = (asks_as (Some status) n).0 in
      let e = does_then on aged removed heard stopped n a (shards_do coordinates.coordinates) (asks_as (Some status) n) d (coordinates_do on aged removed heard stopped j _ d.part shown (bound_asked on aged removed heard stopped n a part shown (Some status) own)) in
      let m = (shards_do coordinates.coordinates j).0 in
      let f = does_then on aged removed heard stopped n a (shards_do hosts.asks_homes) (and_then (shards_do coordinates.coordinates) (asks_as (Some status) n)) e (asks_homes_do on aged removed heard stopped m _ e.part shown) in
      let k = (shards_do hosts.asks_homes m).0 in
      does_then on aged removed heard stopped n a (gossips word) (and_then (shards_do hosts.asks_homes) (and_then (shards_do coordinates.coordinates) (asks_as (Some status) n))) f (gossips_does k _ f.part (ticks.gossip_peer word k.membership))

  rest_does : (word : ℕ) (n : State) (a : Node Counts) → IsPart n a → IsShown on aged removed (margin_of n) (settled_of n) → IsOwn on aged removed (me_of n) a → DoesHere n a (rest word n)
  rest_does word n a part shown own = rest_by word n a part shown own (status_of n)

  -- after the end of its phase no ballot of the node is live
  ended_phase : (settled : SettledView) (s : SingletonModel) (ph : Phase) → s.phase ≡ ph → (ended_from ph settled s).phase ≡ phase.Ended
  ended_phase settled s phase.Younger at = refl
  ended_phase settled s phase.Asking at = refl
  ended_phase settled s phase.Active at = refl
  ended_phase settled s phase.Ended at = at

  ended_own : (n : State) (b : Node Counts) → IsPart (ends_phase n).0 b → IsOwn on aged removed (me_of n) b
  ended_own n b part t live =
      let is : b.phase ≡ moves.Ended = subst (λ ph. HasPhase (ended (settled_of n) n.singleton) ph b) (ended_phase (settled_of n) n.singleton n.singleton.phase refl) part.like.phase in
      absurd (subst (λ ph. IsLive (l on aged removed) IsLater ph t) is live)

  goes_does : (word : ℕ) (n : State) (a : Node Counts) → IsPart n a → IsShown on aged removed (margin_of n) (settled_of n) → IsOwn on aged removed (me_of n) a → DoesHere n a (goes_on word n)
  goes_does word n a part shown own =
      does_if on aged removed heard stopped n a (is_gone n) (λ is. still n a part [] (unsaid_none [] refl)) (λ is.
      does_if on aged removed heard stopped n a (is_member_with is_exiting (known n).view.standings (me_of n))
      (λ is. let d = ends_does on aged removed heard stopped n a part shown own in
      let m = (ends_phase n).0 in
      does_then on aged removed heard stopped n a (node.leaves word) (ends_phase n) d
      (does_if on aged removed heard stopped m _ (may_leave m) (λ may. exits_does m _ d.part) (λ may. rest_does word m _ d.part shown (ended_own n _ d.part))))
      (λ is. rest_does word n a part shown own))

  -- ---- a tick
  module _ (n : State) (a : Node Counts) (part : IsPart n a) (own : IsOwn on aged removed (me_of n) a) where
    ticks_does : (word : ℕ) → is_member n ≡ true → IsSure (margin_of n) (ticked (margin_of n) (settled_of n)) → DoesHere n a (and_then (goes_on word) (node.ticked n (ticks.tick n.membership)))
    ticks_does word member sure =
        let t = ticks.tick n.membership in
        let m : State = (node.ticked n t).0 in
        let w = tick_waits n.membership member in
        let view_is : settled_of m ≡ ticked (margin_of n) (settled_of n) = ap (λ (x : SettledModel). x.view) w.0 in
        let margin_is : margin_of m ≡ margin_of n = ap (λ (x : SettingsModel). x.margin) w.1 in
        let sure_m : IsSure (margin_of m) (settled_of m) = subst (λ k. IsSure k (settled_of m)) (sym margin_is) (subst (IsSure (margin_of n)) (sym view_is) sure) in
        let version : a.settled ≡ version_of (settled_of m) = part.like.settled_is ∙ sym (version_ticked (margin_of n) (settled_of n)) ∙ ap version_of (sym view_is) in
        let qs = finished_in (margin_of m) (settled_of m) in
        let me_is : me_of m ≡ me_of n = (tick_learns nothing_given n.membership).same_me in
        let after_is = after_finds (l on aged removed) IsLater heard stopped (me_of n) a qs in
        let part_m : IsPart m (record a { finished = Found (me_of n) qs a.finished }) = found_part n m a part refl refl version in
        let first : DoesHere n a (node.ticked n t) = record {
          list = Finds (me_of n) qs;
          local = finds_local (me_of n) a (margin_of m) (settled_of m) sure_m part.like.runs version qs (λ q there. there_finished (margin_of m) (settled_of m) q there);
          part = subst (IsPart m) (sym after_is) part_m;
          says = λ p there x x_says. absurd (contains_nothing x (subst (λ k. Contains k x) (unsaid_ticked n t p there) x_says));
          same_me = me_is;
        } in
        does_then on aged removed heard stopped n a (goes_on word) (node.ticked n t) first
        (goes_does word m (changed_all (l on aged removed) IsLater a (Finds (me_of n) qs)) first.part sure_m.shown
        (subst (IsOwn on aged removed (me_of m)) (sym after_is) (subst (λ u. IsOwn on aged removed u a) (sym me_is) own)))
      where
        version_ticked : (margin : ℕ) (v : SettledView) → version_of (ticked margin v) ≡ version_of v
        version_ticked margin None = refl
        version_ticked margin (Some noted) = refl

    -- ---- a rule. What comes in a packet was heard from its sender; at a tick of a member the settled view has waited for a tick more.
    module _ (shown : IsShown on aged removed (margin_of n) (settled_of n)) where
      -- what a packet says to this process was heard, and it reports each shard once at most
      abbrev pub WasToldOnce : Envelope → Type 0
      WasToldOnce p =
          ((x : Said Counts) → Contains (said_to (me_of n) p.message) x → heard p.from x)
          × ((b : BallotModel) (floor : Counts) (told : List Report) → p.message ≡ message.Granted b floor told → EachOnce told)

      pub told_does : (p : Envelope) → WasToldOnce p → (m : Message) → p.message ≡ m → DoesHere n a (on_message p.from m n)
      told_does p was_heard message.Join is = is_asked_to n a part p.from
      told_does p was_heard (message.Welcome g) is = hears n a part p.from g
      told_does p was_heard (message.Gossip g) is = hears n a part p.from g
      told_does p was_heard message.Heartbeat is = does_if on aged removed heard stopped n a (is_member n) (λ _. still n a part _ (unsaid_each n (p.from ∷ []) message.HeartbeatReply (λ u. refl))) (λ _. still n a part [] (unsaid_none [] refl))
      told_does p was_heard message.HeartbeatReply is =
          does_if on aged removed heard stopped n a (is_member n)
          (λ _. let m : State = record n { membership = membership.on_heard p.from n.membership } in unmoved on aged removed heard stopped n m a [] (part_alike n m a part refl refl refl refl) refl (unsaid_none [] refl))
          (λ _. still n a part [] (unsaid_none [] refl))
      told_does p was_heard message.ExitingConfirmed is = does_if on aged removed heard stopped n a (is_member n) (λ _. by_member (standing.is_member (known n).view.standings p.from)) (λ _. still n a part [] (unsaid_none [] refl))
        where
          by_member : (b : Bool) → DoesHere n a (nothing (record n { membership = if b then record n.membership { confirmed = with_one n.membership.confirmed p.from } else n.membership }))
          by_member true = let m : State = record n { membership = record n.membership { confirmed = with_one n.membership.confirmed p.from } } in unmoved on aged removed heard stopped n m a [] (part_alike n m a part refl refl refl refl) refl (unsaid_none [] refl)
          by_member false = still n a part [] (unsaid_none [] refl)
      told_does p was_heard (message.Ask b) is = ask_does on aged removed heard stopped n a part shown p.from b (said (me_of n) p was_heard.0 (message.Ask b) is _ (contains_first _ []))
      told_does p was_heard (message.Granted b floor reports) is = granted_does on aged removed heard stopped n a part shown p.from b floor reports (was_heard.1 b floor reports is) (said (me_of n) p was_heard.0 (message.Granted b floor reports) is _ (contains_first _ []))
      told_does p was_heard (message.Busy b held) is = busy_does on aged removed heard stopped n a part shown b held p.from (said (me_of n) p was_heard.0 (message.Busy b held) is _ (contains_rest (moves.Names b) (moves.Names held) (moves.Names held ∷ []) (contains_first (moves.Names held) [])))
      told_does p was_heard (message.Old b last) is = old_does on aged removed heard stopped n a part shown own b last
      told_does p was_heard (message.HandOverToMe b) is = hand_over_does on aged removed heard stopped n a part shown p.from b (said (me_of n) p was_heard.0 (message.HandOverToMe b) is _ (contains_first _ []))
      told_does p was_heard (message.HandOverDone b floor) is = done_does on aged removed heard stopped n a part shown b floor p.from (said (me_of n) p was_heard.0 (message.HandOverDone b floor) is _ (contains_first _ []))
      told_does p was_heard (message.Release b floor) is = release_does on aged removed heard stopped n a part shown b floor p.from (said (me_of n) p was_heard.0 (message.Release b floor) is _ (contains_first _ []))
      told_does p was_heard (message.Leave who) is = leaves n a part who
      told_does p was_heard (message.Down who) is = downs n a part who
      told_does p was_heard (message.GetHome b shard) is = on_shards_does on aged removed heard stopped n a part shown own p.from (message.GetHome b shard) (said (me_of n) p was_heard.0 (message.GetHome b shard) is)
      told_does p was_heard (message.Home b shard owner) is = on_shards_does on aged removed heard stopped n a part shown own p.from (message.Home b shard owner) (said (me_of n) p was_heard.0 (message.Home b shard owner) is)
      told_does p was_heard (message.HostShard b shard number) is = on_shards_does on aged removed heard stopped n a part shown own p.from (message.HostShard b shard number) (said (me_of n) p was_heard.0 (message.HostShard b shard number) is)
      told_does p was_heard (message.ShardStarted b shard number) is = on_shards_does on aged removed heard stopped n a part shown own p.from (message.ShardStarted b shard number) (said (me_of n) p was_heard.0 (message.ShardStarted b shard number) is)
      told_does p was_heard (message.BeginHandOff b shard number) is = on_shards_does on aged removed heard stopped n a part shown own p.from (message.BeginHandOff b shard number) (said (me_of n) p was_heard.0 (message.BeginHandOff b shard number) is)
      told_does p was_heard (message.BeginHandOffAck b shard number) is = on_shards_does on aged removed heard stopped n a part shown own p.from (message.BeginHandOffAck b shard number) (said (me_of n) p was_heard.0 (message.BeginHandOffAck b shard number) is)
      told_does p was_heard (message.HandOff b shard number) is = on_shards_does on aged removed heard stopped n a part shown own p.from (message.HandOff b shard number) (said (me_of n) p was_heard.0 (message.HandOff b shard number) is)
      told_does p was_heard (message.ShardStopped b shard number) is = on_shards_does on aged removed heard stopped n a part shown own p.from (message.ShardStopped b shard number) (said (me_of n) p was_heard.0 (message.ShardStopped b shard number) is)
      told_does p was_heard (message.Forward entity payload) is = does_if on aged removed heard stopped n a (is_entity_at entity n) (λ _. on_shards_does on aged removed heard stopped n a part shown own p.from (message.Forward entity payload) (said (me_of n) p was_heard.0 (message.Forward entity payload) is)) (λ _. still n a part [] (unsaid_none [] refl))
      told_does p was_heard (message.Offer entity payload) is = does_if on aged removed heard stopped n a (is_entity_at entity n) (λ _. offer_does on aged removed heard stopped n a part shown entity payload) (λ _. still n a part [] (unsaid_none [] refl))

      -- what is known of the settled view after a tick's wait, at a tick of a member
      abbrev pub WaitsSurely : NodeEvent → Type 0
      WaitsSurely (event.Tick word) = is_member n ≡ true → IsSure (margin_of n) (ticked (margin_of n) (settled_of n))
      WaitsSurely other = Unit {0}

      abbrev pub WasHeard : NodeEvent → Type 0
      WasHeard (event.Packet p) = WasToldOnce p
      WasHeard other = Unit {0}

      pub rule_does : (e : NodeEvent) → WaitsSurely e → WasHeard e → DoesHere n a (rule e n)
      rule_does event.Found sure was_heard = membered n a part nothing_founds (membership.found n.membership) (found_learns nothing_founds n.membership refl) (found_leaves n.membership)
        where
          nothing_founds : Given
          nothing_founds = record { founds = true; asks = None; brings = None }
      rule_does (event.Join target) sure was_heard = joins n a part target
      rule_does (event.Tick word) sure was_heard = does_if on aged removed heard stopped n a (is_member n) (λ member. ticks_does word member (sure member)) (λ is. asks_again n a part n.membership.target)
      rule_does (event.Packet p) sure was_heard = told_does p was_heard p.message refl
      rule_does (event.Leave who) sure was_heard = leaves n a part who
      rule_does (event.Down who) sure was_heard = downs n a part who
      rule_does (event.Offer entity payload) sure was_heard = offer_does on aged removed heard stopped n a part shown entity payload
      rule_does event.Stop sure was_heard = let m : State = (stop n).0 in unmoved on aged removed heard stopped n m a [] (part_alike n m a part refl refl refl refl) refl (unsaid_none [] refl)

  -- ---- the closing
  pub record Ends (n : State) (a : Node Counts) (o : Outcome) : Type 0 where
    pub list : List (Move Counts)
    pub local : AllLocal (l on aged removed) IsLater heard stopped (me_of n) a list
    pub after : IsAfter o.0 (changed_all (l on aged removed) IsLater a list)
    pub says : SaysNoMore on aged removed heard stopped a list o.1
    pub same_me : me_of o.0 ≡ me_of n

  ends_then : (n : State) (a : Node Counts) (next : State → Outcome) (o : Outcome) (d : DoesHere n a o) → Ends o.0 (changed_all (l on aged removed) IsLater a d.list) (next o.0) → Ends n a (and_then next o)
  ends_then n a next o d f = record {
    list = d.list ++ f.list;
    local = local_append (l on aged removed) IsLater heard stopped (me_of n) a d.list f.list d.local (subst (λ u. AllLocal (l on aged removed) IsLater heard stopped u (changed_all (l on aged removed) IsLater a d.list) f.list) d.same_me f.local);
    after = subst (IsAfter (next o.0).0) (sym (changed_append (l on aged removed) IsLater a d.list f.list)) f.after;
    says = λ p there x x_says. elim (contains_either (sent o.1) (sent (next o.0).1) p (subst (λ k. Contains k p) (sent-append o.1 (next o.0).1) there)) [
      | inl before ↦ speaks_first (l on aged removed) IsLater a d.list f.list x (d.says p before x x_says)
      | inr last ↦ speaks_then (l on aged removed) IsLater a d.list f.list x (f.says p last x x_says)
    ];
    same_me = f.same_me ∙ d.same_me;
  }

  -- a part after which the node runs
  ends_running : (n : State) (a : Node Counts) (o : Outcome) → IsTrue o.0.runs → DoesHere n a o → Ends n a o
  ends_running n a o runs d = record {
    list = d.list;
    local = d.local;
    after = record { running = λ _. d.part; over = λ is. absurd (true≢false (sym runs ∙ is)) };
    says = d.says;
    same_me = d.same_me;
  }

  -- what is known of the view that a closing notes
  pub record IsNoted (m : State) : Type 0 where
    pub sure : IsSure (margin_of m) (after_note (known m).version (known m).view.standings m.membership.settled).view
    pub below : Covers (known m).version (version_of (settled_of m))
    pub stays : ¬ (removed (known m).version (me_of m))

  unsaid_due : (c : Closing) → Unsaid (due c)
  unsaid_due c = unsaid_none (due c) (due_sent c.viewed c.stopped c.settled)

  -- the closing forgets homes
  forgets_part : (c : State) (b : Node Counts) → IsPart c b → IsPart (forgets c) b
  forgets_part c b part = by_runs c.runs
    where
      by_runs : (r : Bool) → IsPart (sharing (if r then (hosts.forgets (around c) c.sharding).0 else c.sharding) c) b
      by_runs true = record { like = part.like; fits = part.fits; sharing = (forgets_kept on aged removed heard stopped (around c) c.sharding b (record { like = part.like; sharing = part.sharing })).sharing }
      by_runs false = record { like = part.like; fits = part.fits; sharing = part.sharing }

  module _ (m : State) (a : Node Counts) (part : IsPart m a) where
    abbrev noted_view : SettledModel
    noted_view = after_note (known m).version (known m).view.standings m.membership.settled

    -- a view is noted, and all that are finished by it are found
    notes_does : notes (not m.runs) m.membership ≡ true → IsNoted m → DoesHere m a (closes m)
    notes_does is noted =
        let c : State = (closes m).0 in
        let settled_is : c.membership.settled ≡ noted_view = ap (λ b. if b then noted_view else m.membership.settled) is in
        let x : State = record m { membership = record m.membership { settled = noted_view } } in
        let v = (known m).version in
        let b : Node Counts = changed (l on aged removed) IsLater a (moves.Move.Note (me_of m) v) in
        let qs = finished_in (margin_of m) noted_view.view in
        let part_b : IsPart x (record b { finished = Found (me_of m) qs b.finished }) =
        record {
          like = record {
            runs = part.like.runs;
            settled_is = refl;
            finished = λ q over. found_new (me_of m) qs b.finished q (finished_there (margin_of m) noted_view.view q over);
            last = part.like.last;
            released = part.like.released;
            floor = part.like.floor;
            phase = phase_same m.singleton m.singleton.phase a (record b { finished = Found (me_of m) qs b.finished }) refl part.like.phase;
          };
          fits = part.fits;
          sharing = shares_on m.sharding m.sharding a (record b { finished = Found (me_of m) qs b.finished }) refl refl refl part.sharing;
        } in
        record {
          list = moves.Move.Note (me_of m) v ∷ Finds (me_of m) qs;
          local = (
            refl,
            part.like.runs,
            (noted.sure.shown.known.settles refl, subst (Covers v) (sym part.like.settled_is) noted.below, noted.stays),
            finds_local (me_of m) b (margin_of m) noted_view.view noted.sure part.like.runs refl qs (λ q there. there_finished (margin_of m) noted_view.view q there),
          );
          part =
              subst (IsPart c) (sym (after_finds (l on aged removed) IsLater heard stopped (me_of m) b qs))
              (part_alike x c (record b { finished = Found (me_of m) qs b.finished }) part_b refl (ap (λ (k : SettledModel). k.view) settled_is) refl refl);
          says = λ p there y y_says. absurd (contains_nothing y (subst (λ k. Contains k y) (unsaid_due (closing.close (not m.runs) m.membership).1 p there) y_says));
          same_me = refl;
        }

    -- nothing is noted
    rests_does : notes (not m.runs) m.membership ≡ false → DoesHere m a (closes m)
    rests_does is =
        let c : State = (closes m).0 in
        let settled_is : c.membership.settled ≡ m.membership.settled = ap (λ b. if b then noted_view else m.membership.settled) is in
        unmoved on aged removed heard stopped m c a (closes m).1 (part_alike m c a part refl (ap (λ (k : SettledModel). k.view) settled_is) refl refl) refl (unsaid_due (closing.close (not m.runs) m.membership).1)

    -- the node stops
    stops_ends : stops (not m.runs) m.membership ≡ true → Ends m a (concludes m)
    stops_ends is =
        let o = concludes m in
        let rests : o.0.runs ≡ false = ap not is in
        record {
          list = moves.Move.Stop (me_of m) ∷ [];
          local = (refl, part.like.runs, tt, tt);
          after = record { running = λ runs. absurd (true≢false (sym runs ∙ rests)); over = λ _. refl };
          says = λ p there x x_says. absurd (contains_nothing x (subst (λ k. Contains k x) (unsaid_all p there) x_says));
          same_me = refl;
        }
      where
        unsaid_all : Unsaid (concludes m).1
        unsaid_all = unsaid_both (closes m).1 (activates (forgets (closes m).0)).1 (unsaid_due (closing.close (not m.runs) m.membership).1) (unsaid_active ((closes m).0.runs && may_activate (me_of m) (settled_of (closes m).0) (margin_of m) m.singleton) (forgets (closes m).0))
          where
            unsaid_told : (o : Option BallotModel) → Unsaid (told_active o)
            unsaid_told None = unsaid_none [] refl
            unsaid_told (Some b) = unsaid_none (action.Active b.term ∷ []) refl

            unsaid_active : (b : Bool) (x : State) → Unsaid (becomes_active b x).1
            unsaid_active true x = unsaid_told x.singleton.live
            unsaid_active false x = unsaid_none [] refl

    -- the node goes on: it notes its view where that is due, and may become active
    goes_ends : stops (not m.runs) m.membership ≡ false → (notes (not m.runs) m.membership ≡ true → IsNoted m) → IsShown on aged removed (margin_of m) (settled_of m) → Ends m a (concludes m)
    goes_ends is noted shown = ends_running m a (concludes m) (ap not is) (by_notes (notes (not m.runs) m.membership) refl)
      where
        activates_after : (d : DoesHere m a (closes m)) → IsShown on aged removed (margin_of (closes m).0) (settled_of (closes m).0) → DoesHere m a (concludes m)
        activates_after d s =
            let c : State = forgets (closes m).0 in
            let e : DoesHere m a (c, (closes m).1) = record { list = d.list; local = d.local; part = forgets_part (closes m).0 _ d.part; says = d.says; same_me = d.same_me } in
            does_then on aged removed heard stopped m a activates (c, (closes m).1) e
            (active_does on aged removed heard stopped c _ e.part s (c.runs && may_activate (me_of c) (settled_of c) (margin_of c) c.singleton) (λ both. second_so c.runs _ both))

        by_notes : (b : Bool) → notes (not m.runs) m.membership ≡ b → DoesHere m a (concludes m)
        by_notes true due_is =
            let n = noted due_is in
            activates_after (notes_does due_is n) (subst (λ (k : SettledModel). IsShown on aged removed (margin_of m) k.view) (sym (ap (λ b. if b then noted_view else m.membership.settled) due_is)) n.sure.shown)
        by_notes false due_is =
            activates_after (rests_does due_is) (subst (λ (k : SettledModel). IsShown on aged removed (margin_of m) k.view) (sym (ap (λ b. if b then noted_view else m.membership.settled) due_is)) shown)

    pub concludes_ends : (notes (not m.runs) m.membership ≡ true → IsNoted m) → IsShown on aged removed (margin_of m) (settled_of m) → Ends m a (concludes m)
    concludes_ends noted shown = by_stops (stops (not m.runs) m.membership) refl
      where
        by_stops : (b : Bool) → stops (not m.runs) m.membership ≡ b → Ends m a (concludes m)
        by_stops true is = stops_ends is
        by_stops false is = goes_ends is noted shown

  -- ---- a step
  -- What is given for a step of a node that runs: what its packet says was heard; what is known of its settled view, as it is, after
  -- a tick's wait, after the rule, and where one is noted; and that a live ballot is the last one, and the node's own.
  pub record Premises (e : NodeEvent) (n : State) (a : Node Counts) : Type 0 where
    pub part : IsPart n a
    pub own : IsOwn on aged removed (me_of n) a
    pub shown : IsShown on aged removed (margin_of n) (settled_of n)
    pub waits : WaitsSurely n a part own shown e
    pub was_heard : WasHeard n a part own shown e
    pub shown_then : IsShown on aged removed (margin_of (rule e n).0) (settled_of (rule e n).0)
    pub noted : notes (not (rule e n).0.runs) (rule e n).0.membership ≡ true → IsNoted (rule e n).0

  pub running_ends : (e : NodeEvent) (n : State) (a : Node Counts) → IsTrue n.runs → IsPart n a → (is_dead (me_of n) e ≡ false → Premises e n a) → Ends n a (running_step e n)
  running_ends e n a runs part given = by_dead (is_dead (me_of n) e) refl
    where
      lives : Premises e n a → Ends n a (and_then concludes (rule e n))
      lives p =
          let d = rule_does n a p.part p.own p.shown e p.waits p.was_heard in
          ends_then n a concludes (rule e n) d (concludes_ends (rule e n).0 _ d.part p.noted p.shown_then)

      by_dead : (b : Bool) → is_dead (me_of n) e ≡ b → Ends n a (if b then (n, action.Dead ∷ []) else and_then concludes (rule e n))
      by_dead true is = ends_running n a (n, action.Dead ∷ []) runs (still n a part (action.Dead ∷ []) (unsaid_none (action.Dead ∷ []) refl))
      by_dead false is = lives (given is)
