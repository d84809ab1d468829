-- The one walk over a node's rules: each does to what is known one thing at most. What is proved of a step is proved from this.
use Rattle.std.proofs.Common.{◌≡◌, ℕ, Bool, true, false, not, ◌&&◌, ◌||◌, inl, inr, if◌then◌else◌, List, [], ◌∷◌, ◌++◌, map, Option, Some, None, is_some, IsTrue, Contains, refl, sym, ap, ◌∙◌, subst, arith, true≢false, ◌+◌}
use Rattle.std.specs.Ordering.{eq_by_cmp}
use Rattle.ak_address.specs.Unique.{AddressModel, UniqueModel, unique_cmp}
use Rattle.ak_address.specs.Changed.{keys_of}
use Rattle.ak_address.specs.Uniques.{UniqueSet, has, with_one, in_order}
use Rattle.ak_address.proofs.Elements.{contains_nothing}
use Rattle.ak_address.proofs.TableLaws.{same_key}
use Rattle.ak_address.proofs.UniquesLaws.{has-with_one}
use Rattle.ak_clock.specs.Version.{Counts}
use Rattle.ak_member.specs.declared.status.Status.{Status}
use Rattle.ak_member.specs.Standing as standing
use Rattle.ak_member.specs.Standing.{is_exiting, is_member_with}
use Rattle.ak_gossip.specs.Gossip.{GossipState}
use Rattle.ak_membership.specs.Membership as membership
use Rattle.ak_membership.specs.Closing.{is_viewed, stops, notes}
use Rattle.ak_membership.specs.Knowledge.{Keeps, Learns}
use Rattle.ak_membership.proofs.Walk.{found_learns, leave_learns, down_learns, tick_learns, join_learns, gossip_learns}
use Rattle.ak_promise.specs.declared.promise.Answer.{Answer}
use Rattle.ak_promise.specs.declared.promise.Answer.TheVariants as given
use Rattle.ak_promise.specs.Ballot.{BallotModel}
use Rattle.ak_promise.specs.Promise.{is_some_ballot}
use Rattle.ak_shard_id.specs.declared.report.Report.{Report}
use Rattle.ak_sharding.specs.Sharding as sharding
use Rattle.ak_sharding.specs.Sharding.{ShardingModel, Around}
use Rattle.ak_sharding.specs.Hosts as hosts
use Rattle.ak_sharding.specs.Coordinates as coordinates
use Rattle.ak_sharding.specs.Packets as packets
use Rattle.ak_sharding.specs.Work.{AreWork}
use Rattle.ak_sharding.proofs.RuleWork.{work_updates, work_sent, offer_work, asks_homes_work, coordinates_work, message_work}
use Rattle.ak_singleton.specs.declared.phase.Phase.{Phase}
use Rattle.ak_singleton.specs.declared.phase.Phase.TheVariants as phase
use Rattle.ak_singleton.specs.declared.phase.TickRule.{TickRule}
use Rattle.ak_singleton.specs.Singleton.{SingletonModel, steps_of, active_term, is_outdone, after_old, after_activation}
use Rattle.ak_wire.specs.declared.envelope.Envelope.{Envelope}
use Rattle.ak_wire.specs.declared.envelope.Message.{Message}
use Rattle.ak_wire.specs.declared.envelope.Message.TheVariants as message
use Rattle.ak_wire.specs.declared.action.Action.{Action}
use Rattle.ak_wire.specs.declared.action.Action.TheVariants as action
use Rattle.ak_wire.specs.Wire.{sent, updates_of, gossip_of, says_it_stops}
use Rattle.ak_wire.proofs.Sending.{sent-append, updates-append}
use Rattle.ak_node.specs.declared.node.State.{State}
use Rattle.ak_node.specs.declared.node.NodeEvent.{NodeEvent}
use Rattle.ak_node.specs.declared.node.NodeEvent.TheVariants as event
use Rattle.ak_node.specs.Node.{Outcome, known, me_of, status_of, is_member, is_gone, nothing, and_then, to_address, does, does_for, join, leave, down, stop, asks_at, counted_members, exits, gossips_to, gossips, keeping, told_of, told_its_own, told_to_each, releases, needed_others, rule_on, does_rule, asks_as, told_end, let_go, ends_phase, told_active, becomes_active, activates, floor_of, reports_of, answered, is_asked, answers_ask, on_ask, takes_grant, on_granted, on_busy, on_old, has_handed_over, on_hand_over, on_release, on_done, goes_on, around, sharing, shards_do, offer, on_shards, takes, rest, may_leave, leaves, forgets, ends, beats, ticked, update_by, tick, on_gossip, on_confirmed, on_message, rule, if_so, closes, concludes, is_dead, running_step, step, is_entity_at}
use Rattle.ak_membership.specs.Tick as ticks
use Rattle.ak_membership.specs.Tick.{gossip_peer}
use Rattle.ak_node.specs.Change.{Changes, Quiet, IsConfirmed, given_by, asker_in}
use Rattle.ak_node.proofs.ChangeLemmas.{some_gossip, changes_after, IsAlike, itself, silent, still, quiet_if, quiet_then, Tells, tells_nothing, tells_both, tells_each, tells_one, tells_quiet, sends, one_sent, each_sent, each_made, changes_if, quietly, changes_then, does_changes, does_for_changes, unless_refused_changes}

no_gossip : (g h : GossipState) → None ≡ Some h → h ≡ g
no_gossip g h is = absurd (true≢false (sym (ap is_some is)))

-- ---- quiet parts
asks_quiet : (target : Option AddressModel) (n : State) → Quiet n (asks_at target n)
asks_quiet None n = still n
asks_quiet (Some target) n = one_sent n n (record { from = me_of n; to = target; uid = 0; message = message.Join }) (itself n) refl (no_gossip (known n)) refl

exits_quiet : (n : State) → Quiet n (exits n)
exits_quiet n =
    sends n (exits n).0 (exits n).1 (record { same = refl; me = refl; settings = refl; steps = refl; ran = λ r. absurd (true≢false (sym r)); ticks = refl; confirmed = refl; founder = refl })
    (each_made n (counted_members n) message.ExitingConfirmed)
    (λ p there. (each_sent n (counted_members n) message.ExitingConfirmed p there).0)
    (λ p g there is. no_gossip (known n) g (sym (ap gossip_of ((each_sent n (counted_members n) message.ExitingConfirmed p there).1)) ∙ is))
    (λ p there is r. true≢false (sym r))

gossips_quiet : (to : Option UniqueModel) (n : State) → Quiet n (gossips_to to n)
gossips_quiet None n = still n
gossips_quiet (Some to) n = one_sent n n (record { from = me_of n; to = to.address; uid = to.uid; message = message.Gossip (known n) }) (itself n) refl (some_gossip (known n)) refl

-- ---- promises and the singleton
keeps_alike : (n : State) (s : SingletonModel) → IsAlike n (keeping s n)
keeps_alike n s = record { same = refl; me = refl; settings = refl; steps = refl; ran = λ r. r; ticks = refl; confirmed = refl; founder = refl }

kept_alike : (n : State) (s : SingletonModel) (t : ShardingModel) → IsAlike n (keeping s (sharing t n))
kept_alike n s t = record { same = refl; me = refl; settings = refl; steps = refl; ran = λ r. r; ticks = refl; confirmed = refl; founder = refl }

-- ---- the shards
-- work on shards tells no more than packets of the process
pub work_tells : (me : UniqueModel) (actions : List Action) → AreWork me actions → Tells me actions
work_tells me actions w = record {
  made = work_updates me actions w;
  from = λ p there. (work_sent me actions w p there).0;
  bare = λ p there. (work_sent me actions w p there).1;
  stays = λ p there. (work_sent me actions w p there).2;
}

pub shards_quiet : (work : Around → ShardingModel → sharding.Outcome) (n : State) → AreWork (me_of n) (work (around n) n.sharding).1 → Quiet n (shards_do work n)
shards_quiet work n w = tells_quiet n _ (work (around n) n.sharding).1 (record { same = refl; me = refl; settings = refl; steps = refl; ran = λ r. r; ticks = refl; confirmed = refl; founder = refl }) (work_tells (me_of n) (work (around n) n.sharding).1 w)

offer_quiet : (entity : List ℕ) (payload : ℕ) (n : State) → Quiet n (offer entity payload n)
offer_quiet entity payload n = shards_quiet (λ a s. hosts.on_offer a entity payload s) n (offer_work (around n) entity payload n.sharding)

on_shards_quiet : (from : UniqueModel) (what : Message) (n : State) → Quiet n (on_shards from what n)
on_shards_quiet from what n = quiet_if n (is_member n) (λ is. shards_quiet (λ a s. packets.on_shard_message a from what s) n (message_work (around n) from what n.sharding)) (λ is. still n)

-- a part after which only the shards change
forgets_quiet : (n : State) (o : Outcome) → Quiet n o → Quiet n (forgets o.0, o.1)
forgets_quiet n o q = record { same = q.same; made = q.made; same_me = q.same_me; same_settings = q.same_settings; same_steps = q.same_steps; from = q.from; carried = q.carried; says = q.says; ran = q.ran; same_ticks = q.same_ticks; confirmed = q.confirmed; founder = q.founder }

pub of_tells : (o : Option BallotModel) (what : BallotModel → Message) → ((b : BallotModel) → gossip_of (what b) ≡ None) → ((b : BallotModel) → says_it_stops (what b) ≡ false) → (to : UniqueModel) (n : State) → Tells (me_of n) (told_of o what to n)
of_tells None what bare stays to n = tells_nothing (me_of n) [] refl refl
of_tells (Some b) what bare stays to n = tells_one n to (what b) (bare b) (stays b)

pub own_tells : (o : Option BallotModel) (n : State) → Tells (me_of n) (told_its_own o n)
own_tells None n = tells_nothing (me_of n) [] refl refl
own_tells (Some b) n = tells_one n b.unique (message.HandOverToMe b) refl refl

pub to_each_tells : (o : Option BallotModel) (what : BallotModel → Message) → ((b : BallotModel) → gossip_of (what b) ≡ None) → ((b : BallotModel) → says_it_stops (what b) ≡ false) → (to : UniqueSet) (n : State) → Tells (me_of n) (told_to_each o what to n)
to_each_tells None what bare stays to n = tells_nothing (me_of n) [] refl refl
to_each_tells (Some b) what bare stays to n = tells_each n (in_order to) (what b) (bare b) (stays b)

releases_tell : (to : UniqueSet) (n : State) → Tells (me_of n) (releases to n)
releases_tell to n = to_each_tells n.singleton.promise.last _ (λ b. refl) (λ b. refl) to n

rule_quiet : (r : TickRule) (n : State) → Quiet n (does_rule r n)
rule_quiet r n =
    let after : State = (does_rule r n).0 in
    let steps = steps_of r (me_of n) n.membership.settled.view n.membership.settings.margin n.singleton in
    tells_quiet n after (does_rule r n).1 (kept_alike n after.singleton after.sharding)
    (tells_both (me_of n) (told_its_own steps.hand_over_to after ++ releases steps.release after) _
    (tells_both (me_of n) (told_its_own steps.hand_over_to after) (releases steps.release after) (own_tells steps.hand_over_to after) (releases_tell steps.release after))
    (to_each_tells after.singleton.live message.Ask (λ b. refl) (λ b. refl) steps.ask after))

asks_as_quiet : (status : Option Status) (n : State) → Quiet n (asks_as status n)
asks_as_quiet None n = still n
asks_as_quiet (Some status) n = rule_quiet (rule_on status n) n

end_tells : (me : UniqueModel) (term : Option ℕ) → Tells me (told_end term)
end_tells me None = tells_nothing me [] refl refl
end_tells me (Some term) = tells_nothing me (action.Ended term ∷ []) refl refl

let_go_tells : (ph : Phase) (n : State) → Tells (me_of n) (let_go ph n)
let_go_tells phase.Younger n = tells_nothing (me_of n) [] refl refl
let_go_tells phase.Asking n = releases_tell (needed_others n) n
let_go_tells phase.Active n = releases_tell (needed_others n) n
let_go_tells phase.Ended n = tells_nothing (me_of n) [] refl refl

ends_quiet : (n : State) → Quiet n (ends_phase n)
ends_quiet n =
    tells_quiet n (ends_phase n).0 (ends_phase n).1 (kept_alike n (ends_phase n).0.singleton (ends_phase n).0.sharding)
    (tells_both (me_of n) (told_end (active_term n.singleton.phase n.singleton.live)) (let_go n.singleton.phase n) (end_tells (me_of n) (active_term n.singleton.phase n.singleton.live)) (let_go_tells n.singleton.phase n))

rest_quiet : (word : ℕ) (n : State) → Quiet n (rest word n)
rest_quiet word n =
    let a = (asks_as (status_of n) n).0 in
    let b = (shards_do coordinates.coordinates a).0 in
    let c = (shards_do hosts.asks_homes b).0 in
    quiet_then n (gossips word) (and_then (shards_do hosts.asks_homes) (and_then (shards_do coordinates.coordinates) (asks_as (status_of n) n)))
    (quiet_then n (shards_do hosts.asks_homes) (and_then (shards_do coordinates.coordinates) (asks_as (status_of n) n))
    (quiet_then n (shards_do coordinates.coordinates) (asks_as (status_of n) n) (asks_as_quiet (status_of n) n) (shards_quiet coordinates.coordinates a (coordinates_work (around a) a.sharding)))
    (shards_quiet hosts.asks_homes b (asks_homes_work (around b) b.sharding)))
    (gossips_quiet (gossip_peer word c.membership) c)

leaves_quiet : (word : ℕ) (n : State) → Quiet n (leaves word n)
leaves_quiet word n = quiet_if n (may_leave n) (λ is. exits_quiet n) (λ is. rest_quiet word n)

pub goes_quiet : (word : ℕ) (n : State) → Quiet n (goes_on word n)
goes_quiet word n =
    quiet_if n (is_gone n) (λ is. still n) (λ is.
    quiet_if n (is_member_with is_exiting (known n).view.standings (me_of n))
    (λ is. quiet_then n (leaves word) (ends_phase n) (ends_quiet n) (leaves_quiet word (ends_phase n).0))
    (λ is. rest_quiet word n))

active_tells : (me : UniqueModel) (o : Option BallotModel) → Tells me (told_active o)
active_tells me None = tells_nothing me [] refl refl
active_tells me (Some b) = tells_nothing me (action.Active b.term ∷ []) refl refl

becomes_quiet : (b : Bool) (n : State) → Quiet n (becomes_active b n)
becomes_quiet true n = tells_quiet n _ (told_active n.singleton.live) (keeps_alike n (after_activation true n.singleton)) (active_tells (me_of n) n.singleton.live)
becomes_quiet false n = tells_quiet n _ [] (keeps_alike n (after_activation false n.singleton)) (tells_nothing (me_of n) [] refl refl)

-- a message about a ballot
answer_tells : (a : Answer) (to : UniqueModel) (b : BallotModel) (n : State) → Tells (me_of n) (answered a to b n)
answer_tells given.Granted to b n = tells_one n to (message.Granted b (floor_of n) (reports_of n)) refl refl
answer_tells given.Old to b n = of_tells n.singleton.promise.last (λ last. message.Old b last) (λ last. refl) (λ last. refl) to n
answer_tells given.Busy to b n = of_tells n.singleton.promise.last (λ last. message.Busy b last) (λ last. refl) (λ last. refl) to n

kept_quiet : (s : SingletonModel) (actions : List Action) (n : State) → Tells (me_of n) actions → Quiet n (keeping s n, actions)
kept_quiet s actions n t = tells_quiet n (keeping s n) actions (keeps_alike n s) t

ask_quiet : (from : UniqueModel) (b : BallotModel) (n : State) → Quiet n (on_ask from b n)
ask_quiet from b n = quiet_if n (is_asked from b n) (λ is. kept_quiet (answers_ask from b n).0.singleton _ n (answer_tells _ from b n)) (λ is. still n)

granted_quiet : (from : UniqueModel) (b : BallotModel) (floor : Counts) (told : List Report) (n : State) → Quiet n (on_granted from b floor told n)
granted_quiet from b floor told n =
    quiet_if n (takes_grant from told n) (λ is. tells_quiet n (takes from b floor told n) [] (kept_alike n (takes from b floor told n).singleton (takes from b floor told n).sharding) (tells_nothing (me_of n) [] refl refl)) (λ is. still n)

busy_quiet : (b held : BallotModel) (n : State) → Quiet n (on_busy b held n)
busy_quiet b held n = quiet_if n (is_member n && is_some_ballot n.singleton.live b) (λ is. tells_quiet n n _ (itself n) (own_tells (Some held) n)) (λ is. still n)

old_quiet : (b last : BallotModel) (n : State) → Quiet n (on_old b last n)
old_quiet b last n =
    quiet_if n (is_member n)
    (λ is. tells_quiet n _ [] (kept_alike n (after_old (is_outdone b last n.singleton) b last n.singleton) (coordinates.begins_if (is_outdone b last n.singleton) (me_of n) n.sharding)) (tells_nothing (me_of n) [] refl refl))
    (λ is. still n)

hand_over_quiet : (from : UniqueModel) (b : BallotModel) (n : State) → Quiet n (on_hand_over from b n)
hand_over_quiet from b n = quiet_if n (is_member n && has_handed_over b n) (λ is. tells_quiet n n _ (itself n) (tells_one n from (message.HandOverDone b _) refl refl)) (λ is. still n)

done_quiet : (b : BallotModel) (floor : Counts) (n : State) → Quiet n (on_done b floor n)
done_quiet b floor n = quiet_if n (is_member n) (λ is. kept_quiet _ _ n (tells_each n (in_order (needed_others n)) (message.Release b floor) refl refl)) (λ is. still n)

release_quiet : (b : BallotModel) (floor : Counts) (n : State) → Quiet n (on_release b floor n)
release_quiet b floor n = quiet_if n (is_member n) (λ is. kept_quiet _ [] n (tells_nothing (me_of n) [] refl refl)) (λ is. still n)

-- the margins that end neither update nor send
ended_made : (whos : List UniqueModel) → updates_of (map action.MarginEnd whos) ≡ []
ended_made [] = refl
ended_made (who ∷ whos) = ended_made whos

pub ended_sent : (whos : List UniqueModel) → sent (map action.MarginEnd whos) ≡ []
ended_sent [] = refl
ended_sent (who ∷ whos) = ended_sent whos

-- what a tick tells before its update: heartbeats alone are sent
abbrev told_first : State → List Action
told_first n = ends n ++ beats n

first_made : (n : State) → updates_of (told_first n) ≡ []
first_made n = updates-append (ends n) (beats n) ∙ (λ i. ended_made n.membership.settled.just_ended i ++ each_made n (in_order (keys_of n.membership.detector)) message.Heartbeat i)

first_sent : (n : State) → sent (told_first n) ≡ sent (beats n)
first_sent n = sent-append (ends n) (beats n) ∙ ap (λ l. l ++ sent (beats n)) (ended_sent n.membership.settled.just_ended)

module _ (e : NodeEvent) (n : State) where
  -- ---- local events
  joining : (target : AddressModel) → Changes e n (join target n)
  joining target = changes_if e n (is_member n) (λ is. quietly e n (nothing n) (still n)) (λ is. by_member (is_member n))
    where
      -- the membership keeps the target, where it is no member
      by_member : (b : Bool) → Changes e n (record n { membership = if b then n.membership else record n.membership { target = Some target } }, to_address n target message.Join ∷ [])
      by_member true = quietly e n _ (one_sent n n (record { from = me_of n; to = target; uid = 0; message = message.Join }) (itself n) refl (no_gossip (known n)) refl)
      by_member false = quietly e n _ (one_sent n (record n { membership = record n.membership { target = Some target } }) (record { from = me_of n; to = target; uid = 0; message = message.Join })
          (record { same = refl; me = refl; settings = refl; steps = refl; ran = λ r. r; ticks = refl; confirmed = refl; founder = refl }) refl (no_gossip (known n)) refl)

  -- a heartbeat is a packet from the node that carries nothing
  is_beat : (m : State) (p : Envelope) → Contains (sent (told_first m)) p → (p.from ≡ me_of m) × (p.message ≡ message.Heartbeat)
  is_beat m p there = each_sent m (in_order (keys_of m.membership.detector)) message.Heartbeat p (subst (λ l. Contains l p) (first_sent m) there)

  ticked_changes : (o : membership.Outcome) → Learns (given_by e) n.membership o → Changes e n (ticked n o)
  ticked_changes o l =
      let after : State = record n { membership = o.0 } in
      changes_after e n (told_first after) after (update_by o.1.number o.1.effects) (does_changes e n o l) (first_made after)
      (λ p there. (is_beat after p there).0 ∙ l.same_me)
      (λ p g there is. no_gossip (known after) g (sym (ap gossip_of (is_beat after p there).1) ∙ is))
      (λ p there is. true≢false (sym is ∙ ap says_it_stops (is_beat after p there).1))

  ticking : (word : ℕ) → Changes e n (tick word n)
  ticking word =
      changes_if e n (is_member n)
      (λ is. changes_then e n (goes_on word) (ticked n (ticks.tick n.membership)) (ticked_changes (ticks.tick n.membership) (tick_learns (given_by e) n.membership)) (goes_quiet word (ticked n (ticks.tick n.membership)).0))
      (λ is. quietly e n (asks_at n.membership.target n) (asks_quiet n.membership.target n))

  -- also where a packet asks for it
  leaving : (who : UniqueModel) → Changes e n (leave who n)
  leaving who = unless_refused_changes e n (does n) (membership.leave who n.membership) (does_changes e n) (leave_learns (given_by e) n.membership who)

  downing : (who : UniqueModel) → Changes e n (down who n)
  downing who = unless_refused_changes e n (does n) (membership.down who n.membership) (does_changes e n) (down_learns (given_by e) n.membership who)

  -- ---- packets
  confirming : (p : Envelope) → e ≡ event.Packet p → says_it_stops p.message ≡ true → Changes e n (on_confirmed p.from n)
  confirming p is_packet says = changes_if e n (is_member n) (λ is. by_member (standing.is_member (known n).view.standings p.from)) (λ is. quietly e n (nothing n) (still n))
    where
      by_tie : (who : UniqueModel) (b : Bool) → eq_by_cmp unique_cmp who p.from ≡ b → (b || has n.membership.confirmed who) ≡ true → IsConfirmed e n who
      by_tie who true tied h = inr (p, is_packet, says, sym (same_key who p.from tied))
      by_tie who false tied h = inl h

      by_member : (b : Bool) → Changes e n (nothing (record n { membership = if b then record n.membership { confirmed = with_one n.membership.confirmed p.from } else n.membership }))
      by_member false = quietly e n (nothing n) (still n)
      by_member true = record {
        knowledge = Keeps;
        lawful = tt;
        knows = refl;
        made = refl;
        numbered = λ number effects none. absurd (contains_nothing _ none);
        same_me = refl;
        same_settings = refl;
        same_steps = refl;
        from = λ q none. absurd (contains_nothing q none);
        carried = λ q h none is. absurd (contains_nothing q none);
        says = λ q none is runs. contains_nothing q none;
        ran = λ r. r;
        ticked = omega arith;
        confirmed = λ who has_it. by_tie who (eq_by_cmp unique_cmp who p.from) refl (sym (has-with_one n.membership.confirmed p.from who) ∙ has_it);
        founder = λ f. inl f;
        founds = λ f. f;
      }

  hearing : (from : UniqueModel) (g : GossipState) → (given_by e).brings ≡ Some g → Changes e n (on_gossip from g n)
  hearing from g brings = unless_refused_changes e n (does_for from n) (membership.on_gossip g n.membership) (does_for_changes e n from) (gossip_learns (given_by e) n.membership g brings)

  being_told : (p : Envelope) → e ≡ event.Packet p → (m : Message) → p.message ≡ m → Changes e n (on_message p.from m n)
  being_told p is message.Join what =
      unless_refused_changes e n (does_for p.from n) (membership.on_join p.from n.membership) (does_for_changes e n p.from)
      (join_learns (given_by e) n.membership p.from (ap (λ (x : NodeEvent). (given_by x).asks) is ∙ ap (asker_in p.from) what))
  being_told p is (message.Welcome g) what = hearing p.from g (ap (λ (x : NodeEvent). (given_by x).brings) is ∙ ap gossip_of what)
  being_told p is (message.Gossip g) what = hearing p.from g (ap (λ (x : NodeEvent). (given_by x).brings) is ∙ ap gossip_of what)
  being_told p is message.Heartbeat what = changes_if e n (is_member n) (λ _. quietly e n _ (one_sent n n (record { from = me_of n; to = p.from.address; uid = p.from.uid; message = message.HeartbeatReply }) (itself n) refl (no_gossip (known n)) refl)) (λ _. quietly e n (nothing n) (still n))
  being_told p is message.HeartbeatReply what =
      changes_if e n (is_member n)
      (λ _. quietly e n _ (silent n (record n { membership = membership.on_heard p.from n.membership }) [] (record { same = refl; me = refl; settings = refl; steps = refl; ran = λ r. r; ticks = refl; confirmed = refl; founder = refl }) refl refl))
      (λ _. quietly e n (nothing n) (still n))
  being_told p is message.ExitingConfirmed what = confirming p is (ap says_it_stops what)
  being_told p is (message.Ask b) what = quietly e n _ (ask_quiet p.from b n)
  being_told p is (message.Granted b floor reports) what = quietly e n _ (granted_quiet p.from b floor reports n)
  being_told p is (message.Busy b held) what = quietly e n _ (busy_quiet b held n)
  being_told p is (message.Old b last) what = quietly e n _ (old_quiet b last n)
  being_told p is (message.HandOverToMe b) what = quietly e n _ (hand_over_quiet p.from b n)
  being_told p is (message.HandOverDone b floor) what = quietly e n _ (done_quiet b floor n)
  being_told p is (message.Release b floor) what = quietly e n _ (release_quiet b floor n)
  being_told p is (message.Leave who) what = leaving who
  being_told p is (message.Down who) what = downing who
  being_told p is (message.GetHome b shard) what = quietly e n _ (on_shards_quiet p.from (message.GetHome b shard) n)
  being_told p is (message.Home b shard owner) what = quietly e n _ (on_shards_quiet p.from (message.Home b shard owner) n)
  being_told p is (message.HostShard b shard number) what = quietly e n _ (on_shards_quiet p.from (message.HostShard b shard number) n)
  being_told p is (message.ShardStarted b shard number) what = quietly e n _ (on_shards_quiet p.from (message.ShardStarted b shard number) n)
  being_told p is (message.BeginHandOff b shard number) what = quietly e n _ (on_shards_quiet p.from (message.BeginHandOff b shard number) n)
  being_told p is (message.BeginHandOffAck b shard number) what = quietly e n _ (on_shards_quiet p.from (message.BeginHandOffAck b shard number) n)
  being_told p is (message.HandOff b shard number) what = quietly e n _ (on_shards_quiet p.from (message.HandOff b shard number) n)
  being_told p is (message.ShardStopped b shard number) what = quietly e n _ (on_shards_quiet p.from (message.ShardStopped b shard number) n)
  being_told p is (message.Forward entity payload) what = changes_if e n (is_entity_at entity n) (λ _. quietly e n _ (on_shards_quiet p.from (message.Forward entity payload) n)) (λ _. quietly e n (nothing n) (still n))
  being_told p is (message.Offer entity payload) what = changes_if e n (is_entity_at entity n) (λ _. quietly e n _ (offer_quiet entity payload n)) (λ _. quietly e n (nothing n) (still n))

pub rule_changes : (e : NodeEvent) (n : State) → Changes e n (rule e n)
rule_changes event.Found n = does_changes event.Found n (membership.found n.membership) (found_learns (given_by event.Found) n.membership refl)
rule_changes (event.Join target) n = joining (event.Join target) n target
rule_changes (event.Tick word) n = ticking (event.Tick word) n word
rule_changes (event.Packet p) n = being_told (event.Packet p) n p refl p.message refl
rule_changes (event.Leave who) n = leaving (event.Leave who) n who
rule_changes (event.Down who) n = downing (event.Down who) n who
rule_changes (event.Offer entity payload) n = quietly (event.Offer entity payload) n _ (offer_quiet entity payload n)
rule_changes event.Stop n = quietly event.Stop n (stop n) (silent n (stop n).0 [] (record { same = refl; me = refl; settings = refl; steps = refl; ran = λ r. absurd (true≢false (sym r)); ticks = refl; confirmed = refl; founder = refl }) refl refl)

-- ---- the closing
due_made : (a b c : Bool) → updates_of (if_so a action.View ++ if_so b action.Stopped ++ if_so c action.Settled) ≡ []
due_made true true true = refl
due_made true true false = refl
due_made true false true = refl
due_made true false false = refl
due_made false true true = refl
due_made false true false = refl
due_made false false true = refl
due_made false false false = refl

pub due_sent : (a b c : Bool) → sent (if_so a action.View ++ if_so b action.Stopped ++ if_so c action.Settled) ≡ []
due_sent true true true = refl
due_sent true true false = refl
due_sent true false true = refl
due_sent true false false = refl
due_sent false true true = refl
due_sent false true false = refl
due_sent false false true = refl
due_sent false false false = refl

-- a node that runs after its closing ran before it, and is not gone
pub ran_before : (runs gone : Bool) → not (not runs || gone) ≡ true → (runs ≡ true) × (gone ≡ false)
ran_before true true is = absurd (true≢false (sym is))
ran_before true false is = (refl, refl)
ran_before false gone is = absurd (true≢false (sym is))

closes_quiet : (n : State) → Quiet n (closes n)
closes_quiet n = silent n (closes n).0 (closes n).1
    (record { same = refl; me = refl; settings = refl; steps = refl; ran = λ r. (ran_before n.runs (is_gone n) r).0; ticks = refl; confirmed = refl; founder = refl })
    (due_made (is_viewed n.membership) (stops (not n.runs) n.membership) (notes (not n.runs) n.membership))
    (due_sent (is_viewed n.membership) (stops (not n.runs) n.membership) (notes (not n.runs) n.membership))

pub running_changes : (e : NodeEvent) (n : State) → Changes e n (running_step e n)
running_changes e n =
    changes_if e n (is_dead (me_of n) e) (λ is. quietly e n (n, action.Dead ∷ []) (silent n n (action.Dead ∷ []) (itself n) refl refl))
    (λ is. changes_then e n concludes (rule e n) (rule_changes e n)
    (quiet_then (rule e n).0 activates (forgets (closes (rule e n).0).0, (closes (rule e n).0).1) (forgets_quiet (rule e n).0 (closes (rule e n).0) (closes_quiet (rule e n).0)) (becomes_quiet _ (forgets (closes (rule e n).0).0))))

-- the step of a node that runs, as that of the node with one step more
pub step_is : (e : NodeEvent) (n : State) → IsTrue n.runs → step e n ≡ running_step e (record n { steps = n.steps + 1 })
step_is e n runs = ap (λ b. if b then running_step e (record n { steps = n.steps + 1 }) else nothing n) runs

pub step_changes : (e : NodeEvent) (n : State) → IsTrue n.runs → Changes e (record n { steps = n.steps + 1 }) (step e n)
step_changes e n runs = subst (Changes e (record n { steps = n.steps + 1 })) (sym (step_is e n runs)) (running_changes e (record n { steps = n.steps + 1 }))
