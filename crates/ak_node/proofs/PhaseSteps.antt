-- How the phase of the singleton and what a step tells of it go together: a node tells that it is active exactly where it becomes so,
-- and where it is so no more, it told that, or that it stops.
use Rattle.std.proofs.Common.{◌≡◌, ℕ, Bool, true, false, not, ◌&&◌, inl, inr, ◌⊎◌, if◌then◌else◌, List, [], ◌∷◌, ◌++◌, map, Option, Some, None, is_some, Result, Ok, Err, IsTrue, Contains, refl, sym, ap, ◌∙◌, subst, true≢false, ◌+◌}
use Rattle.ak_address.specs.Unique.{AddressModel, UniqueModel}
use Rattle.ak_address.specs.Changed.{keys_of}
use Rattle.ak_address.specs.Uniques.{UniqueSet, in_order}
use Rattle.ak_address.proofs.Elements.{contains_first, contains_nothing, contains_either, contains_left, contains_right, first_or_rest}
use Rattle.ak_clock.specs.Version.{Counts}
use Rattle.ak_member.specs.declared.effect.Effect.{Effect}
use Rattle.ak_member.specs.declared.status.Status.{Status}
use Rattle.ak_member.specs.Standing.{is_exiting, is_member_with}
use Rattle.ak_membership.specs.declared.change.MemberFault.{MemberFault}
use Rattle.ak_membership.specs.declared.change.Reply.{Reply}
use Rattle.ak_membership.specs.declared.change.Reply.TheVariants as reply
use Rattle.ak_membership.specs.Membership as membership
use Rattle.ak_membership.specs.Closing.{stops, notes, is_viewed}
use Rattle.ak_membership.specs.Tick as ticks
use Rattle.ak_promise.specs.declared.promise.Answer.{Answer}
use Rattle.ak_promise.specs.declared.promise.Answer.TheVariants as given
use Rattle.ak_promise.specs.Ballot.{BallotModel}
use Rattle.ak_promise.specs.Promise.{is_some_ballot, released_by}
use Rattle.ak_settled.specs.Settled.{version_of}
use Rattle.ak_sharding.specs.Sharding as sharding
use Rattle.ak_sharding.specs.Sharding.{ShardingModel, Around}
use Rattle.ak_sharding.specs.Hosts as hosts
use Rattle.ak_sharding.specs.Coordinates as coordinates
use Rattle.ak_sharding.specs.Packets as packets
use Rattle.ak_sharding.specs.Work.{IsWork, AreWork}
use Rattle.ak_sharding.proofs.RuleWork.{offer_work, asks_homes_work, coordinates_work, message_work}
use Rattle.ak_singleton.specs.declared.phase.Phase.{Phase}
use Rattle.ak_singleton.specs.declared.phase.Phase.TheVariants.{Younger, Asking, Active, Ended}
use Rattle.ak_singleton.specs.declared.phase.TickRule.{TickRule}
use Rattle.ak_singleton.specs.declared.phase.TickRule.TheVariants.{Rests, Opens, HandsOver, Closes, Asks}
use Rattle.ak_singleton.specs.Singleton.{SingletonModel, steps_of, takes_part, is_candidate, may_open, rule_of, after_rule, is_first_grant, after_granted, is_outdone, after_old, active_term, ended, ended_from, may_activate, after_activation}
use Rattle.ak_singleton.specs.SingletonView.{HasLive}
use Rattle.ak_singleton.proofs.LiveKept.{Fits, rule_fits, granted_fits, old_fits, ended_fits, activation_fits}
use Rattle.ak_singleton.proofs.RulesMeant.{activation_is}
use Rattle.ak_wire.specs.declared.envelope.Message.{Message}
use Rattle.ak_wire.specs.declared.envelope.Message.TheVariants as message
use Rattle.ak_wire.specs.declared.action.Action.{Action}
use Rattle.ak_wire.specs.declared.action.Action.TheVariants as action
use Rattle.ak_node.specs.declared.node.State.{State}
use Rattle.ak_node.specs.declared.node.NodeEvent.{NodeEvent}
use Rattle.ak_node.specs.declared.node.NodeEvent.TheVariants as event
use Rattle.ak_node.specs.Node as node
use Rattle.ak_node.specs.Node.{around, sharing, shards_do, offer, on_shards, takes, rest, may_leave, leaves, forgets, Outcome, known, me_of, settled_of, margin_of, is_member, is_gone, number_of, and_then, to_process, to_each, to_address, answer, update_by, does, does_for, unless_refused, join, leave, down, stop, asks_at, counted_members, exits, gossips_to, gossips, keeping, promising, told_of, told_its_own, told_to_each, releases, needed_others, rule_on, does_rule, status_of, asks_as, told_end, let_go, ends_phase, told_active, becomes_active, answered, is_asked, answers_ask, takes_grant, has_handed_over, goes_on, ends, beats, tick, on_message, rule, if_so, closes, concludes, is_dead, step, is_entity_at, nothing}
use Rattle.ak_node.proofs.StepChanges.{step_is}

-- ---- actions that tell nothing of the singleton, nor that the node stops
abbrev pub is_plain : Action → Bool
is_plain (action.Active term) = false
is_plain (action.Ended term) = false
is_plain action.Stopped = false
is_plain other = true

abbrev pub Plain : List Action → Type 0
Plain actions = (x : Action) → Contains actions x → is_plain x ≡ true

plain_none : Plain []
plain_none x there = absurd (contains_nothing x there)

plain_first : (a : Action) (actions : List Action) → is_plain a ≡ true → Plain actions → Plain (a ∷ actions)
plain_first a actions is rest x there = elim (first_or_rest a x actions there) [ inl same ↦ ap is_plain same ∙ is | inr later ↦ rest x later ]

plain_both : (a b : List Action) → Plain a → Plain b → Plain (a ++ b)
plain_both a b one two x there = elim (contains_either a b x there) [ inl first ↦ one x first | inr second ↦ two x second ]

plain_each : (n : State) (to : List UniqueModel) (what : Message) → Plain (to_each n to what)
plain_each n [] what = plain_none
plain_each n (u ∷ to) what = plain_first _ (to_each n to what) refl (plain_each n to what)

plain_update : (number : Option ℕ) (effects : List Effect) → Plain (update_by number effects)
plain_update None effects = plain_none
plain_update (Some number) effects = plain_first _ [] refl plain_none

plain_answer : (r : Reply) (to : UniqueModel) (n : State) → Plain (answer r to n)
plain_answer reply.Nothing to n = plain_none
plain_answer reply.Welcome to n = plain_first _ [] refl plain_none
plain_answer reply.Gossip to n = plain_first _ [] refl plain_none

plain_ends : (whos : List UniqueModel) → Plain (map action.MarginEnd whos)
plain_ends [] = plain_none
plain_ends (who ∷ whos) = plain_first _ (map action.MarginEnd whos) refl (plain_ends whos)

plain_of : (o : Option BallotModel) (what : BallotModel → Message) (to : UniqueModel) (n : State) → Plain (told_of o what to n)
plain_of None what to n = plain_none
plain_of (Some b) what to n = plain_first _ [] refl plain_none

plain_own : (o : Option BallotModel) (n : State) → Plain (told_its_own o n)
plain_own None n = plain_none
plain_own (Some b) n = plain_first _ [] refl plain_none

plain_to_each : (o : Option BallotModel) (what : BallotModel → Message) (to : UniqueSet) (n : State) → Plain (told_to_each o what to n)
plain_to_each None what to n = plain_none
plain_to_each (Some b) what to n = plain_each n (in_order to) (what b)

plain_let_go : (ph : Phase) (n : State) → Plain (let_go ph n)
plain_let_go Younger n = plain_none
plain_let_go Asking n = plain_to_each n.singleton.promise.last _ (needed_others n) n
plain_let_go Active n = plain_to_each n.singleton.promise.last _ (needed_others n) n
plain_let_go Ended n = plain_none

plain_answered : (a : Answer) (to : UniqueModel) (b : BallotModel) (n : State) → Plain (answered a to b n)
plain_answered given.Granted to b n = plain_first _ [] refl plain_none
plain_answered given.Old to b n = plain_of n.singleton.promise.last _ to n
plain_answered given.Busy to b n = plain_of n.singleton.promise.last _ to n

plain_ruled : (r : TickRule) (n : State) → Plain (does_rule r n).1
plain_ruled r n =
    let after : State = (does_rule r n).0 in
    let s = steps_of r (me_of n) (settled_of n) (margin_of n) n.singleton in
    plain_both (told_its_own s.hand_over_to after ++ releases s.release after) _
    (plain_both (told_its_own s.hand_over_to after) (releases s.release after) (plain_own s.hand_over_to after) (plain_to_each after.singleton.promise.last _ s.release after))
    (plain_to_each after.singleton.live message.Ask s.ask after)

-- work on shards
plain_work : (me : UniqueModel) (actions : List Action) → AreWork me actions → Plain actions
plain_work me [] w = plain_none
plain_work me (a ∷ actions) w = plain_first a actions (by_kind a w.0) (plain_work me actions w.1)
  where
    by_kind : (x : Action) → IsWork me x → is_plain x ≡ true
    by_kind (action.Active term) is = absurd is
    by_kind (action.Ended term) is = absurd is
    by_kind action.Stopped is = absurd is
    by_kind other is = refl

-- ---- a part of a step before the closing
pub record Phases (n : State) (o : Outcome) : Type 0 where
  pub fits : Fits o.0.singleton
  -- that it is active is told at the closing alone, and so is that it stops
  pub none_active : (term : ℕ) → Contains o.1 (action.Active term) → ⊥
  pub none_stopped : Contains o.1 action.Stopped → ⊥
  -- an end is told where it is over then, and stays so
  pub ended_then : (term : ℕ) → Contains o.1 (action.Ended term) → o.0.singleton.phase ≡ Ended
  pub over : n.singleton.phase ≡ Ended → o.0.singleton.phase ≡ Ended
  -- who is active stays so, or tells its end; nobody becomes so
  pub still : n.singleton.phase ≡ Active → (o.0.singleton.phase ≡ Active) ⊎ ((term : ℕ) × Contains o.1 (action.Ended term))
  pub not_anew : o.0.singleton.phase ≡ Active → n.singleton.phase ≡ Active

-- the phase stays, and plain actions are told
kept_phases : (n m : State) (actions : List Action) → m.singleton.phase ≡ n.singleton.phase → Fits m.singleton → Plain actions → Phases n (m, actions)
kept_phases n m actions same fits plain = record {
  fits = fits;
  none_active = λ term there. true≢false (sym (plain (action.Active term) there));
  none_stopped = λ there. true≢false (sym (plain action.Stopped there));
  ended_then = λ term there. absurd (true≢false (sym (plain (action.Ended term) there)));
  over = λ is. same ∙ is;
  still = λ is. inl (same ∙ is);
  not_anew = λ is. sym same ∙ is;
}

phases_then : (n : State) (next : State → Outcome) (o : Outcome) → Phases n o → Phases o.0 (next o.0) → Phases n (and_then next o)
phases_then n next o p r = record {
  fits = r.fits;
  none_active = λ term there. elim (contains_either o.1 (next o.0).1 _ there) [ inl one ↦ p.none_active term one | inr two ↦ r.none_active term two ];
  none_stopped = λ there. elim (contains_either o.1 (next o.0).1 _ there) [ inl one ↦ p.none_stopped one | inr two ↦ r.none_stopped two ];
  ended_then = λ term there. elim (contains_either o.1 (next o.0).1 _ there) [ inl one ↦ r.over (p.ended_then term one) | inr two ↦ r.ended_then term two ];
  over = λ is. r.over (p.over is);
  still = λ is. elim (p.still is) [
    | inl active ↦ elim (r.still active) [ inl on ↦ inl on | inr told ↦ inr (told.0, contains_right o.1 (next o.0).1 _ told.1) ]
    | inr told ↦ inr (told.0, contains_left o.1 (next o.0).1 _ told.1)
  ];
  not_anew = λ is. p.not_anew (r.not_anew is);
}

module _ (n : State) (fits : Fits n.singleton) where
  same : (actions : List Action) → Plain actions → Phases n (n, actions)
  same actions plain = kept_phases n n actions refl fits plain

  phases_if : (b : Bool) {o p : Outcome} → Phases n o → Phases n p → Phases n (if b then o else p)
  phases_if true x y = x
  phases_if false x y = y

  done_phases : (o : membership.Outcome) → Phases n (does n o)
  done_phases o = kept_phases n (does n o).0 (does n o).1 refl fits (plain_update o.1.number o.1.effects)

  for_phases : (from : UniqueModel) (o : membership.Outcome) → Phases n (does_for from n o)
  for_phases from o = kept_phases n (does n o).0 (does_for from n o).1 refl fits (plain_both (does n o).1 _ (plain_update o.1.number o.1.effects) (plain_answer o.1.reply from (does n o).0))

  unless_phases : (next : membership.Outcome → Outcome) (r : Result membership.Outcome MemberFault) → ((o : membership.Outcome) → Phases n (next o)) → Phases n (unless_refused next n r)
  unless_phases next (Ok o) each = each o
  unless_phases next (Err why) each = same (action.Refused (number_of why) ∷ []) (plain_first _ [] refl plain_none)

  asking_phases : (target : Option AddressModel) → Phases n (asks_at target n)
  asking_phases None = same [] plain_none
  asking_phases (Some target) = same (to_address n target message.Join ∷ []) (plain_first _ [] refl plain_none)

  gossip_phases : (to : Option UniqueModel) → Phases n (gossips_to to n)
  gossip_phases None = same [] plain_none
  gossip_phases (Some to) = same (to_process n to (message.Gossip (known n)) ∷ []) (plain_first _ [] refl plain_none)

  exit_phases : Phases n (exits n)
  exit_phases = kept_phases n (exits n).0 (exits n).1 refl fits (plain_each n (counted_members n) message.ExitingConfirmed)

  -- its part of a tick
  active_rests : (t c f : Bool) → n.singleton.phase ≡ Active → (after_rule (if t then rule_of n.singleton.phase c f else Rests) (me_of n) (settled_of n) n.singleton).phase ≡ Active
  active_rests true c f is = ap (λ ph. (after_rule (rule_of ph c f) (me_of n) (settled_of n) n.singleton).phase) is ∙ is
  active_rests false c f is = is

  younger_not : Younger ≡ Active → ⊥
  younger_not is = absurd (cc)

  asking_not : Asking ≡ Active → ⊥
  asking_not is = absurd (cc)

  ended_not : Ended ≡ Active → ⊥
  ended_not is = absurd (cc)

  ended_rests : (t c f : Bool) → n.singleton.phase ≡ Ended → (after_rule (if t then rule_of n.singleton.phase c f else Rests) (me_of n) (settled_of n) n.singleton).phase ≡ Ended
  ended_rests true c f is = ap (λ ph. (after_rule (rule_of ph c f) (me_of n) (settled_of n) n.singleton).phase) is ∙ is
  ended_rests false c f is = is

  rule_anew : (r : TickRule) → (after_rule r (me_of n) (settled_of n) n.singleton).phase ≡ Active → n.singleton.phase ≡ Active
  rule_anew Rests is = is
  rule_anew Opens is = absurd (asking_not is)
  rule_anew HandsOver is = is
  rule_anew Closes is = absurd (younger_not is)
  rule_anew Asks is = is

  asks_phases : (status : Option Status) → Phases n (asks_as status n)
  asks_phases None = same [] plain_none
  asks_phases (Some status) =
      let r = rule_on status n in
      let plain = plain_ruled r n in
      record {
        fits = rule_fits n.singleton fits r (me_of n) (settled_of n);
        none_active = λ term there. true≢false (sym (plain (action.Active term) there));
        none_stopped = λ there. true≢false (sym (plain action.Stopped there));
        ended_then = λ term there. absurd (true≢false (sym (plain (action.Ended term) there)));
        over = λ is. ended_rests (takes_part (settled_of n) status) (is_candidate (settled_of n) (me_of n)) (may_open (margin_of n) (settled_of n) (me_of n) n.singleton.promise) is;
        still = λ is. inl (active_rests (takes_part (settled_of n) status) (is_candidate (settled_of n) (me_of n)) (may_open (margin_of n) (settled_of n) (me_of n) n.singleton.promise) is);
        not_anew = rule_anew r;
      }

  -- the end of its phase
  over_from : (ph : Phase) → n.singleton.phase ≡ ph → (ended_from ph (settled_of n) n.singleton).phase ≡ Ended
  over_from Younger at = refl
  over_from Asking at = refl
  over_from Active at = refl
  over_from Ended at = at

  over_now : (ended (settled_of n) n.singleton).phase ≡ Ended
  over_now = over_from n.singleton.phase refl

  end_told : n.singleton.phase ≡ Active → (term : ℕ) × Contains (told_end (active_term n.singleton.phase n.singleton.live)) (action.Ended term)
  end_told active = by_live n.singleton.live refl
    where
      by_live : (o : Option BallotModel) → n.singleton.live ≡ o → (term : ℕ) × Contains (told_end (active_term n.singleton.phase n.singleton.live)) (action.Ended term)
      by_live None none = absurd (true≢false (sym (subst (λ ph. HasLive ph n.singleton.live) active fits) ∙ ap is_some none))
      by_live (Some b) at = (b.term, subst (λ k. Contains (told_end k) (action.Ended b.term)) (sym (ap (λ ph. active_term ph n.singleton.live) active ∙ ap (active_term Active) at)) (contains_first (action.Ended b.term) []))

  no_active_end : (o : Option ℕ) (x : Action) → Contains (told_end o) x → ((term : ℕ) → x ≡ action.Active term → ⊥) × (x ≡ action.Stopped → ⊥)
  no_active_end None x there = absurd (contains_nothing x there)
  no_active_end (Some k) x there = elim (first_or_rest (action.Ended k) x [] there) [
    | inl is ↦ ((λ term same. let both = sym is ∙ same in absurd (cc)), λ same. let both = sym is ∙ same in absurd (cc))
    | inr none ↦ absurd (contains_nothing x none)
  ]

  end_phases : Phases n (ends_phase n)
  end_phases =
      let told = told_end (active_term n.singleton.phase n.singleton.live) in
      let goes = let_go n.singleton.phase n in
      let plain = plain_let_go n.singleton.phase n in
      record {
        fits = ended_fits n.singleton fits (settled_of n);
        none_active = λ term there. elim (contains_either told goes _ there) [ inl one ↦ (no_active_end (active_term n.singleton.phase n.singleton.live) _ one).0 term refl | inr two ↦ true≢false (sym (plain _ two)) ];
        none_stopped = λ there. elim (contains_either told goes _ there) [ inl one ↦ (no_active_end (active_term n.singleton.phase n.singleton.live) _ one).1 refl | inr two ↦ true≢false (sym (plain _ two)) ];
        ended_then = λ term there. over_now;
        over = λ is. over_now;
        still = λ is. let t = end_told is in inr (t.0, contains_left told goes _ t.1);
        not_anew = λ is. absurd (ended_not (sym over_now ∙ is));
      }

  -- the shards
  shards_phases : (work : Around → ShardingModel → sharding.Outcome) → AreWork (me_of n) (work (around n) n.sharding).1 → Phases n (shards_do work n)
  shards_phases work w = kept_phases n (shards_do work n).0 (shards_do work n).1 refl fits (plain_work (me_of n) (work (around n) n.sharding).1 w)

  on_shards_phases : (from : UniqueModel) (what : Message) → Phases n (on_shards from what n)
  on_shards_phases from what = phases_if (is_member n) (shards_phases (λ a s. packets.on_shard_message a from what s) (message_work (around n) from what n.sharding)) (same [] plain_none)

  offer_phases : (entity : List ℕ) (payload : ℕ) → Phases n (offer entity payload n)
  offer_phases entity payload = shards_phases (λ a s. hosts.on_offer a entity payload s) (offer_work (around n) entity payload n.sharding)

-- the rest of a tick
rest_phases : (n : State) (fits : Fits n.singleton) (word : ℕ) → Phases n (rest word n)
rest_phases n fits word =
    let a = (asks_as (status_of n) n).0 in
    let b = (shards_do coordinates.coordinates a).0 in
    let c = (shards_do hosts.asks_homes b).0 in
    let asked = asks_phases n fits (status_of n) in
    let coordinated = phases_then n (shards_do coordinates.coordinates) (asks_as (status_of n) n) asked (shards_phases a asked.fits coordinates.coordinates (coordinates_work (around a) a.sharding)) in
    phases_then n (gossips word) (and_then (shards_do hosts.asks_homes) (and_then (shards_do coordinates.coordinates) (asks_as (status_of n) n)))
    (phases_then n (shards_do hosts.asks_homes) (and_then (shards_do coordinates.coordinates) (asks_as (status_of n) n)) coordinated (shards_phases b asked.fits hosts.asks_homes (asks_homes_work (around b) b.sharding)))
    (gossip_phases c asked.fits (ticks.gossip_peer word c.membership))

goes_phases : (n : State) (fits : Fits n.singleton) (word : ℕ) → Phases n (goes_on word n)
goes_phases n fits word =
    let x = (ends_phase n).0 in
    let over = end_phases n fits in
    phases_if n fits (is_gone n) (same n fits [] plain_none)
    (phases_if n fits (is_member_with is_exiting (known n).view.standings (me_of n))
    (phases_then n (leaves word) (ends_phase n) over (phases_if x over.fits (may_leave x) (exit_phases x over.fits) (rest_phases x over.fits word)))
    (rest_phases n fits word))

ticked_phases : (n : State) (fits : Fits n.singleton) (word : ℕ) (o : membership.Outcome) → Phases n (and_then (goes_on word) (node.ticked n o))
ticked_phases n fits word o =
    let after : State = record n { membership = o.0 } in
    phases_then n (goes_on word) (node.ticked n o)
    (kept_phases n after (node.ticked n o).1 refl fits
    (plain_both (ends after ++ beats after) (update_by o.1.number o.1.effects) (plain_both (ends after) (beats after) (plain_ends after.membership.settled.just_ended) (plain_each after (in_order (keys_of after.membership.detector)) message.Heartbeat)) (plain_update o.1.number o.1.effects)))
    (goes_phases after fits word)

granted_same : (r : Bool) (from : UniqueModel) (f : Counts) (s : SingletonModel) → (after_granted r from f s).phase ≡ s.phase
granted_same true from f s = refl
granted_same false from f s = refl

old_same : (r : Bool) (b last : BallotModel) (s : SingletonModel) → (after_old r b last s).phase ≡ s.phase
old_same true b last s = refl
old_same false b last s = refl

told_phases : (n : State) (fits : Fits n.singleton) (from : UniqueModel) (m : Message) → Phases n (on_message from m n)
told_phases n fits from message.Join = unless_phases n fits (does_for from n) (membership.on_join from n.membership) (for_phases n fits from)
told_phases n fits from (message.Welcome g) = unless_phases n fits (does_for from n) (membership.on_gossip g n.membership) (for_phases n fits from)
told_phases n fits from (message.Gossip g) = unless_phases n fits (does_for from n) (membership.on_gossip g n.membership) (for_phases n fits from)
told_phases n fits from message.Heartbeat = phases_if n fits (is_member n) (same n fits (to_process n from message.HeartbeatReply ∷ []) (plain_first _ [] refl plain_none)) (same n fits [] plain_none)
told_phases n fits from message.HeartbeatReply = phases_if n fits (is_member n) (kept_phases n (record n { membership = membership.on_heard from n.membership }) [] refl fits plain_none) (same n fits [] plain_none)
told_phases n fits from message.ExitingConfirmed = phases_if n fits (is_member n) (kept_phases n (record n { membership = membership.on_confirmed from n.membership }) [] refl fits plain_none) (same n fits [] plain_none)
told_phases n fits from (message.Ask b) = phases_if n fits (is_asked from b n) (kept_phases n (answers_ask from b n).0 (answers_ask from b n).1 refl fits (plain_answered _ from b n)) (same n fits [] plain_none)
told_phases n fits from (message.Granted b floor reports) =
    let r = is_first_grant from b n.singleton in
    phases_if n fits (takes_grant from reports n) (kept_phases n (takes from b floor reports n) [] (granted_same r from floor n.singleton) (granted_fits n.singleton fits r from floor) plain_none) (same n fits [] plain_none)
told_phases n fits from (message.Busy b held) = phases_if n fits (is_member n && is_some_ballot n.singleton.live b) (same n fits (told_its_own (Some held) n) (plain_own (Some held) n)) (same n fits [] plain_none)
told_phases n fits from (message.Old b last) =
    let r = is_outdone b last n.singleton in
    phases_if n fits (is_member n) (kept_phases n (keeping (after_old r b last n.singleton) (sharing (coordinates.begins_if r (me_of n) n.sharding) n)) [] (old_same r b last n.singleton) (old_fits n.singleton fits b last) plain_none) (same n fits [] plain_none)
told_phases n fits from (message.HandOverToMe b) = phases_if n fits (is_member n && has_handed_over b n) (same n fits (to_process n from (message.HandOverDone b (version_of (settled_of n))) ∷ []) (plain_first _ [] refl plain_none)) (same n fits [] plain_none)
told_phases n fits from (message.HandOverDone b floor) =
    phases_if n fits (is_member n) (kept_phases n (promising (released_by n.singleton.promise b floor) n) (to_each n (in_order (needed_others n)) (message.Release b floor)) refl fits (plain_each n (in_order (needed_others n)) (message.Release b floor))) (same n fits [] plain_none)
told_phases n fits from (message.Release b floor) = phases_if n fits (is_member n) (kept_phases n (promising (released_by n.singleton.promise b floor) n) [] refl fits plain_none) (same n fits [] plain_none)
told_phases n fits from (message.Leave who) = unless_phases n fits (does n) (membership.leave who n.membership) (done_phases n fits)
told_phases n fits from (message.Down who) = unless_phases n fits (does n) (membership.down who n.membership) (done_phases n fits)
told_phases n fits from (message.GetHome b shard) = on_shards_phases n fits from (message.GetHome b shard)
told_phases n fits from (message.Home b shard owner) = on_shards_phases n fits from (message.Home b shard owner)
told_phases n fits from (message.HostShard b shard number) = on_shards_phases n fits from (message.HostShard b shard number)
told_phases n fits from (message.ShardStarted b shard number) = on_shards_phases n fits from (message.ShardStarted b shard number)
told_phases n fits from (message.BeginHandOff b shard number) = on_shards_phases n fits from (message.BeginHandOff b shard number)
told_phases n fits from (message.BeginHandOffAck b shard number) = on_shards_phases n fits from (message.BeginHandOffAck b shard number)
told_phases n fits from (message.HandOff b shard number) = on_shards_phases n fits from (message.HandOff b shard number)
told_phases n fits from (message.ShardStopped b shard number) = on_shards_phases n fits from (message.ShardStopped b shard number)
told_phases n fits from (message.Forward entity payload) = phases_if n fits (is_entity_at entity n) (on_shards_phases n fits from (message.Forward entity payload)) (same n fits [] plain_none)
told_phases n fits from (message.Offer entity payload) = phases_if n fits (is_entity_at entity n) (offer_phases n fits entity payload) (same n fits [] plain_none)

rule_phases : (e : NodeEvent) (n : State) → Fits n.singleton → Phases n (rule e n)
rule_phases event.Found n fits = done_phases n fits (membership.found n.membership)
rule_phases (event.Join target) n fits = phases_if n fits (is_member n) (same n fits [] plain_none) (kept_phases n (record n { membership = membership.join target n.membership }) (to_address n target message.Join ∷ []) refl fits (plain_first _ [] refl plain_none))
rule_phases (event.Tick word) n fits = phases_if n fits (is_member n) (ticked_phases n fits word (ticks.tick n.membership)) (asking_phases n fits n.membership.target)
rule_phases (event.Packet p) n fits = told_phases n fits p.from p.message
rule_phases (event.Leave who) n fits = unless_phases n fits (does n) (membership.leave who n.membership) (done_phases n fits)
rule_phases (event.Down who) n fits = unless_phases n fits (does n) (membership.down who n.membership) (done_phases n fits)
rule_phases (event.Offer entity payload) n fits = offer_phases n fits entity payload
rule_phases event.Stop n fits = kept_phases n (stop n).0 [] refl fits plain_none

-- ---- a step
abbrev pub IsOn : State → Type 0
IsOn n = IsTrue n.runs × (n.singleton.phase ≡ Active)

abbrev pub TellsEnd : List Action → Type 0
TellsEnd actions = ((term : ℕ) × Contains actions (action.Ended term)) ⊎ Contains actions action.Stopped

-- what a step of a node that runs tells of the singleton
pub record Tells (n : State) (o : Outcome) : Type 0 where
  pub fits : Fits o.0.singleton
  pub active_told : (term : ℕ) → Contains o.1 (action.Active term) → IsOn o.0
  pub end_told : TellsEnd o.1 → IsOn o.0 → ⊥
  pub anew : IsOn o.0 → (n.singleton.phase ≡ Active) ⊎ ((term : ℕ) × Contains o.1 (action.Active term))
  pub still : n.singleton.phase ≡ Active → IsOn o.0 ⊎ TellsEnd o.1

-- what is due tells that the node stops exactly where it does
due_told : (a b c : Bool) (x : Action) → Contains (if_so a action.View ++ if_so b action.Stopped ++ if_so c action.Settled) x → (is_plain x ≡ true) ⊎ ((b ≡ true) × (x ≡ action.Stopped))
due_told a b c x there = elim (contains_either (if_so a action.View ++ if_so b action.Stopped) (if_so c action.Settled) x there) [
  | inl first ↦ elim (contains_either (if_so a action.View) (if_so b action.Stopped) x first) [ inl one ↦ inl (by_one a action.View refl one) | inr two ↦ by_stop b two ]
  | inr three ↦ inl (by_one c action.Settled refl three)
]
  where
    by_one : (t : Bool) (y : Action) → is_plain y ≡ true → Contains (if_so t y) x → is_plain x ≡ true
    by_one true y is here = elim (first_or_rest y x [] here) [ inl same ↦ ap is_plain same ∙ is | inr none ↦ absurd (contains_nothing x none) ]
    by_one false y is here = absurd (contains_nothing x here)

    by_stop : (t : Bool) → Contains (if_so t action.Stopped) x → (is_plain x ≡ true) ⊎ ((t ≡ true) × (x ≡ action.Stopped))
    by_stop true here = elim (first_or_rest action.Stopped x [] here) [ inl same ↦ inr (refl, same) | inr none ↦ absurd (contains_nothing x none) ]
    by_stop false here = absurd (contains_nothing x here)

pub stop_told : (a b c : Bool) → b ≡ true → Contains (if_so a action.View ++ if_so b action.Stopped ++ if_so c action.Settled) action.Stopped
stop_told a b c is =
    contains_left (if_so a action.View ++ if_so b action.Stopped) (if_so c action.Settled) action.Stopped
    (contains_right (if_so a action.View) (if_so b action.Stopped) action.Stopped (subst (λ t. Contains (if_so t action.Stopped) action.Stopped) (sym is) (contains_first action.Stopped [])))

module _ (n : State) (o : Outcome) (p : Phases n o) where
  abbrev m : State
  m = o.0

  abbrev gone : Bool
  gone = stops (not m.runs) m.membership

  abbrev turns : Bool
  turns = (not gone) && may_activate (me_of m) (settled_of (closes m).0) (margin_of m) m.singleton

  -- an action of the whole step
  whole : (x : Action) → Contains (and_then concludes o).1 x → Contains o.1 x ⊎ ((is_plain x ≡ true) ⊎ ((gone ≡ true) × (x ≡ action.Stopped))) ⊎ Contains (becomes_active turns (forgets (closes m).0)).1 x
  whole x there = elim (contains_either o.1 (concludes m).1 x there) [
    | inl one ↦ inl one
    | inr rest ↦ elim (contains_either (closes m).1 (becomes_active turns (forgets (closes m).0)).1 x rest) [
      | inl two ↦ inr (inl (due_told (is_viewed m.membership) gone (notes (not m.runs) m.membership) x two))
      | inr three ↦ inr (inr three)
    ]
  ]

  not_ended : (term : ℕ) → (t : Bool) → Contains (becomes_active t (forgets (closes m).0)).1 (action.Ended term) → ⊥
  not_ended term true there = by_live m.singleton.live there
    where
      by_live : (k : Option BallotModel) → Contains (told_active k) (action.Ended term) → ⊥
      by_live None here = contains_nothing _ here
      by_live (Some b) here = elim (first_or_rest (action.Active b.term) (action.Ended term) [] here) [ inl is ↦ absurd (cc) | inr none ↦ contains_nothing _ none ]
  not_ended term false there = contains_nothing _ there

  not_stopped : (t : Bool) → Contains (becomes_active t (forgets (closes m).0)).1 action.Stopped → ⊥
  not_stopped true there = by_live m.singleton.live there
    where
      by_live : (k : Option BallotModel) → Contains (told_active k) action.Stopped → ⊥
      by_live None here = contains_nothing _ here
      by_live (Some b) here = elim (first_or_rest (action.Active b.term) action.Stopped [] here) [ inl is ↦ absurd (cc) | inr none ↦ contains_nothing _ none ]
  not_stopped false there = contains_nothing _ there

  -- the node stops
  stopping : gone ≡ true → Tells n (and_then concludes o)
  stopping is =
      let rests : (concludes m).0.runs ≡ false = ap not is in
      let off : turns ≡ false = ap (λ b. (not b) && may_activate (me_of m) (settled_of (closes m).0) (margin_of m) m.singleton) is in
      record {
        fits = subst (λ b. Fits (after_activation b m.singleton)) (sym off) p.fits;
        active_told = λ term there. absurd (elim (whole (action.Active term) there) [
          | inl one ↦ p.none_active term one
          | inr rest ↦ elim rest [ inl due_is ↦ elim due_is [ inl plain ↦ true≢false (sym plain) | inr stop_is ↦ by_stopped term stop_is.1 ] | inr three ↦ contains_nothing _ (subst (λ b. Contains (becomes_active b (forgets (closes m).0)).1 (action.Active term)) off three) ]
        ]);
        end_told = λ told on. true≢false (sym on.0 ∙ rests);
        anew = λ on. absurd (true≢false (sym on.0 ∙ rests));
        still = λ active. inr (inr (contains_right o.1 (concludes m).1 action.Stopped (contains_left (closes m).1 (becomes_active turns (forgets (closes m).0)).1 action.Stopped (stop_told (is_viewed m.membership) gone (notes (not m.runs) m.membership) is))));
      }
    where
      by_stopped : (term : ℕ) → action.Active term ≡ action.Stopped → ⊥
      by_stopped term same = absurd (cc)

  -- the node goes on, and becomes active
  turning : gone ≡ false → may_activate (me_of m) (settled_of (closes m).0) (margin_of m) m.singleton ≡ true → Tells n (and_then concludes o)
  turning is may =
      let on : turns ≡ true = ap (λ b. (not b) && may_activate (me_of m) (settled_of (closes m).0) (margin_of m) m.singleton) is ∙ may in
      let runs : IsTrue (concludes m).0.runs = ap not is in
      let asked = (activation_is (me_of m) (settled_of (closes m).0) (margin_of m) m.singleton).0 may in
      let now : (concludes m).0.singleton.phase ≡ Active = ap (λ b. (after_activation b m.singleton).phase) on in
      record {
        fits = subst (λ b. Fits (after_activation b m.singleton)) (sym on) (activation_fits m.singleton p.fits true (me_of m) (settled_of (closes m).0) (margin_of m) (λ _. may));
        active_told = λ term there. (runs, now);
        end_told = λ told _. elim told [
          | inl end_is ↦ elim (whole (action.Ended end_is.0) end_is.1) [
            | inl one ↦ asking_ended (sym asked.asking ∙ p.ended_then end_is.0 one)
            | inr rest ↦ elim rest [ inl due_is ↦ elim due_is [ inl plain ↦ true≢false (sym plain) | inr stop_is ↦ true≢false (sym stop_is.0 ∙ is) ] | inr three ↦ not_ended end_is.0 turns three ]
          ]
          | inr stopped ↦ elim (whole action.Stopped stopped) [
            | inl one ↦ p.none_stopped one
            | inr rest ↦ elim rest [ inl due_is ↦ elim due_is [ inl plain ↦ true≢false (sym plain) | inr stop_is ↦ true≢false (sym stop_is.0 ∙ is) ] | inr three ↦ not_stopped turns three ]
          ]
        ];
        anew = λ _. let t = live_told m.singleton.live refl asked.asking in inr (t.0, contains_right o.1 (concludes m).1 _ (contains_right (closes m).1 (becomes_active turns (forgets (closes m).0)).1 _ (subst (λ b. Contains (becomes_active b (forgets (closes m).0)).1 (action.Active t.0)) (sym on) t.1)));
        still = λ active. inl (runs, now);
      }
    where
      asking_ended : Asking ≡ Ended → ⊥
      asking_ended same = absurd (cc)

      live_told : (k : Option BallotModel) → m.singleton.live ≡ k → m.singleton.phase ≡ Asking → (term : ℕ) × Contains (told_active m.singleton.live) (action.Active term)
      live_told None none asking = absurd (true≢false (sym (subst (λ ph. HasLive ph m.singleton.live) asking p.fits) ∙ ap is_some none))
      live_told (Some b) at asking = (b.term, subst (λ k. Contains (told_active k) (action.Active b.term)) (sym at) (contains_first (action.Active b.term) []))

  -- the node goes on as it was
  going : gone ≡ false → may_activate (me_of m) (settled_of (closes m).0) (margin_of m) m.singleton ≡ false → Tells n (and_then concludes o)
  going is may =
      let off : turns ≡ false = ap (λ b. (not b) && may_activate (me_of m) (settled_of (closes m).0) (margin_of m) m.singleton) is ∙ may in
      let runs : IsTrue (concludes m).0.runs = ap not is in
      let phase_is : (concludes m).0.singleton.phase ≡ m.singleton.phase = ap (λ b. (after_activation b m.singleton).phase) off in
      record {
        fits = subst (λ b. Fits (after_activation b m.singleton)) (sym off) p.fits;
        active_told = λ term there. absurd (elim (whole (action.Active term) there) [
          | inl one ↦ p.none_active term one
          | inr rest ↦ elim rest [ inl due_is ↦ elim due_is [ inl plain ↦ true≢false (sym plain) | inr stop_is ↦ true≢false (sym stop_is.0 ∙ is) ] | inr three ↦ contains_nothing _ (subst (λ b. Contains (becomes_active b (forgets (closes m).0)).1 (action.Active term)) off three) ]
        ]);
        end_told = λ told on. elim told [
          | inl end_is ↦ elim (whole (action.Ended end_is.0) end_is.1) [
            | inl one ↦ active_ended (sym on.1 ∙ phase_is ∙ p.ended_then end_is.0 one)
            | inr rest ↦ elim rest [ inl due_is ↦ elim due_is [ inl plain ↦ true≢false (sym plain) | inr stop_is ↦ true≢false (sym stop_is.0 ∙ is) ] | inr three ↦ not_ended end_is.0 turns three ]
          ]
          | inr stopped ↦ elim (whole action.Stopped stopped) [
            | inl one ↦ p.none_stopped one
            | inr rest ↦ elim rest [ inl due_is ↦ elim due_is [ inl plain ↦ true≢false (sym plain) | inr stop_is ↦ true≢false (sym stop_is.0 ∙ is) ] | inr three ↦ not_stopped turns three ]
          ]
        ];
        anew = λ on. inl (p.not_anew (sym phase_is ∙ on.1));
        still = λ active. elim (p.still active) [ inl on ↦ inl (runs, phase_is ∙ on) | inr told ↦ inr (inl (told.0, contains_left o.1 (concludes m).1 _ told.1)) ];
      }
    where
      active_ended : Active ≡ Ended → ⊥
      active_ended same = absurd (cc)

  concluded : Tells n (and_then concludes o)
  concluded = by_both gone (may_activate (me_of m) (settled_of (closes m).0) (margin_of m) m.singleton) refl refl
    where
      by_both : (b c : Bool) → gone ≡ b → may_activate (me_of m) (settled_of (closes m).0) (margin_of m) m.singleton ≡ c → Tells n (and_then concludes o)
      by_both true c is may = stopping is
      by_both false true is may = turning is may
      by_both false false is may = going is may

pub step_tells : (e : NodeEvent) (n : State) → IsTrue n.runs → Fits n.singleton → Tells n (step e n)
step_tells e n runs fits =
    let x : State = record n { steps = n.steps + 1 } in
    let t : Tells x (step e n) = subst (Tells x) (sym (step_is e n runs)) (by_dead x runs fits (is_dead (me_of x) e)) in
    record { fits = t.fits; active_told = t.active_told; end_told = t.end_told; anew = t.anew; still = t.still }
  where
    by_dead : (x : State) → IsTrue x.runs → Fits x.singleton → (b : Bool) → Tells x (if b then (x, action.Dead ∷ []) else and_then concludes (rule e x))
    by_dead x runs fits true =
        let plain : Plain (action.Dead ∷ []) = plain_first action.Dead [] refl plain_none in
        record {
          fits = fits;
          active_told = λ term there. absurd (true≢false (sym (plain (action.Active term) there)));
          end_told = λ told on. elim told [ inl end_is ↦ true≢false (sym (plain (action.Ended end_is.0) end_is.1)) | inr stopped ↦ true≢false (sym (plain action.Stopped stopped)) ];
          anew = λ on. inl on.1;
          still = λ active. inl (runs, active);
        }
    by_dead x runs fits false = concluded x (rule e x) (rule_phases e x fits)
