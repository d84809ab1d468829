-- What is true of every node after each of its steps: it had no more ticks than steps, it has shown what it knows, it serves
-- while it runs and knows anybody, and what it has noted as settled it knew.
use Rattle.std.proofs.Common.{◌≡◌, ℕ, ◌+◌, ◌≤◌, Bool, true, false, not, ◌&&◌, inl, inr, if◌then◌else◌, ◌⊎◌, [], ◌∷◌, Option, Some, None, is_some, Result, Ok, Err, IfOk, IsTrue, refl, sym, ap, ◌∙◌, subst, arith, true≢false, length}
use Rattle.std.specs.FinMap as map
use Rattle.std.specs.Cmp.{first_so, second_so}
use Rattle.ak_address.specs.Unique.{AddressModel, UniqueModel}
use Rattle.ak_address.specs.Uniques.{with_one}
use Rattle.ak_address.proofs.TableLaws.{get-empty}
use Rattle.ak_member.specs.declared.standing.Standing.{Standing}
use Rattle.ak_member.specs.declared.standing.Standing.TheVariants.{Member, Buried}
use Rattle.ak_member.specs.declared.status.Status.{Status}
use Rattle.ak_member.specs.Standing as standing
use Rattle.ak_member.specs.Standing.{is_exiting, is_member_with}
use Rattle.ak_gossip.specs.Gossip.{GossipState}
use Rattle.ak_detector.proofs.DetectorLaws.{watched_member}
use Rattle.ak_settings.specs.Settings.{SettingsModel}
use Rattle.ak_settled.specs.Settled.{version_of, standings_of, after_note, IsCounting}
use Rattle.ak_settled.proofs.SettledLaws.{counting_none, counting_noted}
use Rattle.ak_settled.specs.SettledView.{SettledModel}
use Rattle.ak_membership.specs.declared.change.MemberFault.{MemberFault}
use Rattle.ak_membership.specs.declared.state.MembershipState.{MembershipState}
use Rattle.ak_membership.specs.MembershipContracts.{KnowsItself, IsWatching}
use Rattle.ak_membership.specs.Membership as membership
use Rattle.ak_membership.specs.Tick as ticks
use Rattle.ak_membership.specs.Tick.{has_settled}
use Rattle.ak_membership.specs.Closing.{stops, is_noted, notes}
use Rattle.ak_membership.specs.Knowledge.{Given, nothing_given, Learns, WaitsOn, Knowledge, Keeps, Updates, Accepts, made_by}
use Rattle.ak_membership.proofs.MembershipLemmas.{learnt_itself, waits_counting}
use Rattle.ak_membership.proofs.Walk.{found_learns, leave_learns, down_learns, tick_learns, join_learns, gossip_learns}
use Rattle.ak_promise.specs.Promise.{is_some_ballot}
use Rattle.ak_sharding.specs.Hosts as hosts
use Rattle.ak_sharding.specs.Coordinates as coordinates
use Rattle.ak_wire.specs.declared.envelope.Message.{Message}
use Rattle.ak_wire.specs.declared.envelope.Message.TheVariants as message
use Rattle.ak_wire.specs.declared.action.Action.TheVariants as action
use Rattle.ak_wire.specs.Wire.{updates_of}
use Rattle.ak_node.specs.declared.node.State.{State}
use Rattle.ak_node.specs.declared.node.NodeEvent.{NodeEvent}
use Rattle.ak_node.specs.declared.node.NodeEvent.TheVariants as event
use Rattle.ak_node.specs.Node.{Outcome, known, me_of, is_member, is_gone, nothing, and_then, does, does_for, unless_refused, leave, down, asks_at, exits, gossips_to, goes_on, ticked, on_message, rule, asks_as, status_of, ends_phase, is_asked, takes_grant, has_handed_over, answers_ask, shards_do, rest, may_leave, leaves, closes, concludes, is_dead, running_step, step, is_entity_at, on_shards, offer}
use Rattle.ak_node.specs.NodeContracts.{IsNode, Serves, ServesWhileItRuns}
use Rattle.ak_node.specs.Change.{given_by, NotesNow, Notes}
use Rattle.ak_node.proofs.StepChanges.{rule_changes, running_changes, step_is, step_changes, ran_before}

-- ---- a node knows itself
pub step_itself : (e : NodeEvent) (n : State) → IsTrue n.runs → KnowsItself (me_of n) (known n) → KnowsItself (me_of (step e n).0) (known (step e n).0)
step_itself e n runs k =
    let c = step_changes e n runs in
    subst (λ u. KnowsItself u (known (step e n).0)) (sym c.same_me) (subst (KnowsItself (me_of n)) (sym c.knows) (learnt_itself (given_by e) n.membership c.knowledge c.lawful k))

-- ---- a running node is not gone, and has shown what it knows
outcome_if : (P : State → Type 0) (b : Bool) (o p : Outcome) → (b ≡ true → P o.0) → (b ≡ false → P p.0) → P (if b then o else p).0
outcome_if P true o p x y = x refl
outcome_if P false o p x y = y refl

abbrev Stays : State → Type 0
Stays n = IsTrue n.runs → is_gone n ≡ false

abbrev HasShown : State → Type 0
HasShown n = n.membership.shown ≡ (known n).version

closes_stays : (n : State) → Stays (closes n).0
closes_stays n runs = (ran_before n.runs (is_gone n) runs).1

running_stays : (e : NodeEvent) (n : State) → Stays n → Stays (running_step e n).0
running_stays e n stays = outcome_if Stays (is_dead (me_of n) e) (n, action.Dead ∷ []) (and_then concludes (rule e n)) (λ _. stays) (λ _. closes_stays (rule e n).0)

running_shown : (e : NodeEvent) (n : State) → HasShown n → HasShown (running_step e n).0
running_shown e n shown = outcome_if HasShown (is_dead (me_of n) e) (n, action.Dead ∷ []) (and_then concludes (rule e n)) (λ _. shown) (λ _. refl)

-- a node that has stopped stays as it is
pub stopped_is : (e : NodeEvent) (n : State) → n.runs ≡ false → step e n ≡ nothing n
stopped_is e n stopped = ap (λ b. if b then running_step e (record n { steps = n.steps + 1 }) else nothing n) stopped

-- a running node that knows anybody is a member, and not Down
pub serves : (n : State) → KnowsItself (me_of n) (known n) → IsNode n → ServesWhileItRuns n
serves n itself node runs = by_case (map.get (known n).view.standings (me_of n)) refl (node.stays runs)
  where
    by_case : (o : Option Standing) → map.get (known n).view.standings (me_of n) ≡ o → standing.is_gone o ≡ false → (map.len (known n).view.standings ≡ 0) ⊎ Serves n
    by_case None at is = inl (itself (ap is_some at))
    by_case (Some (Member status number)) at is = inr (record { status = status; number = number; member = at; not_down = is })
    by_case (Some (Buried confirmed)) at is = absurd (true≢false is)

-- ---- what it has noted as settled
abbrev SameSettled : State → State → Type 0
SameSettled n m = WaitsOn n.membership.settings.margin n.membership.settled m.membership.settled

module _ (n : State) where
  same_if : (b : Bool) (o p : Outcome) → SameSettled n o.0 → SameSettled n p.0 → SameSettled n (if b then o else p).0
  same_if true o p x y = x
  same_if false o p x y = y

  done_settled : (given : Given) (o : membership.Outcome) → Learns given n.membership o → SameSettled n (does n o).0
  done_settled given o l = l.waits_on

  unless_settled : (given : Given) (next : membership.Outcome → Outcome) (r : Result membership.Outcome MemberFault) → ((o : membership.Outcome) → (next o).0 ≡ (does n o).0) → IfOk r (λ o. Learns given n.membership o) → SameSettled n (unless_refused next n r).0
  unless_settled given next (Ok o) is l = subst (SameSettled n) (sym (is o)) l.waits_on
  unless_settled given next (Err fault) is l = inl refl

  asks_settled : (target : Option AddressModel) → SameSettled n (asks_at target n).0
  asks_settled None = inl refl
  asks_settled (Some target) = inl refl

  gossips_settled : (to : Option UniqueModel) (m : State) → SameSettled n m → SameSettled n (gossips_to to m).0
  gossips_settled None m same = same
  gossips_settled (Some to) m same = same

  asks_as_settled : (status : Option Status) (m : State) → SameSettled n m → SameSettled n (asks_as status m).0
  asks_as_settled None m same = same
  asks_as_settled (Some status) m same = same

  rest_settled : (word : ℕ) (m : State) → SameSettled n m → SameSettled n (rest word m).0
  rest_settled word m same =
      let x = (and_then (shards_do hosts.asks_homes) (and_then (shards_do coordinates.coordinates) (asks_as (status_of m) m))).0 in
      gossips_settled (ticks.gossip_peer word x.membership) x (asks_as_settled (status_of m) m same)

  goes_settled : (word : ℕ) (m : State) → SameSettled n m → SameSettled n (goes_on word m).0
  goes_settled word m same =
      same_if (is_gone m) (nothing m) _ same
      (same_if (is_member_with is_exiting (known m).view.standings (me_of m)) (and_then (leaves word) (ends_phase m)) (rest word m)
      (let x = (ends_phase m).0 in same_if (may_leave x) (exits x) (rest word x) same (rest_settled word x same))
      (rest_settled word m same))

  leave_settled : (who : UniqueModel) → SameSettled n (leave who n).0
  leave_settled who = unless_settled nothing_given (does n) (membership.leave who n.membership) (λ o. refl) (leave_learns nothing_given n.membership who)

  down_settled : (who : UniqueModel) → SameSettled n (down who n).0
  down_settled who = unless_settled nothing_given (does n) (membership.down who n.membership) (λ o. refl) (down_learns nothing_given n.membership who)

  abbrev given_gossip : GossipState → Given
  given_gossip g = record { founds = false; asks = None; brings = Some g }

  told_settled : (from : UniqueModel) (m : Message) → SameSettled n (on_message from m n).0
  told_settled from message.Join = unless_settled (given_join from) (does_for from n) (membership.on_join from n.membership) (λ o. refl) (join_learns (given_join from) n.membership from refl)
    where
      given_join : UniqueModel → Given
      given_join from = record { founds = false; asks = Some from; brings = None }
  told_settled from (message.Welcome g) = unless_settled (given_gossip g) (does_for from n) (membership.on_gossip g n.membership) (λ o. refl) (gossip_learns (given_gossip g) n.membership g refl)
  told_settled from (message.Gossip g) = unless_settled (given_gossip g) (does_for from n) (membership.on_gossip g n.membership) (λ o. refl) (gossip_learns (given_gossip g) n.membership g refl)
  told_settled from message.Heartbeat = same_if (is_member n) _ (nothing n) (inl refl) (inl refl)
  told_settled from message.HeartbeatReply = same_if (is_member n) _ (nothing n) (inl refl) (inl refl)
  told_settled from message.ExitingConfirmed = same_if (is_member n) _ (nothing n) (by_member (standing.is_member (known n).view.standings from)) (inl refl)
    where
      by_member : (b : Bool) → SameSettled n (nothing (record n { membership = if b then record n.membership { confirmed = with_one n.membership.confirmed from } else n.membership })).0
      by_member true = inl refl
      by_member false = inl refl
  told_settled from (message.Ask b) = same_if (is_asked from b n) (answers_ask from b n) (nothing n) (inl refl) (inl refl)
  told_settled from (message.Granted b floor reports) = same_if (takes_grant from reports n) _ (nothing n) (inl refl) (inl refl)
  told_settled from (message.Busy b held) = same_if (is_member n && is_some_ballot n.singleton.live b) _ (nothing n) (inl refl) (inl refl)
  told_settled from (message.Old b last) = same_if (is_member n) _ (nothing n) (inl refl) (inl refl)
  told_settled from (message.HandOverToMe b) = same_if (is_member n && has_handed_over b n) _ (nothing n) (inl refl) (inl refl)
  told_settled from (message.HandOverDone b floor) = same_if (is_member n) _ (nothing n) (inl refl) (inl refl)
  told_settled from (message.Release b floor) = same_if (is_member n) _ (nothing n) (inl refl) (inl refl)
  told_settled from (message.Leave who) = leave_settled who
  told_settled from (message.Down who) = down_settled who
  told_settled from (message.GetHome b shard) = same_if (is_member n) _ (nothing n) (inl refl) (inl refl)
  told_settled from (message.Home b shard owner) = same_if (is_member n) _ (nothing n) (inl refl) (inl refl)
  told_settled from (message.HostShard b shard number) = same_if (is_member n) _ (nothing n) (inl refl) (inl refl)
  told_settled from (message.ShardStarted b shard number) = same_if (is_member n) _ (nothing n) (inl refl) (inl refl)
  told_settled from (message.BeginHandOff b shard number) = same_if (is_member n) _ (nothing n) (inl refl) (inl refl)
  told_settled from (message.BeginHandOffAck b shard number) = same_if (is_member n) _ (nothing n) (inl refl) (inl refl)
  told_settled from (message.HandOff b shard number) = same_if (is_member n) _ (nothing n) (inl refl) (inl refl)
  told_settled from (message.ShardStopped b shard number) = same_if (is_member n) _ (nothing n) (inl refl) (inl refl)
  told_settled from (message.Forward entity payload) = same_if (is_entity_at entity n) (on_shards from (message.Forward entity payload) n) (nothing n) (same_if (is_member n) _ (nothing n) (inl refl) (inl refl)) (inl refl)
  told_settled from (message.Offer entity payload) = same_if (is_entity_at entity n) (offer entity payload n) (nothing n) (inl refl) (inl refl)

  pub rule_settled : (e : NodeEvent) → SameSettled n (rule e n).0
  rule_settled event.Found = (found_learns (given_by event.Found) n.membership refl).waits_on
  rule_settled (event.Join target) = same_if (is_member n) (nothing n) _ (inl refl) (by_member (is_member n))
    where
      by_member : (b : Bool) → SameSettled n (record n { membership = if b then n.membership else record n.membership { target = Some target } })
      by_member true = inl refl
      by_member false = inl refl
  rule_settled (event.Tick word) = same_if (is_member n) _ (asks_at n.membership.target n) (goes_settled word (ticked n (ticks.tick n.membership)).0 (tick_learns (given_by (event.Tick word)) n.membership).waits_on) (asks_settled n.membership.target)
  rule_settled (event.Packet p) = told_settled p.from p.message
  rule_settled (event.Leave who) = leave_settled who
  rule_settled (event.Down who) = down_settled who
  rule_settled (event.Offer entity payload) = inl refl
  rule_settled event.Stop = inl refl

-- the closing notes what is known then, or nothing
pub closes_notes : (n : State) → ((closes n).0.membership.settled ≡ n.membership.settled) ⊎ NotesNow (closes n).0
closes_notes n = by_case (notes (not n.runs) n.membership) refl
  where
    by_case : (b : Bool) → notes (not n.runs) n.membership ≡ b → ((closes n).0.membership.settled ≡ n.membership.settled) ⊎ NotesNow (closes n).0
    by_case false is = inl (ap (λ b. if b then after_note (known n).version (known n).view.standings n.membership.settled else n.membership.settled) is)
    by_case true is =
        let noted : (closes n).0.membership.settled ≡ after_note (known n).version (known n).view.standings n.membership.settled = ap (λ b. if b then after_note (known n).version (known n).view.standings n.membership.settled else n.membership.settled) is in
        let stays = first_so (not (stops (not n.runs) n.membership)) (is_noted n.membership) is in
        inr (record {
          version = ap (λ (s : SettledModel). version_of s.view) noted;
          standings = ap (λ (s : SettledModel). standings_of s.view) noted;
          settled = first_so (has_settled n.membership) _ (second_so (not (stops (not n.runs) n.membership)) (is_noted n.membership) is);
          stays = (ran_before n.runs (is_gone n) stays).1;
          runs = stays;
        })

running_notes : (e : NodeEvent) (n : State) → Notes n (running_step e n).0
running_notes e n = outcome_if (Notes n) (is_dead (me_of n) e) (n, action.Dead ∷ []) (and_then concludes (rule e n)) (λ _. inl (inl refl)) (λ _. after_rule (closes_notes (rule e n).0))
  where
    after_rule : ((closes (rule e n).0).0.membership.settled ≡ (rule e n).0.membership.settled) ⊎ NotesNow (closes (rule e n).0).0 → Notes n (concludes (rule e n).0).0
    after_rule (inl same) = inl (subst (WaitsOn n.membership.settings.margin n.membership.settled) (sym same) (rule_settled n e))
    after_rule (inr now) = inr (record { version = now.version; standings = now.standings; settled = now.settled; stays = now.stays; runs = now.runs })

pub step_notes : (e : NodeEvent) (n : State) → IsTrue n.runs → Notes n (step e n).0
step_notes e n runs = subst (λ (o : Outcome). Notes n o.0) (sym (step_is e n runs)) (running_notes e (record n { steps = n.steps + 1 }))

-- ---- it watches members, and the tombstones of its settled view wait for at most the margin
abbrev Watches : State → Type 0
Watches n = IsWatching n.membership

running_watching : (e : NodeEvent) (n : State) → Watches n → Watches (running_step e n).0
running_watching e n watches = outcome_if Watches (is_dead (me_of n) e) (n, action.Dead ∷ []) (and_then concludes (rule e n)) (λ _. watches) (λ _ who is.
    let m = (rule e n).0.membership in
    watched_member m.me m.gossip.view.standings m.settings.deadline m.detector who is)

abbrev Counts : State → Type 0
Counts n = IsCounting n.membership.settings.margin n.membership.settled.view

closes_counting : (n : State) → Counts n → Counts (closes n).0
closes_counting n counts = by_case (notes (not n.runs) n.membership)
  where
    by_case : (b : Bool) → IsCounting n.membership.settings.margin (if b then after_note (known n).version (known n).view.standings n.membership.settled else n.membership.settled).view
    by_case true = counting_noted n.membership.settings.margin (known n).version (known n).view.standings n.membership.settled.view counts
    by_case false = counts

running_counting : (e : NodeEvent) (n : State) → Counts n → Counts (running_step e n).0
running_counting e n counts = outcome_if Counts (is_dead (me_of n) e) (n, action.Dead ∷ []) (and_then concludes (rule e n)) (λ _. counts) (λ _.
    closes_counting (rule e n).0
    (subst (λ (s : SettingsModel). IsCounting s.margin (rule e n).0.membership.settled.view) (sym (rule_changes e n).same_settings)
    (waits_counting n.membership.settings.margin n.membership.settled (rule e n).0.membership.settled (rule_settled n e) counts)))

pub step_keeps_node : (e : NodeEvent) (n s : State) → IsNode n → s ≡ (step e n).0 → IsNode s
step_keeps_node e n s node is = by_case n.runs refl
  where
    m : State
    m = record n { steps = n.steps + 1 }

    running : IsNode (running_step e m).0
    running =
        let c = running_changes e m in
        record {
          ticked = let most = c.ticked in let steps : (running_step e m).0.steps ≡ n.steps + 1 = c.same_steps in let before = node.ticked in omega arith;
          shown = running_shown e m node.shown;
          watching = running_watching e m node.watching;
          counting = running_counting e m node.counting;
          stays = running_stays e m node.stays;
        }

    by_case : (b : Bool) → n.runs ≡ b → IsNode s
    by_case true runs = subst IsNode (sym (is ∙ ap (λ (o : Outcome). o.0) (step_is e n runs))) running
    by_case false stopped = subst IsNode (sym (is ∙ ap (λ (o : Outcome). o.0) (stopped_is e n stopped))) node

-- ---- a step makes at most one update
one_made : (k : Knowledge) → length (made_by k) ≤ 1
one_made Keeps = omega arith
one_made (Updates effects) = omega arith
one_made (Accepts g) = omega arith

pub updates_once : (e : NodeEvent) (n : State) → length (updates_of (step e n).1) ≤ 1
updates_once e n = by_case n.runs refl
  where
    by_case : (b : Bool) → n.runs ≡ b → length (updates_of (step e n).1) ≤ 1
    by_case true runs = let c = step_changes e n runs in subst (λ l. length l ≤ 1) (sym c.made) (one_made c.knowledge)
    by_case false stopped = subst (λ (o : Outcome). length (updates_of o.1) ≤ 1) (sym (stopped_is e n stopped)) (omega arith)

-- ---- a process that starts, and one that forgets
pub starts_as_node : (n : State) → n.membership ≡ membership.started (me_of n) n.membership.settings → IsNode n
starts_as_node n is = record {
  ticked = let none : n.membership.ticks ≡ 0 = ap (λ (m : MembershipState). m.ticks) is in omega arith;
  shown = ap (λ (m : MembershipState). m.shown) is ∙ sym (ap (λ (m : MembershipState). m.gossip.version) is);
  watching = λ who watched. absurd (true≢false (sym watched ∙ ap (λ (m : MembershipState). map.contains_key m.detector who) is ∙ ap is_some (get-empty who)));
  counting = subst (λ (s : SettledModel). IsCounting n.membership.settings.margin s.view) (sym (ap (λ (m : MembershipState). m.settled) is)) (counting_none n.membership.settings.margin);
  stays = λ runs. ap (λ (m : MembershipState). standing.is_gone (map.get m.gossip.view.standings m.me)) is ∙ ap standing.is_gone (get-empty (me_of n));
}
