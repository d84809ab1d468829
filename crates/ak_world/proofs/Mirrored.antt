-- Beside each world of a run whose margin is kept stands a cluster of the moves: each node keeps the same of promises and of the
-- singleton, whatever a packet says was said there, and all that is true after any allowed moves is true of it.
use Rattle.std.proofs.Common.{◌≡◌, ◌≢◌, ℕ, ◌+◌, ◌==◌, ◌≤◌, Bool, true, false, not, inl, inr, if◌then◌else◌, List, [], ◌∷◌, ◌++◌, length, Some, Result, Ok, Err, slice_get, slice_set, Contains, IsTrue, append-nil, append_assoc, refl, sym, ap, ◌∙◌, subst, arith, true≢false}
use Rattle.std.proofs.lemmas.Bool.{eqb-true}
use Rattle.std.specs.List.{list_any}
use Rattle.std.specs.Ordering.{is_eq}
use Rattle.ak_address.specs.Unique.{UniqueModel, unique_cmp}
use Rattle.ak_address.proofs.Elements.{contains_first, contains_at, contains_either, any_there, contains_nothing}
use Rattle.ak_address.proofs.TableLaws.{key_itself}
use Rattle.ak_clock.specs.Version.{Counts, Covers}
use Rattle.ak_clock.proofs.VersionLaws.{covers_along}
use Rattle.ak_line.specs.Line.{Line, IsLine}
use Rattle.ak_line.specs.Grows.{Grows}
use Rattle.ak_line.specs.BallotOrder.{IsLater}
use Rattle.ak_line.specs.Moves as moves
use Rattle.ak_line.specs.Moves.{Node, Said, Packet, Cluster, Move, Sent, blank, unstarted, after_all}
use Rattle.ak_line.specs.Safe.{Safe}
use Rattle.ak_line.proofs.BallotOrderLaws.{later_strict}
use Rattle.ak_line.proofs.Grown.{safe_grown}
use Rattle.ak_line.proofs.LocalAllowed.{after_node, after_other, after_sent, Moved, moved}
use Rattle.ak_line.proofs.OneHome.{safe_first, safe_kept, safe_after}
use Rattle.ak_settings.specs.Settings.{SettingsModel}
use Rattle.ak_schedule.specs.declared.event.Event.{Event}
use Rattle.ak_settled.specs.Settled.{version_of, is_finished, ticked, after_note}
use Rattle.ak_settled.specs.SettledView.{SettledView, SettledModel, NotedView}
use Rattle.ak_membership.specs.Closing.{notes}
use Rattle.ak_membership.proofs.MembershipLemmas.{waits_version}
use Rattle.ak_wire.specs.declared.envelope.Envelope.{Envelope}
use Rattle.ak_wire.specs.declared.action.Action.TheVariants as action
use Rattle.ak_wire.specs.Wire.{sent}
use Rattle.ak_node.specs.declared.node.State.{State}
use Rattle.ak_node.specs.declared.node.NodeEvent.{NodeEvent}
use Rattle.ak_node.specs.declared.node.NodeEvent.TheVariants as event
use Rattle.ak_node.specs.Node.{is_for, Outcome, known, me_of, settled_of, margin_of, and_then, started, rule, concludes, is_dead, step}
use Rattle.ak_node.specs.Said.{said_to, said_in}
use Rattle.ak_promise.specs.Ballot.{BallotModel}
use Rattle.ak_sharding.proofs.NewSharing.{new_is}
use Rattle.ak_wire.specs.declared.envelope.Message.{Message}
use Rattle.ak_wire.specs.declared.envelope.Message.TheVariants as message
use Rattle.ak_node.proofs.NodeLemmas.{rule_settled}
use Rattle.ak_node.proofs.StepGrants.{Once, step_once}
use Rattle.ak_node.proofs.StepChanges.{rule_changes, step_changes, step_is}
use Rattle.ak_node.proofs.StepMoves.{IsPart, IsAfter, IsShown, IsOwn, part_alike}
use Rattle.ak_node.proofs.StepEnds.{IsNoted, WaitsSurely, WasHeard, Premises, Ends, running_ends}
use Rattle.ak_world.specs.declared.margin.Margin.TheVariants.{Kept}
use Rattle.ak_world.specs.declared.world.Reason.{Reason}
use Rattle.ak_world.specs.World.{WorldState, Done, empty_world, stepped, starts, is_process, happens, after, run}
use Rattle.ak_world.specs.InRun.{HasStopped}
use Rattle.ak_world.specs.Margin.{IsMargin}
use Rattle.ak_world.specs.RunLine.{line_of}
use Rattle.ak_world.specs.SettledLine.{IsOverHalf}
use Rattle.ak_world.specs.Uids.{HaveUids}
use Rattle.ak_world.proofs.Addressed.{is_order, said_alike, receiver_in, receiver_is, uid_of}
use Rattle.ak_world.proofs.AsLine.{run_is_line, line_grows, aged_started}
use Rattle.ak_world.proofs.FinishedRuns.{kept_before, all_rest, ticked_rests}
use Rattle.ak_world.proofs.FoldRuns.{run_sound}
use Rattle.ak_world.proofs.HeldInOrder.{step_covers}
use Rattle.ak_world.proofs.IndexLemmas.{set_at, set_back, set_here, set_or, push_at, push_here, prefix_at}
use Rattle.ak_world.proofs.NotedLine.{itself_kept}
use Rattle.ak_world.proofs.Processes.{IsThere, processes}
use Rattle.ak_world.proofs.ShownLine.{OnAt, AgedAt, RemovedAt, ShowsAt, node_shows, ticked_shows, waits_shows, shown_at, shown_next}
use Rattle.ak_world.proofs.WhatHappened.{WasSent, begins, steps, nobody, IsAnswer, happened}
use Rattle.ak_world.proofs.WorldLemmas.{run-push}

pub record IsMirrored (settings : SettingsModel) (quorum : ℕ) (events : List Event) (c : Cluster Counts) : Type 0 where
  pub at : (index : ℕ) (n : State) → slice_get (run settings events).nodes index ≡ Some n → IsAfter n (c.node (me_of n))
  pub absent : (z : UniqueModel) → (IsThere (run settings events).nodes z → ⊥) → c.node z ≡ blank (line_of settings events quorum) IsLater
  pub sent : (p : Envelope) → Contains (run settings events).packets p → (x : Said Counts) → Contains (said_in p) x → Sent (line_of settings events quorum) IsLater c p.from x
  -- each grant reports each shard once at most
  pub once : (p : Envelope) → Contains (run settings events).packets p → Once p.message
  pub safe : Safe (line_of settings events quorum) IsLater c

module _ (settings : SettingsModel) (quorum : ℕ) (over_half : IsOverHalf settings quorum) (all : List Event) (kept : IsMargin settings all Kept) (least : 1 ≤ settings.margin) (uids : HaveUids (run settings all)) where
  module _ (past rest : List Event) (e : Event) (parts : past ++ e ∷ rest ≡ all) (c : Cluster Counts) (k : IsMirrored settings quorum past c) where
    abbrev w : WorldState
    w = run settings past

    abbrev now : List Event
    now = past ++ e ∷ []

    abbrev l0 : Line Counts
    l0 = line_of settings past quorum

    abbrev l1 : Line Counts
    l1 = line_of settings now quorum

    kept_now : IsMargin settings now Kept
    kept_now = kept_before settings now rest (subst (λ l. IsMargin settings l Kept) (sym (append_assoc past (e ∷ []) rest ∙ parts)) kept)

    line0 : IsLine Counts l0
    line0 = run_is_line settings past quorum over_half

    line1 : IsLine Counts l1
    line1 = run_is_line settings now quorum over_half

    grows : Grows Counts l0 (OnAt settings quorum now) (AgedAt settings quorum now) (RemovedAt settings quorum now)
    grows = line_grows settings past (e ∷ []) quorum

    pub grown : (x : Cluster Counts) → Safe l0 IsLater x → Safe l1 IsLater x
    grown x s = safe_grown l0 IsLater (OnAt settings quorum now) (AgedAt settings quorum now) (RemovedAt settings quorum now) grows x s

    now_is : run settings now ≡ after w (happens settings e w)
    now_is = run-push settings empty_world past e

    -- who has stopped here has stopped there
    stopped_there : (q : UniqueModel) → HasStopped w.nodes q → (c.node q).runs ≡ false
    stopped_there q s = subst (λ u. (c.node u).runs ≡ false) s.is_who ((k.at s.index s.node s.at).over s.stopped)

    -- ---- what a packet says to a process it says
    -- an order names its receiver, which promised its ballot, and so is a process with a number
    order_promised : (p : Envelope) → Contains w.packets p → (m : Message) → p.message ≡ m → is_order m ≡ true → (b : BallotModel) × Contains (c.node (receiver_in p)).promised b
    order_promised p there (message.HostShard b shard number) same is = (
      b,
      (k.safe.placed.directed (receiver_in p) b shard number (
        p.from,
        inl (k.sent p there (moves.HostShard b (receiver_in p) shard number)
            (subst (λ m. Contains (said_to (receiver_in p) m) (moves.HostShard b (receiver_in p) shard number)) (sym same) (contains_first _ []))),
      )).0,
    )
    order_promised p there (message.HandOff b shard number) same is = (
      b,
      (k.safe.placed.directed (receiver_in p) b shard number (
        p.from,
        inr (k.sent p there (moves.HandOff b (receiver_in p) shard number)
            (subst (λ m. Contains (said_to (receiver_in p) m) (moves.HandOff b (receiver_in p) shard number)) (sym same) (contains_first _ []))),
      )).0,
    )
    order_promised p there other same is = absurd (true≢false (sym is))

    order_numbered : (p : Envelope) → Contains w.packets p → is_order p.message ≡ true → (p.uid == 0) ≡ false
    order_numbered p there is = by_uid (p.uid == 0) refl
      where
        by_uid : (b : Bool) → (p.uid == 0) ≡ b → b ≡ false
        by_uid false is_b = refl
        by_uid true zero_is =
            let none : IsThere w.nodes (receiver_in p) → ⊥ = λ t.
            let least_uid = uid_of settings past (e ∷ rest) (subst (λ l. HaveUids (run settings l)) (sym parts) uids) (receiver_in p) t in
            let z = eqb-true p.uid 0 zero_is in
            omega (arith, z, least_uid) in
            let o = order_promised p there p.message refl is in
            absurd (contains_nothing o.0 (subst (λ (n : Node Counts). Contains n.promised o.0) (k.absent (receiver_in p) none) o.1))

    addressed : (p : Envelope) → Contains w.packets p → (z : UniqueModel) → is_for z p ≡ true → (x : Said Counts) → Contains (said_to z p.message) x → Contains (said_in p) x
    addressed p there z is x says = by_order (is_order p.message) refl
      where
        by_order : (b : Bool) → is_order p.message ≡ b → Contains (said_in p) x
        by_order false is_b = subst (λ l. Contains l x) (said_alike z (receiver_in p) p.message is_b) says
        by_order true is_b = subst (λ u. Contains (said_to u p.message) x) (sym (receiver_is p z (order_numbered p there is_b) is)) says

    -- ---- nothing happens
    same_mirrored : (x : WorldState) → run settings now ≡ x → x.nodes ≡ w.nodes → x.packets ≡ w.packets → IsMirrored settings quorum now c
    same_mirrored x is nodes packets = record {
      at = λ index n at. k.at index n (ap (λ l. slice_get l index) (sym (ap (λ (y : WorldState). y.nodes) is ∙ nodes)) ∙ at);
      absent = λ z none. k.absent z (λ there. none (subst (λ l. IsThere l z) (sym (ap (λ (y : WorldState). y.nodes) is ∙ nodes)) there));
      sent = λ p there x x_says. k.sent p (subst (λ l. Contains l p) (ap (λ (y : WorldState). y.packets) is ∙ packets) there) x x_says;
      once = λ p there. k.once p (subst (λ l. Contains l p) (ap (λ (y : WorldState). y.packets) is ∙ packets) there);
      safe = grown c k.safe;
    }

    -- ---- a process starts
    module _ (u : UniqueModel) (unknown : list_any (is_process u) w.nodes ≡ false) (is : run settings now ≡ (starts settings u w).world) where
      not_there : IsThere w.nodes u → ⊥
      not_there t =
          true≢false (sym (any_there (is_process u) w.nodes t.node (contains_at w.nodes t.index t.node t.at) (ap (λ v. is_eq (unique_cmp v u)) t.is_who ∙ key_itself u)) ∙ unknown)

      abbrev c_start : Cluster Counts
      c_start = moves.after l0 IsLater c (Move.Start u)

      was_blank : c.node u ≡ blank l0 IsLater
      was_blank = k.absent u not_there

      unaged : (v : Counts) → AgedAt settings quorum past v u → ⊥
      unaged v aged = let s = aged_started settings past v u aged in not_there (record { index = s.index; node = s.node; at = s.at; is_who = s.is_who })

      made : c_start.node u ≡ record (blank l0 IsLater) { runs = true }
      made = subst (λ n. c_start.node u ≡ record n { runs = true }) was_blank (after_node l0 line0 IsLater c (Move.Start u))

      other : (z : UniqueModel) → (z ≡ u → ⊥) → c_start.node z ≡ c.node z
      other z apart = after_other l0 line0 IsLater c (Move.Start u) z apart

      begins_as : IsAfter (started u settings) (record (blank l0 IsLater) { runs = true })
      begins_as = record {
        running = λ runs. record {
          like = record { runs = refl; settled_is = refl; finished = λ q none. absurd (true≢false (sym none)); last = refl; released = refl; floor = refl; phase = refl };
          fits = refl;
          sharing = new_is settings (record (blank l0 IsLater) { runs = true }) refl;
        };
        over = λ none. absurd (true≢false none);
      }

      start_mirrored : IsMirrored settings quorum now c_start
      start_mirrored = record {
        at = λ index n at.
            push_at (λ j m. IsAfter m (c_start.node (me_of m))) w.nodes (started u settings)
            (λ j m at. subst (IsAfter m) (sym (other (me_of m) (λ same. not_there (record { index = j; node = m; at = at; is_who = same })))) (k.at j m at))
            (subst (IsAfter (started u settings)) (sym made) begins_as)
            index n (ap (λ (y : WorldState). slice_get y.nodes index) (sym is) ∙ at);
        absent = λ z none.
            let apart : z ≡ u → ⊥ = λ same. none (subst (λ l. IsThere l z) (sym (ap (λ (y : WorldState). y.nodes) is)) (record { index = length w.nodes; node = started u settings; at = push_here w.nodes (started u settings); is_who = sym same })) in
            other z apart
            ∙ k.absent z (λ t. none (subst (λ l. IsThere l z) (sym (ap (λ (y : WorldState). y.nodes) is)) (record { index = t.index; node = t.node; at = prefix_at w.nodes (started u settings ∷ []) t.index t.node t.at; is_who = t.is_who })));
        sent = λ p there x x_says. after_sent l0 line0 IsLater c (Move.Start u) _ (k.sent p (subst (λ l. Contains l p) (ap (λ (y : WorldState). y.packets) is) there) x x_says);
        once = λ p there. k.once p (subst (λ l. Contains l p) (ap (λ (y : WorldState). y.packets) is) there);
        safe = grown c_start (safe_kept l0 line0 IsLater later_strict c (Move.Start u) k.safe (was_blank, λ i. (unaged (c.node i).settled, λ a act. unaged a.first)));
      }

    -- ---- a step of one node
    module _ (index : ℕ) (n : State) (ev : NodeEvent) (founded : Bool) (at : slice_get w.nodes index ≡ Some n) (runs : IsTrue n.runs) (was_sent : WasSent w ev)
        (did : happens settings e w ≡ Ok (stepped index (step ev n) (record w { founded = founded }))) where
      abbrev me : UniqueModel
      me = me_of n

      abbrev a : Node Counts
      a = c.node me

      abbrev later_n : State
      later_n = record n { steps = n.steps + 1 }

      abbrev m : State
      m = (rule ev later_n).0

      abbrev n2 : State
      n2 = (step ev n).0

      abbrev heard : UniqueModel → Said Counts → Type 0
      heard z x = Sent l1 IsLater c z x

      abbrev stopped : UniqueModel → Type 0
      stopped q = (c.node q).runs ≡ false

      safe1 : Safe l1 IsLater c
      safe1 = grown c k.safe

      part_n : IsPart n a
      part_n = (k.at index n at).running runs

      part : IsPart later_n a
      part = part_alike n later_n a part_n refl refl refl refl

      own : IsOwn (OnAt settings quorum now) (AgedAt settings quorum now) (RemovedAt settings quorum now) me a
      own t live = let o = safe1.promised.own me t live in (o.0, o.2)

      shows : ShowsAt settings quorum past (settled_of n)
      shows = node_shows settings quorum over_half past index n at

      abbrev Shown : ℕ → SettledView → Type 0
      Shown margin v = IsShown (OnAt settings quorum now) (AgedAt settings quorum now) (RemovedAt settings quorum now) margin v

      shown : Shown (margin_of n) (settled_of n)
      shown = shown_next settings quorum past e (margin_of n) (settled_of n) shows

      shown_m : Shown (margin_of m) (settled_of m)
      shown_m = shown_next settings quorum past e (margin_of m) (settled_of m) (waits_shows settings quorum past (margin_of n) n.membership.settled m.membership.settled (rule_settled later_n ev) shows)

      -- ---- at the end of the step
      then_is : run settings now ≡ (stepped index (step ev n) (record w { founded = founded })).world
      then_is = now_is ∙ ap (after w) did

      nodes_then : (run settings now).nodes ≡ slice_set w.nodes index n2
      nodes_then = ap (λ (y : WorldState). y.nodes) then_is

      at_then : slice_get (run settings now).nodes index ≡ Some n2
      at_then = ap (λ l. slice_get l index) nodes_then ∙ set_here w.nodes index n n2 at

      same_me : me_of n2 ≡ me
      same_me = (step_changes ev n runs).same_me

      -- who has stopped then, and is another, has stopped there already
      stopped_before : (q : UniqueModel) → (q ≡ me → ⊥) → HasStopped (run settings now).nodes q → stopped q
      stopped_before q apart s = elim (set_or w.nodes index s.index n2 s.node (ap (λ l. slice_get l s.index) (sym nodes_then) ∙ s.at)) [
        | inl new ↦ absurd (apart (sym s.is_who ∙ ap me_of new ∙ same_me))
        | inr old ↦ stopped_there q (record { index = s.index; node = s.node; at = old; is_who = s.is_who; stopped = s.stopped })
      ]

      abbrev noted_view : SettledModel
      noted_view = after_note (known m).version (known m).view.standings m.membership.settled

      lives_as : is_dead me ev ≡ false → n2 ≡ (concludes m).0
      lives_as lives = ap (λ (o : Outcome). o.0) (step_is ev n runs) ∙ ap (λ b. (if b then (later_n, action.Dead ∷ []) else and_then concludes (rule ev later_n)).0) lives

      notes_as : is_dead me ev ≡ false → notes (not m.runs) m.membership ≡ true → n2.membership.settled ≡ noted_view
      notes_as lives due = ap (λ (x : State). x.membership.settled) (lives_as lives) ∙ ap (λ b. if b then noted_view else m.membership.settled) due

      margin_m : margin_of m ≡ margin_of n
      margin_m = ap (λ (x : SettingsModel). x.margin) (rule_changes ev later_n).same_settings

      me_m : me_of m ≡ me
      me_m = (rule_changes ev later_n).same_me

      abbrev noted_as_view : NotedView → Type 0
      noted_as_view v = noted_view.view ≡ Some v

      -- what is noted
      noted_is : is_dead me ev ≡ false → notes (not m.runs) m.membership ≡ true → IsNoted (OnAt settings quorum now) (AgedAt settings quorum now) (RemovedAt settings quorum now) heard stopped m
      noted_is lives due =
          let settled_is : n2.membership.settled ≡ noted_view = notes_as lives due in
          let shows2 : ShowsAt settings quorum now noted_view.view = subst (λ (x : SettledModel). ShowsAt settings quorum now x.view) settled_is (node_shows settings quorum over_half now index n2 at_then) in
          let shown2 : Shown (margin_of m) noted_view.view = shown_at settings quorum now (margin_of m) noted_view.view shows2 in
          let stays : ¬ (RemovedAt settings quorum now (known m).version me) =
          λ gone. itself_kept settings now index n2 _ at_then (ap (λ (x : SettledModel). x.view) settled_is) (subst (RemovedAt settings quorum now (known m).version) (sym same_me) gone) in
          record {
            sure = record {
              shown = shown2;
              rests = λ q over.
                  stopped_before q (λ same. stays (subst (RemovedAt settings quorum now (known m).version) same (shown2.over q over).1))
                  (all_rest settings now kept_now least index n2 at_then q
                  (subst (λ (x : SettledModel). IsTrue (is_finished (margin_of n2) x.view q)) (sym settled_is) (subst (λ j. IsTrue (is_finished j noted_view.view q)) (sym margin_2) over)));
            };
            below =
                subst (Covers (known m).version) (sym (waits_version (margin_of n) n.membership.settled m.membership.settled (rule_settled later_n ev)))
                (covers_along (known m).version (known n).version (version_of (settled_of n)) (subst (λ (x : State). Covers (known x).version (known n).version) (lives_as lives) (step_covers ev n runs)) ((processes settings past).sane index n at).membership.settled_before);
            stays = subst (λ u. ¬ (RemovedAt settings quorum now (known m).version u)) (sym me_m) stays;
          }
        where
          margin_2 : margin_of n2 ≡ margin_of m
          margin_2 = ap margin_of (lives_as lives)

      premises : is_dead me ev ≡ false → Premises (OnAt settings quorum now) (AgedAt settings quorum now) (RemovedAt settings quorum now) heard stopped ev later_n a
      premises lives = record {
        part = part;
        own = own;
        shown = shown;
        waits = waits_by ev refl;
        was_heard = heard_by ev was_sent lives;
        shown_then = shown_m;
        noted = noted_is lives;
      }
        where
          waits_by : (x : NodeEvent) → ev ≡ x → WaitsSurely (OnAt settings quorum now) (AgedAt settings quorum now) (RemovedAt settings quorum now) heard stopped later_n a part own shown x
          waits_by (event.Tick word) is = λ member. record {
            shown = shown_next settings quorum past e (margin_of n) (ticked (margin_of n) (settled_of n)) (ticked_shows settings quorum past (margin_of n) (settled_of n) shows);
            rests = λ q over. stopped_there q (ticked_rests settings past e kept_now least index n ev founded at runs did word is member q over);
          }
          waits_by other is = tt

          heard_by : (x : NodeEvent) → WasSent w x → is_dead me x ≡ false → WasHeard (OnAt settings quorum now) (AgedAt settings quorum now) (RemovedAt settings quorum now) heard stopped later_n a part own shown x
          heard_by (event.Packet p) s alive =
              let there = contains_at w.packets s.0 p s.1 in
              (λ x x_says. k.sent p there x (addressed p there me (for_me alive) x x_says), k.once p there)
            where
              for_me : not (is_for me p) ≡ false → is_for me p ≡ true
              for_me alive = by_test (is_for me p) alive
                where
                  by_test : (b : Bool) → not b ≡ false → b ≡ true
                  by_test true is = refl
                  by_test false is = absurd (true≢false is)
          heard_by other s alive = tt

      ends : Ends (OnAt settings quorum now) (AgedAt settings quorum now) (RemovedAt settings quorum now) heard stopped later_n a (step ev n)
      ends = subst (Ends (OnAt settings quorum now) (AgedAt settings quorum now) (RemovedAt settings quorum now) heard stopped later_n a) (sym (step_is ev n runs))
          (running_ends (OnAt settings quorum now) (AgedAt settings quorum now) (RemovedAt settings quorum now) heard stopped ev later_n a runs part premises)

      abbrev c_step : Cluster Counts
      c_step = after_all l1 IsLater c ends.list

      did_move : Moved l1 line1 IsLater heard stopped c me ends.list
      did_move = moved l1 line1 IsLater heard stopped c (λ z x there. there) (λ q s. s) me ends.list ends.local

      apart_from : (j : ℕ) (x : State) → slice_get w.nodes j ≡ Some x → j ≢ index → me_of x ≡ me → ⊥
      apart_from j x is elsewhere same = elsewhere ((run_sound settings past).apart j index x n is at same)

      step_mirrored : IsMirrored settings quorum now c_step
      step_mirrored = record {
        at = λ j x is.
            set_at (λ i y. IsAfter y (c_step.node (me_of y))) w.nodes index n2
            (λ i y at_i elsewhere. subst (IsAfter y) (sym (did_move.others (me_of y) (apart_from i y at_i elsewhere))) (k.at i y at_i))
            (subst (λ u. IsAfter n2 (c_step.node u)) (sym same_me) (subst (IsAfter n2) (sym did_move.here) ends.after))
            j x (ap (λ l. slice_get l j) (sym nodes_then) ∙ is);
        absent = λ z none.
            let old_none : IsThere w.nodes z → ⊥ = λ t.
            let b = set_back w.nodes index n n2 at same_me t.index t.node t.at in
            none (subst (λ l. IsThere l z) (sym nodes_then) (record { index = t.index; node = b.0; at = b.1; is_who = b.2 ∙ t.is_who })) in
            did_move.others z (λ same. old_none (record { index = index; node = n; at = at; is_who = sym same })) ∙ k.absent z old_none;
        sent = λ p there x x_says. elim (contains_either w.packets (sent (step ev n).1) p (subst (λ l. Contains l p) (ap (λ (y : WorldState). y.packets) then_is) there)) [
          | inl old ↦ did_move.before _ (k.sent p old x x_says)
          | inr new ↦ subst (λ u. Sent l1 IsLater c_step u x) (sym ((step_changes ev n runs).from p new)) (did_move.said x (ends.says p new x x_says))
        ];
        once = λ p there. elim (contains_either w.packets (sent (step ev n).1) p (subst (λ l. Contains l p) (ap (λ (y : WorldState). y.packets) then_is) there)) [
          | inl old ↦ k.once p old
          | inr new ↦ step_once ev n runs p new
        ];
        safe = safe_after l1 line1 IsLater later_strict c ends.list safe1 did_move.allowed;
      }

    -- ---- each event
    abbrev Next : Type 0
    Next = (d : Cluster Counts) × IsMirrored settings quorum now d

    answered_mirrored : (r : Result Done Reason) → happens settings e w ≡ r → IsAnswer settings w r → Next
    answered_mirrored (Err why) did is = (c, same_mirrored w (now_is ∙ ap (after w) did) refl refl)
    answered_mirrored (Ok result) did is = elim is as (λ d h. happens settings e w ≡ Ok d → Next) [
      | begins u unknown free listed few ↦ λ is_done. (_, start_mirrored u unknown (now_is ∙ ap (after w) is_done))
      | steps ev index n founded at runs was_sent ↦ λ is_done. (_, step_mirrored index n ev founded at runs was_sent is_done)
      | nobody ↦ λ is_done. (c, same_mirrored w (now_is ∙ ap (after w) is_done) refl refl)
    ] did

    pub next_mirrored : Next
    next_mirrored = answered_mirrored (happens settings e w) refl (happened settings w e)

  -- ---- each list of events
  nothing_started : IsMirrored settings quorum [] (unstarted (line_of settings [] quorum) IsLater)
  nothing_started = record {
    at = λ index n at. absurd (cc);
    absent = λ z none. refl;
    sent = λ p there. absurd (contains_nothing p there);
    once = λ p there. absurd (contains_nothing p there);
    safe = safe_first (line_of settings [] quorum) (run_is_line settings [] quorum over_half) IsLater later_strict;
  }

  abbrev Mirrors : List Event → Type 0
  Mirrors events = (c : Cluster Counts) × IsMirrored settings quorum events c

  on_and_on : (past rest : List Event) → past ++ rest ≡ all → Mirrors past → Mirrors all
  on_and_on past [] parts m = subst Mirrors (sym (append-nil past) ∙ parts) m
  on_and_on past (e ∷ rest) parts m = on_and_on (past ++ e ∷ []) rest (append_assoc past (e ∷ []) rest ∙ parts) (next_mirrored past rest e parts m.0 m.1)

  pub mirrored : Mirrors all
  mirrored = on_and_on [] all refl (_, nothing_started)
