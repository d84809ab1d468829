-- A tombstone that is finished by the settled view of a node is confirmed there, or the node told the end of its margin.
use Rattle.std.proofs.Common.{◌≡◌, ℕ, ◌+◌, ◌≤◌, Bool, true, false, not, ◌⊎◌, inl, inr, if◌then◌else◌, List, [], ◌∷◌, ◌++◌, length, Option, Some, None, is_some, unwrap_or, Result, Ok, Err, slice_get, Contains, IsTrue, append-nil, append_assoc, refl, sym, ap, ◌∙◌, subst, arith, true≢false}
use Rattle.std.proofs.lemmas.Option.{same_Some}
use Rattle.std.specs.FinMap as map
use Rattle.ak_address.specs.Unique.{UniqueModel}
use Rattle.ak_address.specs.Counters.{Counters, counter}
use Rattle.ak_address.proofs.Elements.{contains_left}
use Rattle.ak_member.specs.Standing.{Standings, tombstone_of}
use Rattle.ak_settings.specs.Settings.{SettingsModel}
use Rattle.ak_schedule.specs.declared.event.Event.{Event}
use Rattle.ak_settled.specs.Settled.{is_finished, ending, ticked, noted_as, after_note, counters_of, standings_of, IsCounting}
use Rattle.ak_settled.specs.SettledView.{SettledView, SettledModel}
use Rattle.ak_settled.proofs.SettledLaws.{finished_means, kept_counter, noted_finished, ticked_finished}
use Rattle.ak_membership.specs.Closing.{notes}
use Rattle.ak_membership.proofs.MembershipLemmas.{waits_counting}
use Rattle.ak_wire.specs.declared.action.Action.TheVariants as action
use Rattle.ak_wire.specs.declared.action.Action.TheVariants.{MarginEnd}
use Rattle.ak_node.specs.declared.node.State.{State}
use Rattle.ak_node.specs.declared.node.NodeEvent.{NodeEvent}
use Rattle.ak_node.specs.declared.node.NodeEvent.TheVariants as event
use Rattle.ak_node.specs.Node.{Outcome, known, me_of, settled_of, margin_of, is_member, and_then, started, rule, concludes, is_dead, step}
use Rattle.ak_node.proofs.NodeLemmas.{rule_settled}
use Rattle.ak_node.proofs.StepChanges.{rule_changes, step_is}
use Rattle.ak_node.proofs.StepEnds.{Waits, rule_waits, ending_told}
use Rattle.ak_world.specs.declared.world.Reason.{Reason}
use Rattle.ak_world.specs.World.{WorldState, Done, empty_world, stepped, happens, after, run}
use Rattle.ak_world.specs.Noting.{TellsMarginEnd}
use Rattle.ak_world.specs.Remembered.{nothing_remembered}
use Rattle.ak_world.proofs.ByStart.{ByStart}
use Rattle.ak_world.proofs.IndexLemmas.{set_at, push_at}
use Rattle.ak_world.proofs.MarginRuns.{step_later, last_step}
use Rattle.ak_world.proofs.Processes.{processes}
use Rattle.ak_world.proofs.RaisedRuns.{raised}
use Rattle.ak_world.proofs.RememberedLemmas.{remembered-world}
use Rattle.ak_world.proofs.WhatHappened.{begins, steps, nobody, IsAnswer, happened}
use Rattle.ak_world.proofs.WorldLemmas.{run-push}

pub run_settings : (settings : SettingsModel) (events : List Event) (index : ℕ) (n : State) → slice_get (run settings events).nodes index ≡ Some n → n.membership.settings ≡ settings
run_settings settings events index n at =
    (subst (λ (w : WorldState). ByStart settings w.nodes) (remembered-world settings nothing_remembered events) (raised settings events).basis.by_start).same_settings index n at

-- finished, and not confirmed: it was waited for
abbrev pub WasWaitedFor : ℕ → SettledView → UniqueModel → Type 0
WasWaitedFor margin v q = IsTrue (is_finished margin v q) × (tombstone_of (map.get (standings_of v) q) ≡ Some false)

-- of a note: whoever was waited for then was waited for before
waited_before : (version : Counters) (s : Standings) (v : SettledView) (q : UniqueModel) (margin : ℕ) → 1 ≤ margin → IsCounting margin v → WasWaitedFor margin (noted_as version s v) q → WasWaitedFor margin v q
waited_before version s v q margin least counting (over, unconfirmed) = (
  elim (noted_finished version s v q margin least counting over) [
    | inl confirmed ↦ absurd (true≢false (same_Some true false (sym confirmed ∙ unconfirmed)))
    | inr before ↦ before
  ],
  counting.unconfirmed q (present (map.get (counters_of v) q) (sym (kept_counter version s v q unconfirmed) ∙ by_count (finished_means margin (noted_as version s v) q over))),
)
  where
    present : (o : Option ℕ) → unwrap_or o 0 ≡ margin → is_some o ≡ true
    present None is = absurd (omega arith)
    present (Some n) is = refl

    by_count : (confirmed : Bool) × (tombstone_of (map.get s q) ≡ Some confirmed) × (IsTrue confirmed ⊎ (counter (counters_of (noted_as version s v)) q ≡ margin)) → counter (counters_of (noted_as version s v)) q ≡ margin
    by_count (confirmed, there, inl is) = absurd (true≢false (sym is ∙ same_Some confirmed false (sym there ∙ unconfirmed)))
    by_count (confirmed, there, inr is) = is

-- at a tick of a member the end of each margin that ends is told
pub tick_ends : (n : State) (ev : NodeEvent) → IsTrue n.runs → (word : ℕ) → ev ≡ event.Tick word → is_member n ≡ true → (q : UniqueModel) → Contains (ending (margin_of n) (settled_of n)) q → Contains (step ev n).1 (MarginEnd q)
tick_ends n ev runs word is member q ends =
    let later_n : State = record n { steps = n.steps + 1 } in
    let told : Contains (rule (event.Tick word) later_n).1 (MarginEnd q) = ending_told later_n word member q ends in
    let stepping : Contains (step (event.Tick word) n).1 (MarginEnd q) =
    subst (λ (o : Outcome). Contains o.1 (MarginEnd q)) (sym (step_is (event.Tick word) n runs))
    (contains_left (rule (event.Tick word) later_n).1 (concludes (rule (event.Tick word) later_n).0).1 (MarginEnd q) told) in
    subst (λ x. Contains (step x n).1 (MarginEnd q)) (sym is) stepping

module _ (settings : SettingsModel) (least : 1 ≤ settings.margin) where
  -- the node of this number told the end
  abbrev Told : List Event → ℕ → UniqueModel → Type 0
  Told events index q = (time : ℕ) × TellsMarginEnd settings events time index q

  abbrev AllTold : List Event → WorldState → Type 0
  AllTold events w = (index : ℕ) (n : State) → slice_get w.nodes index ≡ Some n → (q : UniqueModel) → WasWaitedFor (margin_of n) (settled_of n) q → Told events index q

  -- ---- one more event
  module _ (past : List Event) (e : Event) where
    abbrev w : WorldState
    w = run settings past

    abbrev now : List Event
    now = past ++ e ∷ []

    still_told : (index : ℕ) (q : UniqueModel) → Told past index q → Told now index q
    still_told index q (time, t) = (time, record { event = t.event; done = t.done; did = step_later settings past e time t.event t.done t.did; acted = t.acted; told = t.told })

    module _ (index : ℕ) (n : State) (ev : NodeEvent) (founded : Bool) (at : slice_get w.nodes index ≡ Some n) (runs : IsTrue n.runs)
        (did : happens settings e w ≡ Ok (stepped index (step ev n) (record w { founded = founded }))) (before : (q : UniqueModel) → WasWaitedFor (margin_of n) (settled_of n) q → Told past index q) where
      abbrev done : Done
      done = stepped index (step ev n) (record w { founded = founded })

      told_now : (q : UniqueModel) → Contains (step ev n).1 (MarginEnd q) → Told now index q
      told_now q there = (length past, record { event = e; done = done; did = last_step settings past e done did; acted = refl; told = there })

      old_told : (q : UniqueModel) → WasWaitedFor (margin_of n) (settled_of n) q → Told now index q
      old_told q waited = still_told index q (before q waited)

      abbrev later_n : State
      later_n = record n { steps = n.steps + 1 }

      counting : IsCounting (margin_of n) (settled_of n)
      counting = ((processes settings past).sane index n at).is_node.counting

      standings-ticked : (v : SettledView) → standings_of (ticked (margin_of n) v) ≡ standings_of v
      standings-ticked None = refl
      standings-ticked (Some noted) = refl

      -- after a tick's wait
      ticked_told : (word : ℕ) → ev ≡ event.Tick word → is_member n ≡ true → (q : UniqueModel) → WasWaitedFor (margin_of n) (ticked (margin_of n) (settled_of n)) q → Told now index q
      ticked_told word is member q (over, unconfirmed) = elim ((ticked_finished (margin_of n) (settled_of n) q counting).0 over) [
        | inl old ↦ old_told q (old, ap (λ (s : Standings). tombstone_of (map.get s q)) (sym (standings-ticked (settled_of n))) ∙ unconfirmed)
        | inr ends ↦ told_now q (tick_ends n ev runs word is member q ends)
      ]

      abbrev m : State
      m = (rule ev later_n).0

      margin_is : margin_of m ≡ margin_of n
      margin_is = ap (λ (x : SettingsModel). x.margin) (rule_changes ev later_n).same_settings

      -- after the rule
      rule_told : (q : UniqueModel) → WasWaitedFor (margin_of m) (settled_of m) q → Told now index q
      rule_told q waited = by_case (rule_waits ev later_n)
        where
          here : WasWaitedFor (margin_of n) (settled_of m) q
          here = subst (λ k. WasWaitedFor k (settled_of m) q) margin_is waited

          by_case : Waits ev later_n m → Told now index q
          by_case (inl same) = old_told q (subst (λ (x : SettledModel). WasWaitedFor (margin_of n) x.view q) same here)
          by_case (inr (word, is, member, after_it)) = ticked_told word is member q (subst (λ (x : SettledModel). WasWaitedFor (margin_of n) x.view q) after_it here)

      counting_m : IsCounting (margin_of m) (settled_of m)
      counting_m = subst (λ k. IsCounting k (settled_of m)) (sym margin_is) (waits_counting (margin_of n) n.membership.settled m.membership.settled (rule_settled later_n ev) counting)

      least_m : 1 ≤ margin_of m
      least_m = subst (λ k. 1 ≤ k) (sym margin_is) (subst (λ (x : SettingsModel). 1 ≤ x.margin) (sym (run_settings settings past index n at)) least)

      -- after the closing
      closed_told : (b : Bool) → notes (not m.runs) m.membership ≡ b → (q : UniqueModel) → WasWaitedFor (margin_of m) (settled_of (concludes m).0) q → Told now index q
      closed_told false due_is q waited =
          rule_told q (subst (λ (x : SettledModel). WasWaitedFor (margin_of m) x.view q) (ap (λ b. if b then after_note (known m).version (known m).view.standings m.membership.settled else m.membership.settled) due_is) waited)
      closed_told true due_is q waited =
          rule_told q (waited_before (known m).version (known m).view.standings (settled_of m) q (margin_of m) least_m counting_m
          (subst (λ (x : SettledModel). WasWaitedFor (margin_of m) x.view q) (ap (λ b. if b then after_note (known m).version (known m).view.standings m.membership.settled else m.membership.settled) due_is) waited))

      -- after the step
      step_told : (q : UniqueModel) → WasWaitedFor (margin_of (step ev n).0) (settled_of (step ev n).0) q → Told now index q
      step_told q waited = by_dead (is_dead (me_of n) ev) (subst (λ (o : Outcome). WasWaitedFor (margin_of o.0) (settled_of o.0) q) (step_is ev n runs) waited)
        where
          by_dead : (b : Bool) → (let o : Outcome = if b then (later_n, action.Dead ∷ []) else and_then concludes (rule ev later_n) in WasWaitedFor (margin_of o.0) (settled_of o.0) q) → Told now index q
          by_dead true x = old_told q x
          by_dead false x = closed_told (notes (not m.runs) m.membership) refl q x

    -- ---- so it stays
    answered_told : AllTold past w → (a : Result Done Reason) → happens settings e w ≡ a → IsAnswer settings w a → AllTold now (after w a)
    answered_told all (Err why) did is = λ index n at q waited. still_told index q (all index n at q waited)
    answered_told all (Ok result) did is = elim is as (λ d h. happens settings e w ≡ Ok d → AllTold now d.world) [
      | begins u unknown free listed few ↦ λ did.
          push_at (λ j m. (q : UniqueModel) → WasWaitedFor (margin_of m) (settled_of m) q → Told now j q) w.nodes (started u settings) (λ j m at q waited. still_told j q (all j m at q waited)) (λ q none. absurd (true≢false (sym none.0)))
      | steps ev index n founded at runs was_sent ↦ λ did.
          set_at (λ j m. (q : UniqueModel) → WasWaitedFor (margin_of m) (settled_of m) q → Told now j q) w.nodes index (step ev n).0 (λ j m at elsewhere q waited. still_told j q (all j m at q waited))
          (step_told index n ev founded at runs did (all index n at))
      | nobody ↦ λ did j m at q waited. still_told j q (all j m at q waited)
    ] did

    told_then : AllTold past w → AllTold now (run settings now)
    told_then all = subst (AllTold now) (sym (run-push settings empty_world past e)) (answered_told all (happens settings e w) refl (happened settings w e))

  -- ---- each list of events
  told_on : (past rest : List Event) → AllTold past (run settings past) → AllTold (past ++ rest) (run settings (past ++ rest))
  told_on past [] all = subst (λ l. AllTold l (run settings l)) (sym (append-nil past)) all
  told_on past (e ∷ rest) all = subst (λ l. AllTold l (run settings l)) (append_assoc past (e ∷ []) rest) (told_on (past ++ e ∷ []) rest (told_then past e all))

  pub all_told : (events : List Event) → AllTold events (run settings events)
  all_told events = told_on [] events (λ index n at. absurd (cc))

-- ---- in other words
pub finished_by : (settings : SettingsModel) (events : List Event) → 1 ≤ settings.margin → (index : ℕ) (n : State) → slice_get (run settings events).nodes index ≡ Some n → (q : UniqueModel) → IsTrue (is_finished (margin_of n) (settled_of n) q)
    → (tombstone_of (map.get (standings_of (settled_of n)) q) ≡ Some true) ⊎ ((time : ℕ) × TellsMarginEnd settings events time index q)
finished_by settings events least index n at q over = by_mark (finished_means (margin_of n) (settled_of n) q over)
  where
    by_mark : (confirmed : Bool) × (tombstone_of (map.get (standings_of (settled_of n)) q) ≡ Some confirmed) × (IsTrue confirmed ⊎ (counter (counters_of (settled_of n)) q ≡ margin_of n))
        → (tombstone_of (map.get (standings_of (settled_of n)) q) ≡ Some true) ⊎ ((time : ℕ) × TellsMarginEnd settings events time index q)
    by_mark (true, is, why) = inl is
    by_mark (false, is, why) = inr (all_told settings least events index n at q (over, is))
