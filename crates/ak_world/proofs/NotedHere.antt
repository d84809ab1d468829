-- What a node has noted as settled was settled at that very node, at the end of the step in which it noted it; and where the view
-- of a running node is settled, that is what it has noted.
use Rattle.std.proofs.Common.{◌≡◌, ℕ, Bool, List, [], ◌∷◌, ◌++◌, inl, inr, length, Some, None, is_some, Result, Ok, Err, slice_get, IsTrue, append-nil, append_assoc, refl, sym, ap, ◌∙◌, subst, true≢false}
use Rattle.ak_clock.specs.Version.{Counts, Covers}
use Rattle.ak_clock.proofs.VersionLaws.{covers_equal}
use Rattle.ak_converge.specs.Convergence.{is_settled}
use Rattle.ak_settings.specs.Settings.{SettingsModel, settling_size}
use Rattle.ak_schedule.specs.declared.event.Event.{Event}
use Rattle.ak_settled.specs.Settled.{version_of, ticked}
use Rattle.ak_settled.specs.SettledView.{SettledView, SettledModel, NotedView}
use Rattle.ak_node.specs.declared.node.State.{State}
use Rattle.ak_node.specs.declared.node.NodeEvent.{NodeEvent}
use Rattle.ak_node.specs.Node.{known, settled_of, started, step}
use Rattle.ak_node.proofs.NotedNow.{TellsNote, step_tells_note, HasNotedNow, step_now}
use Rattle.ak_world.specs.declared.world.Reason.{Reason}
use Rattle.ak_world.specs.World.{WorldState, Done, empty_world, stepped, happens, after, run}
use Rattle.ak_world.specs.Noting.{HasSettled, NotesAt}
use Rattle.ak_world.proofs.IndexLemmas.{set_at, set_here, push_at}
use Rattle.ak_world.proofs.MarginRuns.{step_later, last_step}
use Rattle.ak_world.proofs.WaitedRuns.{run_settings}
use Rattle.ak_world.proofs.WhatHappened.{begins, steps, nobody, IsAnswer, happened}
use Rattle.ak_world.proofs.WorldLemmas.{run-push}

module _ (settings : SettingsModel) where
  abbrev Noted : List Event → ℕ → Counts → Type 0
  Noted events index version = (time : ℕ) × NotesAt settings events time index version

  -- what is true of the node of a number
  record Notes (events : List Event) (index : ℕ) (n : State) : Type 0 where
    now : HasNotedNow n
    noted : (view : NotedView) → n.membership.settled.view ≡ Some view → Noted events index view.version

  abbrev AllNote : List Event → WorldState → Type 0
  AllNote events w = (index : ℕ) (n : State) → slice_get w.nodes index ≡ Some n → Notes events index n

  module _ (past : List Event) (e : Event) where
    abbrev w : WorldState
    w = run settings past

    abbrev later : List Event
    later = past ++ e ∷ []

    still_noted : (index : ℕ) (version : Counts) → Noted past index version → Noted later index version
    still_noted index version (time, s) = (
      time,
      record {
        event = s.event;
        done = s.done;
        did = step_later settings past e time s.event s.done s.did;
        acted = s.acted;
        told = s.told;
        state = s.state;
        at = s.at;
        runs = s.runs;
        settled = s.settled;
        version_is = s.version_is;
        noted = s.noted;
      },
    )

    still : (index : ℕ) (n : State) → Notes past index n → Notes later index n
    still index n k = record { now = k.now; noted = λ view is. still_noted index view.version (k.noted view is) }

    module _ (index : ℕ) (n : State) (ev : NodeEvent) (founded : Bool) (at : slice_get w.nodes index ≡ Some n) (runs : IsTrue n.runs)
        (did : happens settings e w ≡ Ok (stepped index (step ev n) (record w { founded = founded }))) (before : Notes past index n) where
      abbrev done : Done
      done = stepped index (step ev n) (record w { founded = founded })

      abbrev n2 : State
      n2 = (step ev n).0

      at_then : slice_get (run settings later).nodes index ≡ Some n2
      at_then = ap (λ (x : WorldState). slice_get x.nodes index) (run-push settings empty_world past e ∙ ap (after w) did) ∙ set_here w.nodes index n n2 at

      step_noted : (view : NotedView) → n2.membership.settled.view ≡ Some view → Noted later index view.version
      step_noted view is = by_case (step_tells_note ev n runs)
        where
          -- where its tombstones wait for a tick more, it is the same view
          by_view : (v : SettledView) → n.membership.settled.view ≡ v → ticked n.membership.settings.margin v ≡ Some view → Noted later index view.version
          by_view None at none = absurd (true≢false (sym (ap is_some none)))
          by_view (Some old) at waits = subst (Noted later index) (ap version_of waits) (still_noted index old.version (before.noted old at))

          by_case : TellsNote n (step ev n) → Noted later index view.version
          by_case (inl (inl same)) = still_noted index view.version (before.noted view (ap (λ (s : SettledModel). s.view) (sym same) ∙ is))
          by_case (inl (inr waited)) = by_view n.membership.settled.view refl (ap (λ (s : SettledModel). s.view) (sym waited) ∙ is)
          by_case (inr (new, told)) = (
            length past,
            record {
              event = e;
              done = done;
              did = last_step settings past e done did;
              acted = refl;
              told = told;
              state = n2;
              at = set_here w.nodes index n n2 at;
              runs = new.runs;
              settled = ap (λ (x : SettingsModel). is_settled (settling_size x.strategy) x.role (known n2).view (known n2).seen) (sym (run_settings settings later index n2 at_then)) ∙ new.settled;
              version_is = sym new.version ∙ ap version_of is;
              noted = ap version_of is;
            },
          )

      step_note : Notes later index n2
      step_note = record { now = step_now ev n runs before.now; noted = step_noted }

    answered_note : AllNote past w → (a : Result Done Reason) → happens settings e w ≡ a → IsAnswer settings w a → AllNote later (after w a)
    answered_note all (Err why) did is = λ index n at. still index n (all index n at)
    answered_note all (Ok result) did is = elim is as (λ d h. happens settings e w ≡ Ok d → AllNote later d.world) [
      | begins u unknown free listed few ↦ λ did.
          push_at (λ j m. Notes later j m) w.nodes (started u settings) (λ j m at. still j m (all j m at))
          (record { now = λ runs settled. covers_equal (version_of (settled_of (started u settings))) (known (started u settings)).version refl; noted = λ view none. absurd (true≢false (sym (ap is_some none))) })
      | steps ev index n founded at runs was_sent ↦ λ did.
          set_at (λ j m. Notes later j m) w.nodes index (step ev n).0 (λ j m at elsewhere. still j m (all j m at)) (step_note index n ev founded at runs did (all index n at))
      | nobody ↦ λ did j m at. still j m (all j m at)
    ] did

    note_then : AllNote past w → AllNote later (run settings later)
    note_then all = subst (AllNote later) (sym (run-push settings empty_world past e)) (answered_note all (happens settings e w) refl (happened settings w e))

  note_on : (past rest : List Event) → AllNote past (run settings past) → AllNote (past ++ rest) (run settings (past ++ rest))
  note_on past [] all = subst (λ l. AllNote l (run settings l)) (sym (append-nil past)) all
  note_on past (e ∷ rest) all = subst (λ l. AllNote l (run settings l)) (append_assoc past (e ∷ []) rest) (note_on (past ++ e ∷ []) rest (note_then past e all))

  all_note : (events : List Event) → AllNote events (run settings events)
  all_note events = note_on [] events (λ index n at. absurd (cc))

-- ---- in other words
pub noted_now : (settings : SettingsModel) (events : List Event) (index : ℕ) (n : State) → slice_get (run settings events).nodes index ≡ Some n → IsTrue n.runs → HasSettled settings n → Covers (version_of (settled_of n)) (known n).version
noted_now settings events index n at runs settled =
    (all_note settings events index n at).now runs (ap (λ (x : SettingsModel). is_settled (settling_size x.strategy) x.role (known n).view (known n).seen) (run_settings settings events index n at) ∙ settled)

pub noted_here : (settings : SettingsModel) (events : List Event) (index : ℕ) (n : State) (view : NotedView) → slice_get (run settings events).nodes index ≡ Some n → n.membership.settled.view ≡ Some view → (time : ℕ) × NotesAt settings events time index view.version
noted_here settings events index n view at is = (all_note settings events index n at).noted view is
