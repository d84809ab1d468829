-- While the margin is kept, whoever is finished by the settled view of a node has stopped: its tombstone is confirmed there, or
-- the node told the end of its margin, and it had been told before.
use Rattle.std.proofs.Common.{◌≡◌, ℕ, ◌≤◌, Bool, true, false, inl, inr, List, [], ◌∷◌, ◌++◌, length, take, Some, None, Ok, is_some, slice_get, IsTrue, append-nil, append_assoc, refl, sym, ap, ◌∙◌, subst, arith, true≢false}
use Rattle.std.proofs.lemmas.Option.{slice_get_within}
use Rattle.std.specs.FinMap as map
use Rattle.ak_address.specs.Unique.{UniqueModel}
use Rattle.ak_address.proofs.Elements.{index_of}
use Rattle.ak_address.proofs.TableLaws.{get-empty}
use Rattle.ak_member.specs.Standing.{tombstone_of}
use Rattle.ak_settings.specs.Settings.{SettingsModel}
use Rattle.ak_schedule.specs.declared.event.Event.{Event}
use Rattle.ak_settled.specs.Settled.{is_finished, ticked, standings_of}
use Rattle.ak_settled.specs.SettledView.{SettledView}
use Rattle.ak_settled.proofs.SettledLaws.{ticked_finished}
use Rattle.ak_wire.specs.declared.action.Action.TheVariants.{MarginEnd}
use Rattle.ak_node.specs.declared.node.State.{State}
use Rattle.ak_node.specs.declared.node.NodeEvent.{NodeEvent}
use Rattle.ak_node.specs.declared.node.NodeEvent.TheVariants as event
use Rattle.ak_node.specs.Node.{settled_of, margin_of, is_member, step}
use Rattle.ak_world.specs.declared.margin.Margin.TheVariants.{Kept}
use Rattle.ak_world.specs.World.{stepped, happens, run}
use Rattle.ak_world.specs.InRun.{HasStopped, WasStarted, as_settled, buried}
use Rattle.ak_world.specs.Margin.{IsMargin}
use Rattle.ak_world.specs.Noting.{TellsMarginEnd}
use Rattle.ak_world.specs.Singletons.{FinishedHaveStopped}
use Rattle.ak_world.proofs.InRunLemmas.{confirmed_stopped}
use Rattle.ak_world.proofs.MarginRuns.{is_other, last_step, runs_untold, take_whole, untold_later}
use Rattle.ak_world.proofs.Processes.{processes}
use Rattle.ak_world.proofs.SeenHeld.{no_more, take_first}
use Rattle.ak_world.proofs.Told.{later_stopped, what_happened}
use Rattle.ak_world.proofs.WaitedRuns.{finished_by, tick_ends}

-- a margin that is kept was kept before
pub kept_before : (settings : SettingsModel) (first more : List Event) → IsMargin settings (first ++ more) Kept → IsMargin settings first Kept
kept_before settings first [] kept = subst (λ l. IsMargin settings l Kept) (append-nil first) kept
kept_before settings first (e ∷ more) kept = λ time place node who u.
    kept_before settings (first ++ e ∷ []) more (subst (λ l. IsMargin settings l Kept) (sym (append_assoc first (e ∷ []) more)) kept) time place node who
    (untold_later settings first e time place node who u)

module _ (settings : SettingsModel) (events : List Event) (kept : IsMargin settings events Kept) where
  take_all : take (length events) events ≡ events
  take_all = ap (take (length events)) (sym (no_more events)) ∙ take_first events []

  -- whose margin a node told to have ended had stopped before
  ended_stopped : (time index : ℕ) (q : UniqueModel) → TellsMarginEnd settings events time index q → HasStopped (run settings (take time events)).nodes q
  ended_stopped time index q t = by_runs s.node.runs refl
    where
      place : (i : ℕ) × (slice_get t.done.actions i ≡ Some (MarginEnd q))
      place = index_of t.done.actions (MarginEnd q) t.told

      s : WasStarted settings (run settings (take time events)).nodes q
      s = (is_other settings (take time events) t.done place.0 q (what_happened settings events time t.event t.done t.did) place.1).was_started

      by_runs : (b : Bool) → s.node.runs ≡ b → HasStopped (run settings (take time events)).nodes q
      by_runs false is = record { index = s.index; node = s.node; at = s.at; is_who = s.is_who; stopped = is }
      by_runs true is =
          absurd (kept time place.0 index q (runs_untold settings events time place.0 q index t.event t.done t.did t.acted place.1 (record { index = s.index; node = s.node; at = s.at; is_who = s.is_who; runs = is })))

  pub all_rest : 1 ≤ settings.margin → FinishedHaveStopped settings events
  all_rest least index n at q over = elim (finished_by settings events least index n at q over) [
    | inl confirmed ↦ by_view (settled_of n) refl confirmed
    | inr ended ↦
        let t = ended.1 in
        subst (λ l. HasStopped (run settings l).nodes q) take_all (later_stopped settings events ended.0 (length events) q (let lt = slice_get_within events ended.0 t.event t.did.at in omega arith) (ended_stopped ended.0 index q t))
  ]
    where
      by_view : (v : SettledView) → settled_of n ≡ v → tombstone_of (map.get (standings_of v) q) ≡ Some true → HasStopped (run settings events).nodes q
      by_view None is confirmed = absurd (true≢false (sym (ap is_some confirmed) ∙ ap (λ o. is_some (tombstone_of o)) (get-empty q)))
      by_view (Some noted) is confirmed = confirmed_stopped settings events q (buried noted.standings (as_settled index n noted at is) confirmed)

-- in the middle of a tick, after its wait
module _ (settings : SettingsModel) (past : List Event) (e : Event) (kept : IsMargin settings (past ++ e ∷ []) Kept) (least : 1 ≤ settings.margin) (index : ℕ) (n : State) (ev : NodeEvent) (founded : Bool)
    (at : slice_get (run settings past).nodes index ≡ Some n) (runs : IsTrue n.runs) (did : happens settings e (run settings past) ≡ Ok (stepped index (step ev n) (record (run settings past) { founded = founded }))) where
  pub ticked_rests : (word : ℕ) → ev ≡ event.Tick word → is_member n ≡ true → (q : UniqueModel) → IsTrue (is_finished (margin_of n) (ticked (margin_of n) (settled_of n)) q) → HasStopped (run settings past).nodes q
  ticked_rests word is member q over = elim ((ticked_finished (margin_of n) (settled_of n) q ((processes settings past).sane index n at).is_node.counting).0 over) [
    | inl old ↦ all_rest settings past (kept_before settings past (e ∷ []) kept) least index n at q old
    | inr ends ↦
        subst (λ l. HasStopped (run settings l).nodes q) (take_whole past e)
        (ended_stopped settings (past ++ e ∷ []) kept (length past) index q (record { event = e; done = _; did = last_step settings past e _ did; acted = refl; told = tick_ends n ev runs word is member q ends }))
  ]
