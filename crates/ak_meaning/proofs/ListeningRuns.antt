-- The counters of each node of a run are those after what came to it.
use Rattle.std.proofs.Common.{◌≡◌, ℕ, zero, suc, ◌+◌, Bool, false, not, inl, inr, List, [], ◌∷◌, ◌++◌, take, Option, Some, None, Result, Ok, Err, slice_get, IsTrue, refl, sym, ap, ◌∙◌, subst, arith}
use Rattle.std.specs.FinMap as map
use Rattle.ak_address.specs.Unique.{UniqueModel}
use Rattle.ak_address.specs.Uniques.{has}
use Rattle.ak_detector.specs.Detector.{silent}
use Rattle.ak_node.specs.declared.node.NodeEvent.{NodeEvent}
use Rattle.ak_node.specs.declared.node.State.{State}
use Rattle.ak_node.specs.Node.{known, me_of, started, is_dead, step}
use Rattle.ak_settings.specs.Settings.{SettingsModel}
use Rattle.ak_schedule.specs.declared.event.Event.{Event}
use Rattle.ak_schedule.specs.declared.event.Event.TheVariants.{Start, Found, Join, Tick, Deliver, Offer, Stop}
use Rattle.ak_schedule.specs.declared.event.Event.TheVariants as schedule
use Rattle.ak_world.specs.World.{WorldState, Done, stepped, starts, happens, after, run}
use Rattle.ak_world.specs.declared.world.Reason.{Reason}
use Rattle.ak_world.proofs.IndexLemmas.{set_at, set_here, set_elsewhere, push_at, prefix_at}
use Rattle.ak_world.proofs.WaitedRuns.{run_settings}
use Rattle.ak_meaning.specs.Causes.{Gives}
use Rattle.ak_meaning.specs.Listening as listened
use Rattle.ak_meaning.specs.Listening.{CameTo, SilentSince, comes_with}
use Rattle.ak_meaning.specs.Ring.{Happening, Watches, heard_of, listening}
use Rattle.ak_meaning.specs.Standstill.{IsAt}
use Rattle.ak_meaning.proofs.ListeningSteps.{step_listens}
use Rattle.ak_meaning.proofs.SilenceLaws.{after_both, has_last, silent_by_ticks}
use Rattle.ak_meaning.proofs.WhatCame.{IsAnswer, starts_now, steps, nobody, came, take_end, run_next}

-- what is given to a process is for it
alive : (w : WorldState) (e : Event) (me : UniqueModel) (ev : NodeEvent) → Gives w e me ev → is_dead me ev ≡ false
alive w (Start u) me ev given = absurd given
alive w (Found u) me ev given = ap (is_dead me) given.1
alive w (Join u target) me ev given = ap (is_dead me) given.1
alive w (Deliver number) me ev given = ap (is_dead me) given.2 ∙ ap not given.3
alive w (Tick u word) me ev given = ap (is_dead me) given.1
alive w (schedule.Leave u who) me ev given = ap (is_dead me) given.1
alive w (schedule.Down u who) me ev given = ap (is_dead me) given.1
alive w (Offer u entity payload) me ev given = ap (is_dead me) given.1
alive w (Stop u) me ev given = ap (is_dead me) given.1

module _ (settings : SettingsModel) (events : List Event) where
  abbrev Heard : ℕ → ℕ → State → Type 0
  Heard time index n = (happenings : List Happening) × CameTo settings events index time happenings × (n.membership.detector ≡ heard_of (me_of n) settings.deadline happenings)

  abbrev AllHeard : ℕ → WorldState → Type 0
  AllHeard time w = (index : ℕ) (n : State) → slice_get w.nodes index ≡ Some n → Heard time index n

  next_time : (time : ℕ) → suc time ≡ time + 1
  next_time time = omega arith

  module _ (time : ℕ) where
    -- no step of the node of this number
    heard_on : (index : ℕ) (n : State) → ((m : State) → IsAt settings events time index m → IsAt settings events (suc time) index m) → Heard time index n → Heard (suc time) index n
    heard_on index n stays h = (h.0, listened.CameTo.rests time (suc time) h.0 (next_time time) h.1 stays, h.2)

    module _ (e : Event) (there : slice_get events time ≡ Some e) where
      abbrev w : WorldState
      w = run settings (take time events)

      world_then : (d : Done) → happens settings e w ≡ Ok d → run settings (take (suc time) events) ≡ d.world
      world_then d did = run_next settings events time e there ∙ ap (after w) did

      -- a step of it
      module _ (index : ℕ) (n : State) (ev : NodeEvent) (founded : Bool) (at : slice_get w.nodes index ≡ Some n) (runs : IsTrue n.runs) (gives : Gives w e (me_of n) ev)
          (did : happens settings e w ≡ Ok (stepped index (step ev n) (record w { founded = founded }))) where
        abbrev l : State
        l = (step ev n).0

        at_then : IsAt settings events (suc time) index l
        at_then = ap (λ (x : WorldState). slice_get x.nodes index) (world_then _ did) ∙ set_here w.nodes index n l at

        step_heard : Heard time index n → Heard (suc time) index l
        step_heard h =
            let s = step_listens ev n runs (alive w e (me_of n) ev gives) in
            let deadline_is : n.membership.settings.deadline ≡ settings.deadline = ap (λ (x : SettingsModel). x.deadline) (run_settings settings (take time events) index n at) in
            let more = comes_with ev n ++ Watches (known l).view.standings ∷ [] in (
              h.0 ++ more,
              listened.CameTo.steps time (suc time) h.0 e (stepped index (step ev n) (record w { founded = founded })) n l ev (next_time time) h.1 (record { at = there; happened = did }) refl at gives at_then,
              s.detector
                  ∙ (λ i. listening (me_of n) (deadline_is i) (h.2 i) more)
                  ∙ sym (after_both (me_of n) settings.deadline map.empty h.0 more)
                  ∙ ap (λ u. heard_of u settings.deadline (h.0 ++ more)) (sym s.me),
            )

      answered : AllHeard time w → (a : Result Done Reason) → happens settings e w ≡ a → IsAnswer settings w e a → AllHeard (suc time) (after w a)
      answered all (Err why) did is = λ index n at. heard_on index n (λ m at_m. ap (λ (x : WorldState). slice_get x.nodes index) (run_next settings events time e there ∙ ap (after w) did) ∙ at_m) (all index n at)
      answered all (Ok result) did is = elim is as (λ d h. happens settings e w ≡ Ok d → AllHeard (suc time) d.world) [
        | starts_now u started_is ↦ λ did.
            push_at (λ j m. Heard (suc time) j m) w.nodes (started u settings)
            (λ j m at. heard_on j m (λ k at_k. ap (λ (x : WorldState). slice_get x.nodes j) (world_then _ did) ∙ prefix_at w.nodes (started u settings ∷ []) j k at_k) (all j m at)) (
              [],
              listened.CameTo.starts time (suc time) u (starts settings u w) (next_time time) (record { at = there ∙ ap Some started_is; happened = ap (λ x. happens settings x w) (sym started_is) ∙ did }) refl,
              refl,
            )
        | steps ev i n founded at runs gives ↦ λ did.
            set_at (λ j m. Heard (suc time) j m) w.nodes i (step ev n).0
            (λ j m at_m elsewhere. heard_on j m (λ k at_k. elim (set_elsewhere w.nodes i j (step ev n).0 k at_k) [
              | inl same ↦ absurd (elsewhere same)
              | inr still ↦ ap (λ (x : WorldState). slice_get x.nodes j) (world_then _ did) ∙ still
            ]) (all j m at_m))
            (step_heard i n ev founded at runs gives did (all i n at))
        | nobody ↦ λ did j m at. heard_on j m (λ k at_k. ap (λ (x : WorldState). slice_get x.nodes j) (world_then _ did) ∙ at_k) (all j m at)
      ] did

  pub all_heard : (time : ℕ) → AllHeard time (run settings (take time events))
  all_heard zero = λ index n at. absurd cc
  all_heard (suc time) = by_event (slice_get events time) refl (all_heard time)
    where
      by_event : (o : Option Event) → slice_get events time ≡ o → AllHeard time (run settings (take time events)) → AllHeard (suc time) (run settings (take (suc time) events))
      by_event (Some e) there all = subst (AllHeard (suc time)) (sym (run_next settings events time e there)) (answered time e there all (happens settings e (run settings (take time events))) refl (came settings (run settings (take time events)) e))
      by_event None there all =
          let same : run settings (take (suc time) events) ≡ run settings (take time events) = ap (run settings) (take_end time events there) in
          λ index n at.
          heard_on time index n (λ m at_m. ap (λ (x : WorldState). slice_get x.nodes index) same ∙ at_m) (all index n (ap (λ (x : WorldState). slice_get x.nodes index) (sym same) ∙ at))

-- ---- who is silent
pub silent_since : (settings : SettingsModel) (events : List Event) (time index : ℕ) (n : State) (who : UniqueModel) → IsAt settings events time index n → IsTrue (map.contains_key n.membership.detector who) → SilentSince settings events time index n who
silent_since settings events time index n who at watched =
    let me = me_of n in
    let h = all_heard settings events time index n at in
    let l = has_last me settings.deadline who h.0 (sym (ap (λ c. map.contains_key c who) h.2) ∙ watched) in
    let means = silent_by_ticks me settings.deadline who l.before l.since l.happening l.last in
    let same : has (silent settings.deadline n.membership.detector) who ≡ has (silent settings.deadline (heard_of me settings.deadline (l.before ++ l.happening ∷ l.since))) who =
    ap (λ c. has (silent settings.deadline c) who) (h.2 ∙ ap (heard_of me settings.deadline) l.parts) in
    record {
      before = l.before;
      happening = l.happening;
      since = l.since;
      came = subst (CameTo settings events index time) l.parts h.1;
      last = l.last;
      counted = (λ is. means.0 (sym same ∙ is), λ more. same ∙ means.1 more);
    }
