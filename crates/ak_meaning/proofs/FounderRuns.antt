-- Whoever is the founder was given the event to found the cluster.
use Rattle.std.proofs.Common.{◌≡◌, ℕ, zero, suc, Bool, inl, inr, List, take, Option, Some, None, Result, Ok, Err, slice_get, IsTrue, refl, sym, ap, ◌∙◌, subst, arith, true≢false}
use Rattle.ak_address.specs.Unique.{UniqueModel}
use Rattle.ak_node.specs.declared.node.NodeEvent.{NodeEvent}
use Rattle.ak_node.specs.declared.node.State.{State}
use Rattle.ak_node.specs.Change.{given_by}
use Rattle.ak_node.specs.Node.{me_of, started, step}
use Rattle.ak_node.proofs.StepChanges.{step_changes}
use Rattle.ak_settings.specs.Settings.{SettingsModel}
use Rattle.ak_schedule.specs.declared.event.Event.{Event}
use Rattle.ak_schedule.specs.declared.event.Event.TheVariants.{Start, Found, Join, Tick, Deliver, Offer, Stop}
use Rattle.ak_schedule.specs.declared.event.Event.TheVariants as schedule
use Rattle.ak_world.specs.World.{WorldState, Done, stepped, happens, after, run}
use Rattle.ak_world.specs.declared.world.Reason.{Reason}
use Rattle.ak_world.proofs.IndexLemmas.{set_at, push_at}
use Rattle.ak_meaning.specs.Causes.{Gives, WasToldToFound}
use Rattle.ak_meaning.specs.Standstill.{IsAt}
use Rattle.ak_meaning.proofs.WhatCame.{IsAnswer, starts_now, steps, nobody, came, take_end, run_next}

-- an event that founds is the one to found
founding : (w : WorldState) (e : Event) (me : UniqueModel) (ev : NodeEvent) → Gives w e me ev → IsTrue (given_by ev).founds → (u : UniqueModel) × (e ≡ Found u)
founding w (Start u) me ev given is = absurd given
founding w (Found u) me ev given is = (u, refl)
founding w (Join u target) me ev given is = absurd (true≢false (sym is ∙ ap (λ x. (given_by x).founds) given.1))
founding w (Deliver number) me ev given is = absurd (true≢false (sym is ∙ ap (λ x. (given_by x).founds) given.2))
founding w (Tick u word) me ev given is = absurd (true≢false (sym is ∙ ap (λ x. (given_by x).founds) given.1))
founding w (schedule.Leave u who) me ev given is = absurd (true≢false (sym is ∙ ap (λ x. (given_by x).founds) given.1))
founding w (schedule.Down u who) me ev given is = absurd (true≢false (sym is ∙ ap (λ x. (given_by x).founds) given.1))
founding w (Offer u entity payload) me ev given is = absurd (true≢false (sym is ∙ ap (λ x. (given_by x).founds) given.1))
founding w (Stop u) me ev given is = absurd (true≢false (sym is ∙ ap (λ x. (given_by x).founds) given.1))

module _ (settings : SettingsModel) (events : List Event) where
  abbrev Told : ℕ → ℕ → State → Type 0
  Told time index n = IsTrue n.membership.founder → WasToldToFound settings events index time

  abbrev AllTold : ℕ → WorldState → Type 0
  AllTold time w = (index : ℕ) (n : State) → slice_get w.nodes index ≡ Some n → Told time index n

  told_on : (time index : ℕ) (n : State) → Told time index n → Told (suc time) index n
  told_on time index n told is =
      let t = told is in
      record { earlier = t.earlier; before = (let lt = t.before in omega arith); who = t.who; done = t.done; did = t.did; acted = t.acted }

  module _ (time : ℕ) (e : Event) (there : slice_get events time ≡ Some e) where
    abbrev w : WorldState
    w = run settings (take time events)

    step_told : (index : ℕ) (n : State) (ev : NodeEvent) (founded : Bool) → IsTrue n.runs → Gives w e (me_of n) ev → happens settings e w ≡ Ok (stepped index (step ev n) (record w { founded = founded })) → Told time index n → Told (suc time) index (step ev n).0
    step_told index n ev founded runs gives did told is = elim ((step_changes ev n runs).founder is) [
      | inl before ↦ told_on time index n told before
      | inr now ↦
          let f = founding w e (me_of n) ev gives now in
          record {
            earlier = time;
            before = omega arith;
            who = f.0;
            done = stepped index (step ev n) (record w { founded = founded });
            did = record { at = there ∙ ap Some f.1; happened = ap (λ x. happens settings x w) (sym f.1) ∙ did };
            acted = refl;
          }
    ]

    answered : AllTold time w → (a : Result Done Reason) → happens settings e w ≡ a → IsAnswer settings w e a → AllTold (suc time) (after w a)
    answered all (Err why) did is = λ index n at. told_on time index n (all index n at)
    answered all (Ok result) did is = elim is as (λ d h. happens settings e w ≡ Ok d → AllTold (suc time) d.world) [
      | starts_now u started_is ↦ λ did. push_at (λ j m. Told (suc time) j m) w.nodes (started u settings) (λ j m at. told_on time j m (all j m at)) (λ none. absurd (true≢false (sym none)))
      | steps ev i n founded at runs gives ↦ λ did. set_at (λ j m. Told (suc time) j m) w.nodes i (step ev n).0 (λ j m at_m elsewhere. told_on time j m (all j m at_m)) (step_told i n ev founded runs gives did (all i n at))
      | nobody ↦ λ did j m at. told_on time j m (all j m at)
    ] did

  pub founders_told : (time : ℕ) → AllTold time (run settings (take time events))
  founders_told zero = λ index n at. absurd cc
  founders_told (suc time) = by_event (slice_get events time) refl (founders_told time)
    where
      by_event : (o : Option Event) → slice_get events time ≡ o → AllTold time (run settings (take time events)) → AllTold (suc time) (run settings (take (suc time) events))
      by_event (Some e) there all = subst (AllTold (suc time)) (sym (run_next settings events time e there)) (answered time e there all (happens settings e (run settings (take time events))) refl (came settings (run settings (take time events)) e))
      by_event None there all =
          let same : run settings (take (suc time) events) ≡ run settings (take time events) = ap (run settings) (take_end time events there) in
          λ index n at. told_on time index n (all index n (ap (λ (x : WorldState). slice_get x.nodes index) (sym same) ∙ at))

pub founder_was_told : (settings : SettingsModel) (events : List Event) (time index : ℕ) (n : State) → IsAt settings events time index n → IsTrue n.membership.founder → WasToldToFound settings events index time
founder_was_told settings events time index n at is = founders_told settings events time index n at is
