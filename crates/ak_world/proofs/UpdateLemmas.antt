-- Each update of an accepted event has put its entry into the history, under the number that the update tells.
use Rattle.std.proofs.Common.{◌≡◌, ℕ, ◌+◌, Bool, inl, inr, List, [], ◌∷◌, Option, Some, Ok, slice_get, Contains, IsTrue, sym, ap, ◌∙◌, subst, arith}
use Rattle.std.specs.Prelude.{IsSomeAnd}
use Rattle.ak_address.specs.Unique.{UniqueModel}
use Rattle.ak_address.proofs.Elements.{first_or_rest, contains_nothing, contains_first}
use Rattle.ak_member.specs.declared.effect.Effect.{Effect}
use Rattle.ak_history.specs.declared.entry.Entry.{Entry}
use Rattle.ak_history.specs.History.{entries_of}
use Rattle.ak_history.proofs.HistoryLemmas.{number_range}
use Rattle.ak_settings.specs.Settings.{SettingsModel}
use Rattle.ak_schedule.specs.declared.event.Event.{Event}
use Rattle.ak_wire.specs.declared.action.Action.TheVariants.{Update}
use Rattle.ak_node.specs.declared.node.State.{State}
use Rattle.ak_node.specs.declared.node.NodeEvent.{NodeEvent}
use Rattle.ak_node.specs.Node.{me_of, Outcome, step}
use Rattle.ak_membership.specs.Knowledge.{Knowledge, Keeps, Updates, Accepts, made_by}
use Rattle.ak_node.proofs.ChangeLemmas.{update_made}
use Rattle.ak_node.proofs.StepChanges.{step_changes}
use Rattle.ak_world.specs.World.{WorldState, Done, recorded, stepped, happens, run}
use Rattle.ak_world.specs.StepText.{acting}
use Rattle.ak_world.specs.Held.{Enters}
use Rattle.ak_world.proofs.IndexLemmas.{set_here}
use Rattle.ak_world.proofs.FoldLemmas.{after_updates, from_updates}
use Rattle.ak_world.proofs.FoldRuns.{IsSound, run_sound}
use Rattle.ak_world.proofs.WhatHappened.{begins, steps, nobody, IsAnswer, happened}

-- the acting node's entry
abbrev pub IsEntered : WorldState → Done → ℕ → List Effect → Type 0
IsEntered w done number effects = IsSomeAnd (acting done) (λ n. Enters w.history done.world.history (record { author = me_of n; number = number; effects = effects }))

-- the entry of the next number is not there yet
next_is_new : (w : WorldState) → IsSound w → (e : Entry) → e.number ≡ entries_of e.author w.history + 1 → Contains w.history e → ⊥
next_is_new w s e next there = let range = number_range w.history e s.is_numbered there in let most = range.most in omega arith

-- a change that has an update makes it the newest entry
newest : (author : UniqueModel) (number : ℕ) (effects : List Effect) (history : List Entry) (c : Knowledge) → number ≡ entries_of author history + 1 → Contains (made_by c) effects
    → Contains (after_updates author (made_by c) history) (record { author = author; number = number; effects = effects })
newest author number effects history Keeps is there = absurd (contains_nothing effects there)
newest author number effects history (Accepts g) is there = absurd (contains_nothing effects there)
newest author number effects history (Updates written) is there = elim (first_or_rest written effects [] there) [
  | inl same ↦ subst (λ (e : Entry). Contains (record { author = author; number = entries_of author history + 1; effects = written } ∷ history) e) (λ i. record { author = author; number = sym is i; effects = sym same i }) (contains_first _ history)
  | inr none ↦ absurd (contains_nothing effects none)
]

module _ (w : WorldState) (s : IsSound w) (e : NodeEvent) (index : ℕ) (n : State) (founded : Bool) (at : slice_get w.nodes index ≡ Some n) (runs : IsTrue n.runs) where
  step_entered : (number : ℕ) (effects : List Effect) → Contains (step e n).1 (Update number effects) → IsEntered w (stepped index (step e n) (record w { founded = founded })) number effects
  step_entered number effects there =
      let o : Outcome = step e n in
      let c = step_changes e n runs in
      let entry : Entry = record { author = me_of n; number = number; effects = effects } in
      let next : number ≡ entries_of (me_of n) w.history + 1 = c.numbered number effects there ∙ ap (λ k. k + 1) (s.each index n at).own in
      let history_is : recorded (me_of o.0) o.1 w.history ≡ after_updates (me_of n) (made_by c.knowledge) w.history =
      ap (λ u. recorded u o.1 w.history) c.same_me ∙ from_updates (me_of n) o.1 w.history ∙ ap (λ l. after_updates (me_of n) l w.history) c.made in
      let made : Contains (made_by c.knowledge) effects = subst (λ l. Contains l effects) c.made (update_made o.1 number effects there) in
      let enters : Enters w.history (recorded (me_of o.0) o.1 w.history) entry = record {
        new = next_is_new w s entry next;
        there = subst (λ h. Contains h entry) (sym history_is) (newest (me_of n) number effects w.history c.knowledge next made);
      } in
      let here : Enters w.history (recorded (me_of o.0) o.1 w.history) (record { author = me_of o.0; number = number; effects = effects }) =
      subst (λ u. Enters w.history (recorded (me_of o.0) o.1 w.history) (record { author = u; number = number; effects = effects })) (sym c.same_me) enters in
      subst (λ (a : Option State). IsSomeAnd a (λ m. Enters w.history (recorded (me_of o.0) o.1 w.history) (record { author = me_of m; number = number; effects = effects }))) (sym (set_here w.nodes index n o.0 at)) here

pub updates_entered : (settings : SettingsModel) (events : List Event) (event : Event) (done : Done) → happens settings event (run settings events) ≡ Ok done
    → (number : ℕ) (effects : List Effect) → Contains done.actions (Update number effects) → IsEntered (run settings events) done number effects
updates_entered settings events event done is number effects =
    let w : WorldState = run settings events in
    let h : IsAnswer settings w (Ok done) = subst (IsAnswer settings w) is (happened settings w event) in
    elim h as (λ d k. Contains d.actions (Update number effects) → IsEntered w d number effects) [
      | begins u unknown free listed few ↦ λ there. absurd (contains_nothing _ there)
      | steps e index n founded at runs was_sent ↦ step_entered w (run_sound settings events) e index n founded at runs number effects
      | nobody ↦ λ there. absurd (contains_nothing _ there)
    ]
