-- Each entry of a run was written at a step of its author, and each effect of it for a cause; and whoever downs somebody at a tick
-- has stood still.
use Rattle.std.proofs.Common.{◌≡◌, ℕ, suc, ◌+◌, ◌⊎◌, inl, inr, List, [], ◌∷◌, take, Option, Some, None, Result, Ok, Err, slice_get, Contains, refl, sym, ap, ◌∙◌, subst, arith}
use Rattle.ak_address.specs.Unique.{UniqueModel}
use Rattle.ak_address.proofs.Elements.{contains_rest, first_or_rest}
use Rattle.ak_history.specs.declared.entry.Entry.{Entry}
use Rattle.ak_member.specs.declared.effect.Effect.{Effect}
use Rattle.ak_node.specs.Node.{me_of, step}
use Rattle.ak_node.proofs.StepChanges.{step_changes}
use Rattle.ak_settings.specs.Settings.{SettingsModel}
use Rattle.ak_schedule.specs.declared.event.Event.{Event}
use Rattle.ak_wire.specs.Wire.{updates_of}
use Rattle.ak_world.specs.Held.{Enters}
use Rattle.ak_world.specs.World.{WorldState, Done, stepped, happens, after, run}
use Rattle.ak_world.specs.declared.world.Reason.{Reason}
use Rattle.ak_world.proofs.FoldLemmas.{after_updates, from_updates}
use Rattle.ak_world.proofs.MadeFrom.{each_made}
use Rattle.ak_meaning.specs.Causes.{IsCaused}
use Rattle.ak_meaning.proofs.CauseSteps.{told_why}
use Rattle.ak_meaning.proofs.MembershipOf.{step_told}
use Rattle.ak_meaning.proofs.WhatCame.{IsAnswer, starts_now, steps, nobody, came, take_end, run_next}

-- an entry of the history after updates is an old one, or is the author's and has the effects of one
old_or_new : (author : UniqueModel) (updates : List (List Effect)) (history : List Entry) (entry : Entry) → Contains (after_updates author updates history) entry
    → Contains history entry ⊎ ((entry.author ≡ author) × Contains updates entry.effects)
old_or_new author [] history entry there = inl there
old_or_new author (effects ∷ updates) history entry there = elim (old_or_new author updates (record { author = author; number = _; effects = effects } ∷ history) entry there) [
  | inl old ↦ elim (first_or_rest _ entry history old) [
    | inl new ↦ inr (ap (λ (x : Entry). x.author) new, (0, omega arith, sym (ap (λ (x : Entry). x.effects) new)))
    | inr older ↦ inl older
  ]
  | inr new ↦ inr (new.0, contains_rest effects entry.effects updates new.1)
]

module _ (settings : SettingsModel) (events : List Event) (entry : Entry) (time : ℕ) (enters : Enters (run settings (take time events)).history (run settings (take (time + 1) events)).history entry) where
  abbrev w : WorldState
  w = run settings (take time events)

  there_next : Contains (run settings (take (suc time) events)).history entry
  there_next = let next : time + 1 ≡ suc time = omega arith in subst (λ t. Contains (run settings (take t events)).history entry) next enters.there

  by_answer : (e : Event) → slice_get events time ≡ Some e → (a : Result Done Reason) → happens settings e w ≡ a → IsAnswer settings w e a → Contains (after w a).history entry → (effect : Effect) → Contains entry.effects effect → IsCaused settings events entry effect
  by_answer e at (Err why) did is there effect inside = absurd (enters.new there)
  by_answer e at (Ok result) did is there effect inside = elim is as (λ d h. happens settings e w ≡ Ok d → Contains d.world.history entry → IsCaused settings events entry effect) [
    | starts_now u started_is ↦ λ did there. absurd (enters.new there)
    | steps ev index n founded at_n runs gives ↦ λ did there.
        let c = step_changes ev n runs in
        let new = elim (old_or_new (me_of (step ev n).0) (updates_of (step ev n).1) w.history entry (subst (λ l. Contains l entry) (from_updates (me_of (step ev n).0) (step ev n).1 w.history) there)) as (λ z. (entry.author ≡ me_of (step ev n).0) × Contains (updates_of (step ev n).1) entry.effects) [
          | inl old ↦ absurd (enters.new old)
          | inr new ↦ new
        ] in
        record {
          time = time;
          event = e;
          done = stepped index (step ev n) (record w { founded = founded });
          did = record { at = at; happened = did };
          index = index;
          acted = refl;
          node = n;
          at = at_n;
          runs = runs;
          author = new.0 ∙ c.same_me;
          enters = enters;
          given = ev;
          gives = gives;
          cause = told_why n ev entry.effects effect (step_told ev n runs entry.effects new.1) inside;
        }
    | nobody ↦ λ did there. absurd (enters.new there)
  ] did there

  caused : (effect : Effect) → Contains entry.effects effect → IsCaused settings events entry effect
  caused = by_event (slice_get events time) refl
    where
      by_event : (o : Option Event) → slice_get events time ≡ o → (effect : Effect) → Contains entry.effects effect → IsCaused settings events entry effect
      by_event (Some e) at = by_answer e at (happens settings e w) refl (came settings w e) (subst (λ (x : WorldState). Contains x.history entry) (run_next settings events time e at) there_next)
      by_event None at = absurd (enters.new (subst (λ l. Contains (run settings l).history entry) (take_end time events at) there_next))

pub each_caused : (settings : SettingsModel) (events : List Event) (entry : Entry) → Contains (run settings events).history entry → (effect : Effect) → Contains entry.effects effect → IsCaused settings events entry effect
each_caused settings events entry there effect inside = let made = each_made settings events entry there in caused settings events entry made.1.time made.1.enters effect inside
