-- An entity that a running node keeps active was active there, by what the node told; so where an entity starts it was active at
-- just those other nodes that keep it.
use Rattle.std.proofs.Common.{◌≡◌, ◌≢◌, ◌⊎◌, inl, inr, ℕ, zero, suc, ◌+◌, ◌<◌, ◌≤◌, List, [], ◌∷◌, ◌++◌, take, Some, None, is_some, Result, Ok, Err, slice_get, IsTrue, refl, sym, ap, ◌∙◌, subst, arith, true≢false}
use Rattle.std.proofs.lemmas.Option.{same_Some}
use Rattle.ak_address.specs.Unique.{UniqueModel}
use Rattle.ak_settings.specs.Settings.{SettingsModel, division_of, shard_by}
use Rattle.ak_schedule.specs.declared.event.Event.{Event}
use Rattle.ak_shard_id.specs.Division.{shard_in}
use Rattle.ak_sharding.specs.Alive.{IsActive}
use Rattle.ak_sharding.proofs.AliveByActions.{EndsAt, IsAlive, nothing_ends}
use Rattle.ak_sharding.proofs.NewEntities.{new_inactive}
use Rattle.ak_wire.specs.declared.action.Action.{Action}
use Rattle.ak_wire.specs.declared.action.Action.TheVariants as action
use Rattle.ak_node.specs.declared.node.State.{State}
use Rattle.ak_node.specs.Node.{started, step}
use Rattle.ak_node.proofs.StepHosts.{IsWell}
use Rattle.ak_node.proofs.StepTold.{step_told}
use Rattle.ak_world.specs.declared.world.Reason.{Reason}
use Rattle.ak_world.specs.Double.{Acts, Starts, Ends, IsBefore, WasActive, IsDoubled}
use Rattle.ak_world.specs.DoubleMark.{Keeps}
use Rattle.ak_world.specs.Margin.{IsStep}
use Rattle.ak_world.specs.World.{WorldState, Done, empty_world, happens, after, run}
use Rattle.ak_world.proofs.DoubleRuns.{IsKept, take_next, one_done, acts_alone, doubled_kept}
use Rattle.ak_world.proofs.IndexLemmas.{set_at, push_at}
use Rattle.ak_world.proofs.OneHomeRuns.{all_well}
use Rattle.ak_world.proofs.Told.{world_then, what_happened}
use Rattle.ak_world.proofs.WhatHappened.{begins, steps, nobody, Happened}
use Rattle.ak_world.proofs.WorldLemmas.{run-push}

pub before_or_last : (a b : ℕ) → a < suc b → (a < b) ⊎ (a ≡ b)
before_or_last zero zero lt = inr refl
before_or_last zero (suc b) lt = inl (omega arith)
before_or_last (suc a) zero lt = absurd (omega (arith, lt))
before_or_last (suc a) (suc b) lt = elim (before_or_last a b (omega (arith, lt))) [ inl less ↦ inl (omega (arith, less)) | inr same ↦ inr (ap suc same) ]

module _ (settings : SettingsModel) (events : List Event) (i : ℕ) (x : List ℕ) where
  abbrev at_time : ℕ → WorldState
  at_time time = run settings (take time events)

  abbrev Kept : WorldState → Type 0
  Kept w = IsKept settings events i x w

  abbrev shard : ℕ
  shard = shard_by settings x

  -- ---- one step
  -- from this place of a step on the entity does not end at the node
  abbrev GoesIn : Done → ℕ → Type 0
  GoesIn d from = (place : ℕ) → from ≤ place → d.node ≡ Some i → EndsAt shard d.actions place → ⊥

  -- it starts there, and does not end after that
  record StartsIn (d : Done) : Type 0 where
    place : ℕ
    acted : d.node ≡ Some i
    at : slice_get d.actions place ≡ Some (action.Entity x)
    goes_on : GoesIn d (suc place)

  -- whoever is kept after a step was kept before it, or starts in it
  abbrev WasKept : WorldState → Done → Type 0
  WasKept w d = (Kept w × GoesIn d 0) ⊎ StartsIn d

  nothing_in : (place : ℕ) → EndsAt shard [] place → ⊥
  nothing_in place ends = nothing_ends shard place (omega arith) ends

  -- a node that starts keeps none
  begun_back : (w : WorldState) (u : UniqueModel) (n : State) → slice_get (w.nodes ++ started u settings ∷ []) i ≡ Some n → IsActive n.sharding x → slice_get w.nodes i ≡ Some n
  begun_back w u n at active =
      push_at (λ j (m : State). IsActive m.sharding x → slice_get w.nodes j ≡ Some m) w.nodes (started u settings) (λ j m is here. is) (λ here. absurd (new_inactive settings x here)) i n at active

  alive_back : (w : WorldState) (index : ℕ) (n : State) (d : Done) → slice_get w.nodes index ≡ Some n → IsTrue n.runs → i ≡ index → d.node ≡ Some index → IsAlive (division_of settings) (IsActive n.sharding) d.actions x → WasKept w d
  alive_back w index n d at runs here acted (inl was) = inl ((n, ap (slice_get w.nodes) here ∙ at, runs, was.0), λ place le by ends. was.1 place le ends)
  alive_back w index n d at runs here acted (inr s) = inr (record { place = s.place; acted = acted ∙ ap (λ (j : ℕ). Some j) (sym here); at = s.at; goes_on = λ place le by ends. s.goes_on place le ends })

  kept_back : (w : WorldState) → ((index : ℕ) (n : State) → slice_get w.nodes index ≡ Some n → IsWell (division_of settings) n) → (done : Done) → Happened settings w done → Kept done.world → WasKept w done
  kept_back w all done h k = elim h as (λ d _. Kept d.world → WasKept w d) [
    | begins u unknown free listed few ↦ λ k. inl ((k.0, begun_back w u k.0 k.1 k.3, k.2, k.3), λ place le acted ends. nothing_in place ends)
    | steps e index n founded at runs was_sent ↦ λ k.
        elim (set_at (λ j (m : State). ((j ≡ index) × (m ≡ (step e n).0)) ⊎ ((j ≢ index) × (slice_get w.nodes j ≡ Some m))) w.nodes index (step e n).0 (λ j m is apart. inr (apart, is)) (inl (refl, refl)) i k.0 k.1) [
          | inl here ↦
              let well = all index n at in
              let told = step_told x e n runs well.0 (subst (λ (m : State). IsTrue m.runs) here.1 k.2) (subst (λ (m : State). IsActive m.sharding x) here.1 k.3) in
              alive_back w index n _ at runs here.0 refl (subst (λ division. IsAlive division (IsActive n.sharding) (step e n).1 x) well.1 told)
          | inr there ↦ inl ((k.0, there.1, k.2, k.3), λ place le acted ends. there.0 (same_Some i index (sym acted)))
        ]
    | nobody ↦ λ k. inl (k, λ place le acted ends. nothing_in place ends)
  ] k

  -- ---- one step after another
  -- what ends in a step does so by what is done in it
  ends_in : (time : ℕ) (e : Event) (done : Done) → IsStep settings events time e done → (place : ℕ) → Ends settings events time place i x → (done.node ≡ Some i) × EndsAt shard done.actions place
  ends_in time e done s place (inl a) =
      let same : a.done ≡ done = one_done settings events time a.event e a.done done a.did s in
      (ap (λ (d : Done). d.node) (sym same) ∙ a.acted, inl (ap (λ (d : Done). slice_get d.actions place) (sym same) ∙ a.at))
  ends_in time e done s place (inr a) =
      let same : a.done ≡ done = one_done settings events time a.event e a.done done a.did s in
      (ap (λ (d : Done). d.node) (sym same) ∙ a.acted, inr (ap (λ (d : Done). slice_get d.actions place) (sym same) ∙ a.at))

  abbrev Active : ℕ → Type 0
  Active time = WasActive settings events time 0 i x

  later_active : (time : ℕ) → Active time → ((place : ℕ) → Ends settings events time place i x → ⊥) → Active (suc time)
  later_active time a goes = record {
    start = a.start;
    start_place = a.start_place;
    starts = a.starts;
    before = inl (earlier a.before);
    still = λ end end_place since before ends. by_end end end_place since (before_or_last end time (earlier_than before)) ends;
  }
    where
      earlier : IsBefore a.start a.start_place time 0 → a.start < suc time
      earlier (inl lt) = omega (arith, lt)
      earlier (inr same) = let lt = same.1 in absurd (omega (arith, lt))

      earlier_than : {end end_place : ℕ} → IsBefore end end_place (suc time) 0 → end < suc time
      earlier_than (inl lt) = lt
      earlier_than (inr same) = let lt = same.1 in absurd (omega (arith, lt))

      by_end : (end end_place : ℕ) → IsBefore a.start a.start_place end end_place → (end < time) ⊎ (end ≡ time) → Ends settings events end end_place i x → ⊥
      by_end end end_place since (inl less) ends = a.still end end_place since (inl less) ends
      by_end end end_place since (inr same) ends = goes end_place (subst (λ t. Ends settings events t end_place i x) same ends)

  -- it starts in the step
  now_active : (time : ℕ) (e : Event) (done : Done) → IsStep settings events time e done → StartsIn done → Active (suc time)
  now_active time e done s starts = record {
    start = time;
    start_place = starts.place;
    starts = record { event = e; done = done; did = s; acted = starts.acted; at = starts.at };
    before = inl (omega arith);
    still = by_end;
  }
    where
      by_end : (end end_place : ℕ) → IsBefore time starts.place end end_place → IsBefore end end_place (suc time) 0 → Ends settings events end end_place i x → ⊥
      by_end end end_place (inl after) (inl before) ends = omega (arith, after, before)
      by_end end end_place after (inr same) ends = let lt = same.1 in omega (arith, lt)
      by_end end end_place (inr after) (inl before) ends =
          let there = ends_in time e done s end_place (subst (λ t. Ends settings events t end_place i x) (sym after.0) ends) in
          let lt = after.1 in
          starts.goes_on end_place (omega (arith, lt)) there.0 there.1

  next_active : (time : ℕ) → (Kept (at_time time) → Active time) → Kept (at_time (suc time)) → Active (suc time)
  next_active time before k = elim (take_next time events) [
    | inl none ↦ later_active time (before (subst (λ l. Kept (run settings l)) none.1 k)) (λ place ends. no_step none.0 place ends)
    | inr more ↦ by_answer more.0 more.1 (ap (run settings) more.2 ∙ run-push settings empty_world (take time events) more.0) (happens settings more.0 (at_time time)) refl
  ]
    where
      no_step : slice_get events time ≡ None → (place : ℕ) → Ends settings events time place i x → ⊥
      no_step none place (inl a) = true≢false (sym (ap is_some a.did.at) ∙ ap is_some none)
      no_step none place (inr a) = true≢false (sym (ap is_some a.did.at) ∙ ap is_some none)

      by_answer : (e : Event) → slice_get events time ≡ Some e → at_time (suc time) ≡ after (at_time time) (happens settings e (at_time time)) → (r : Result Done Reason) → happens settings e (at_time time) ≡ r → Active (suc time)
      by_answer e at is (Err why) did = later_active time (before (subst Kept (is ∙ ap (after (at_time time)) did) k)) refused
        where
          accepted : (place : ℕ) (a : Action) → Acts settings events time place i a → ⊥
          accepted place a y =
              let both : Err why ≡ Ok y.done = sym did ∙ ap (λ (f : Event). happens settings f (at_time time)) (same_Some e y.event (sym at ∙ y.did.at)) ∙ y.did.happened in
              absurd (cc)

          refused : (place : ℕ) → Ends settings events time place i x → ⊥
          refused place (inl a) = accepted place (action.Gone shard) a
          refused place (inr a) = accepted place action.Stopped a
      by_answer e at is (Ok done) did =
          let s : IsStep settings events time e done = record { at = at; happened = did } in
          elim (kept_back (at_time time) (all_well settings (take time events)) done (what_happened settings events time e done s) (subst Kept (is ∙ ap (after (at_time time)) did) k)) [
            | inl was ↦ later_active time (before was.0) (λ place ends. let there = ends_in time e done s place ends in was.1 place (omega arith) there.0 there.1)
            | inr starts ↦ now_active time e done s starts
          ]

  pub kept_was_active : (time : ℕ) → Kept (at_time time) → Active time
  kept_was_active zero k = absurd (let at = k.1 in cc)
  kept_was_active (suc time) k = next_active time (kept_was_active time) k

  -- ---- in a step of another node it stays active
  ends_alone : (time place end_place node : ℕ) (a : Action) → Acts settings events time place node a → Ends settings events time end_place i x → i ≡ node
  ends_alone time place end_place node a y (inl z) = acts_alone settings events time end_place place i node (action.Gone shard) a z y
  ends_alone time place end_place node a y (inr z) = acts_alone settings events time end_place place i node action.Stopped a z y

  active_within : (time place node : ℕ) (a : Action) → Acts settings events time place node a → i ≢ node → Active time → WasActive settings events time place i x
  active_within time place node a y apart was = record {
    start = was.start;
    start_place = was.start_place;
    starts = was.starts;
    before = before_then was.before;
    still = by_end;
  }
    where
      before_then : IsBefore was.start was.start_place time 0 → IsBefore was.start was.start_place time place
      before_then (inl lt) = inl lt
      before_then (inr same) = let lt = same.1 in absurd (omega (arith, lt))

      by_end : (end end_place : ℕ) → IsBefore was.start was.start_place end end_place → IsBefore end end_place time place → Ends settings events end end_place i x → ⊥
      by_end end end_place since (inl lt) ends = was.still end end_place since (inl lt) ends
      by_end end end_place since (inr same) ends = apart (ends_alone time place end_place node a y (subst (λ t. Ends settings events t end_place i x) same.0 ends))

-- ---- where an entity starts it was active at just those other nodes that keep it
module _ (settings : SettingsModel) (events : List Event) (time place node other : ℕ) (x : List ℕ) where
  pub doubled_keeps : IsDoubled settings events time place node other x → Keeps (run settings (take (time + 1) events)).nodes x other
  doubled_keeps d = let k = doubled_kept settings events time place node other x d in record { node = k.0; at = k.1; runs = k.2; active = k.3 }

  pub keeps_doubled : Starts settings events time place node x → other ≢ node → Keeps (run settings (take (time + 1) events)).nodes x other → IsDoubled settings events time place node other x
  keeps_doubled s apart k =
      let there = subst (IsKept settings events other x) (world_then settings events time s.event s.done s.did) (k.node, k.at, k.runs, k.active) in
      elim (kept_back settings events other x (run settings (take time events)) (all_well settings (take time events)) s.done (what_happened settings events time s.event s.done s.did) there) [
        | inl was ↦ record { starts = s; apart = apart; active = active_within settings events other x time place node (action.Entity x) s apart (kept_was_active settings events other x time was.0) }
        | inr starts ↦ absurd (apart (same_Some other node (sym starts.acted ∙ s.acted)))
      ]
