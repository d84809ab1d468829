-- While the removal margin is kept there is no double: no entity starts at a node, by what nodes tell, while it is active at another one.
use Rattle.std.proofs.Common.{◌≡◌, ◌⊎◌, inl, inr, ℕ, zero, suc, ◌+◌, ◌<◌, ◌≤◌, List, [], ◌∷◌, ◌++◌, take, Some, None, Result, Ok, Err, slice_get, slice_set, Contains, IsTrue, add-one, refl, sym, ap, ◌∙◌, subst, arith}
use Rattle.std.proofs.lemmas.Option.{same_Some}
use Rattle.ak_address.proofs.Elements.{contains_nothing, contains_at, index_of}
use Rattle.ak_settings.specs.Settings.{SettingsModel, division_of, shard_by}
use Rattle.ak_schedule.specs.declared.event.Event.{Event}
use Rattle.ak_sharding.specs.Alive.{IsActive}
use Rattle.ak_shard_id.specs.Division.{shard_in}
use Rattle.ak_wire.specs.declared.action.Action.{Action}
use Rattle.ak_wire.specs.declared.action.Action.TheVariants as action
use Rattle.ak_node.specs.declared.node.State.{State}
use Rattle.ak_node.specs.Node.{started, step}
use Rattle.ak_node.proofs.StepAlive.{step_alive}
use Rattle.ak_node.proofs.StepRuns.{step_runs}
use Rattle.ak_node.proofs.StepStarts.{step_started}
use Rattle.ak_world.specs.declared.margin.Margin.TheVariants.{Kept}
use Rattle.ak_world.specs.declared.world.Reason.{Reason}
use Rattle.ak_world.specs.Double.{Acts, Starts, Ends, WasActive, IsDoubled, IsFirstDouble}
use Rattle.ak_world.specs.Margin.{IsStep, IsMargin}
use Rattle.ak_world.specs.SettledLine.{IsOverHalf}
use Rattle.ak_world.specs.World.{WorldState, Done, empty_world, happens, after, run}
use Rattle.ak_world.proofs.InRunLemmas.{take_rest}
use Rattle.ak_world.proofs.IndexLemmas.{set_here, set_elsewhere, prefix_at}
use Rattle.ak_world.proofs.FinishedRuns.{kept_before}
use Rattle.ak_world.specs.Uids.{HaveUids}
use Rattle.ak_world.proofs.Addressed.{uids_first}
use Rattle.ak_world.proofs.OneHomeRuns.{all_well, one_entity}
use Rattle.ak_world.proofs.Processes.{processes}
use Rattle.ak_world.proofs.Told.{world_then, what_happened, done_or}
use Rattle.ak_world.proofs.WhatHappened.{begins, steps, nobody, Happened}
use Rattle.ak_world.proofs.WorldLemmas.{run-push}

-- ---- first parts of a list of events
pub kept_first : (settings : SettingsModel) (events : List Event) (time : ℕ) → IsMargin settings events Kept → IsMargin settings (take time events) Kept
kept_first settings events time kept = let rest = take_rest time events in kept_before settings (take time events) rest.0 (subst (λ l. IsMargin settings l Kept) rest.1 kept)

-- one event more is taken, or there is none
pub take_next : (time : ℕ) (events : List Event)
    → ((slice_get events time ≡ None) × (take (suc time) events ≡ take time events)) ⊎ ((e : Event) × (slice_get events time ≡ Some e) × (take (suc time) events ≡ take time events ++ e ∷ []))
take_next zero [] = inl (refl, refl)
take_next (suc time) [] = inl (refl, refl)
take_next zero (x ∷ events) = inr (x, refl, refl)
take_next (suc time) (x ∷ events) = elim (take_next time events) [
  | inl none ↦ inl (none.0, ap (λ (l : List Event). x ∷ l) none.1)
  | inr more ↦ inr (more.0, more.1, ap (λ (l : List Event). x ∷ l) more.2)
]

at_once : (start : ℕ) → start + 1 ≡ start + 1 + 0
at_once start = omega arith

later_is : (start more : ℕ) → suc (start + 1 + more) ≡ start + 1 + suc more
later_is start more = omega arith

-- ---- what nodes told of an entity
module _ (settings : SettingsModel) (events : List Event) (i : ℕ) (x : List ℕ) where
  abbrev at_time : ℕ → WorldState
  at_time time = run settings (take time events)

  -- the node runs, and keeps the entity active
  abbrev pub IsKept : WorldState → Type 0
  IsKept w = (n : State) × (slice_get w.nodes i ≡ Some n) × IsTrue n.runs × IsActive n.sharding x

  -- where another node acts, or none
  untouched : (w : WorldState) (done : Done) → Happened settings w done → (done.node ≡ Some i → ⊥) → IsKept w → IsKept done.world
  untouched w done h apart k = elim h as (λ d _. (d.node ≡ Some i → ⊥) → IsKept d.world) [
    | begins u unknown free listed few ↦ λ other. (k.0, prefix_at w.nodes (started u settings ∷ []) i k.0 k.1, k.2, k.3)
    | steps e index n founded at runs was_sent ↦ λ other. elim (set_elsewhere w.nodes index i (step e n).0 k.0 k.1) [
      | inl same ↦ absurd (other (ap (λ (j : ℕ). Some j) (sym same)))
      | inr there ↦ (k.0, there, k.2, k.3)
    ]
    | nobody ↦ λ other. k
  ] apart

  -- where it starts it is kept after the step
  started_kept : (time place : ℕ) → Starts settings events time place i x → IsKept (at_time (time + 1))
  started_kept time place s =
      let w : WorldState = at_time time in
      subst IsKept (sym (world_then settings events time s.event s.done s.did))
      (elim (what_happened settings events time s.event s.done s.did) as (λ d _. d.node ≡ Some i → Contains d.actions (action.Entity x) → IsKept d.world) [
        | begins u unknown free listed few ↦ λ acted there. absurd (contains_nothing _ there)
        | steps e index n founded at runs was_sent ↦ λ acted there.
            let r = step_started x e n runs (all_well settings (take time events) index n at).0 (((processes settings (take time events)).sane index n at).is_node.stays runs) there in
            ((step e n).0, subst (λ j. slice_get (slice_set w.nodes index (step e n).0) j ≡ Some (step e n).0) (same_Some index i acted) (set_here w.nodes index n (step e n).0 at), r.1, r.0.1)
        | nobody ↦ λ acted there. absurd (contains_nothing _ there)
      ] s.acted (contains_at s.done.actions place (action.Entity x) s.at))

  -- it has not ended at this step
  abbrev GoesOn : ℕ → Type 0
  GoesOn time = (place : ℕ) → Ends settings events time place i x → ⊥

  -- one that does not end at a step is kept after it
  done_kept : (time : ℕ) (e : Event) (done : Done) → IsStep settings events time e done → GoesOn time → IsKept (at_time time) → IsKept (at_time (time + 1))
  done_kept time e done s goes k =
      let w : WorldState = at_time time in
      subst IsKept (sym (world_then settings events time e done s))
      (elim (what_happened settings events time e done s) as (λ d _. (d.node ≡ Some i → Contains d.actions (action.Gone (shard_by settings x)) → ⊥) → (d.node ≡ Some i → Contains d.actions action.Stopped → ⊥) → IsKept d.world) [
        | begins u unknown free listed few ↦ λ gone stopped. (k.0, prefix_at w.nodes (started u settings ∷ []) i k.0 k.1, k.2, k.3)
        | steps ev index n founded at runs was_sent ↦ λ gone stopped. elim (set_elsewhere w.nodes index i (step ev n).0 k.0 k.1) [
          | inl same ↦
              let acted : Some index ≡ Some i = ap (λ (j : ℕ). Some j) (sym same) in
              let is : k.0 ≡ n = same_Some k.0 n (sym k.1 ∙ ap (λ j. slice_get w.nodes j) same ∙ at) in
              let well = all_well settings (take time events) index n at in
              let alive = step_alive x ev n runs (λ there. gone acted (subst (λ m. Contains (step ev n).1 (action.Gone (shard_in m x))) well.1 there)) (well.0, subst (λ (m : State). IsActive m.sharding x) is k.3) in
              ((step ev n).0, ap (λ j. slice_get (slice_set w.nodes index (step ev n).0) j) same ∙ set_here w.nodes index n (step ev n).0 at, step_runs ev n runs (stopped acted), alive.1)
          | inr there ↦ (k.0, there, k.2, k.3)
        ]
        | nobody ↦ λ gone stopped. k
      ]
      (λ acted there. let p = index_of done.actions _ there in goes p.0 (inl (record { event = e; done = done; did = s; acted = acted; at = p.1 })))
      (λ acted there. let p = index_of done.actions _ there in goes p.0 (inr (record { event = e; done = done; did = s; acted = acted; at = p.1 }))))

  next_kept : (time : ℕ) → GoesOn time → IsKept (at_time time) → IsKept (at_time (suc time))
  next_kept time goes k = elim (take_next time events) [
    | inl none ↦ subst (λ l. IsKept (run settings l)) (sym none.1) k
    | inr more ↦ by_answer more.0 more.1 (ap (run settings) more.2 ∙ run-push settings empty_world (take time events) more.0) (happens settings more.0 (at_time time)) refl
  ]
    where
      by_answer : (e : Event) → slice_get events time ≡ Some e → at_time (suc time) ≡ after (at_time time) (happens settings e (at_time time)) → (r : Result Done Reason) → happens settings e (at_time time) ≡ r → IsKept (at_time (suc time))
      by_answer e at is (Err why) did = subst IsKept (sym (is ∙ ap (after (at_time time)) did)) k
      by_answer e at is (Ok done) did = subst (λ t. IsKept (at_time t)) (add-one time) (done_kept time e done (record { at = at; happened = did }) goes k)

  -- from its start on it is kept as long as it does not end
  kept_on : (start start_place : ℕ) → Starts settings events start start_place i x → (more : ℕ) → ((time : ℕ) → start < time → time < start + 1 + more → GoesOn time) → IsKept (at_time (start + 1 + more))
  kept_on start start_place s zero goes = subst (λ t. IsKept (at_time t)) (at_once start) (started_kept start start_place s)
  kept_on start start_place s (suc more) goes =
      subst (λ t. IsKept (at_time t)) (later_is start more)
      (next_kept (start + 1 + more) (goes (start + 1 + more) (omega arith) (omega arith)) (kept_on start start_place s more (λ time after_start before. goes time after_start (omega (arith, before)))))

  -- one that was active just before an action is kept before the step, unless it started in the step itself
  pub was_kept : (time place : ℕ) → WasActive settings events time place i x → IsKept (at_time time) ⊎ ((start_place : ℕ) × Starts settings events time start_place i x)
  was_kept time place a = elim a.before [
    | inl before ↦
        let more = gap a.start time before in
        inl (subst (λ t. IsKept (at_time t)) (sym more.1) (kept_on a.start a.start_place a.starts more.0
        (λ t after_start until at ends. a.still t at (inl after_start) (inl (subst (λ k. t < k) (sym more.1) until)) ends)))
    | inr same ↦ inr (a.start_place, subst (λ t. Starts settings events t a.start_place i x) same.0 a.starts)
  ]
    where
      gap : (start end : ℕ) → start < end → (more : ℕ) × (end ≡ start + 1 + more)
      gap zero zero lt = absurd (omega arith)
      gap zero (suc end) lt = (end, omega arith)
      gap (suc start) zero lt = absurd (omega arith)
      gap (suc start) (suc end) lt = let g = gap start end (omega arith) in let is = g.1 in (g.0, omega (arith, is))

-- one thing is done at a step, by one node
pub one_done : (settings : SettingsModel) (events : List Event) (time : ℕ) (e f : Event) (done other : Done) → IsStep settings events time e done → IsStep settings events time f other → done ≡ other
one_done settings events time e f done other s t = ap (done_or done) (sym s.happened ∙ ap (λ x. happens settings x (run settings (take time events))) (same_Some e f (sym s.at ∙ t.at)) ∙ t.happened)

pub acts_alone : (settings : SettingsModel) (events : List Event) (time place other_place i j : ℕ) (a b : Action) → Acts settings events time place i a → Acts settings events time other_place j b → i ≡ j
acts_alone settings events time place other_place i j a b x y =
    same_Some i j (sym x.acted ∙ ap (λ (d : Done). d.node) (one_done settings events time x.event y.event x.done y.done x.did y.did) ∙ y.acted)

-- where an entity starts again it is kept by the other node after the step
pub doubled_kept : (settings : SettingsModel) (events : List Event) (time place node other : ℕ) (entity : List ℕ) → IsDoubled settings events time place node other entity
    → IsKept settings events other entity (run settings (take (time + 1) events))
doubled_kept settings events time place node other entity d = elim (was_kept settings events other entity time place d.active) [
  | inl before ↦
      let s = d.starts in
      subst (IsKept settings events other entity) (sym (world_then settings events time s.event s.done s.did))
      (untouched settings events other entity (run settings (take time events)) s.done (what_happened settings events time s.event s.done s.did) (λ acted. d.apart (same_Some other node (sym acted ∙ s.acted))) before)
  | inr starts ↦ absurd (d.apart (acts_alone settings events time starts.0 place other node _ _ starts.1 d.starts))
]

-- ---- no double
module _ (settings : SettingsModel) (events : List Event) (quorum : ℕ) (over_half : IsOverHalf settings quorum) (least : 1 ≤ settings.margin) (kept : IsMargin settings events Kept) (uids : HaveUids (run settings events)) where
  pub no_double : (time place node other : ℕ) (entity : List ℕ) → IsDoubled settings events time place node other entity → ⊥
  no_double time place node other entity d =
      let there = doubled_kept settings events time place node other entity d in
      let here = started_kept settings events node entity time place d.starts in
      d.apart (one_entity settings (take (time + 1) events) quorum over_half least (kept_first settings events (time + 1) kept) (uids_first settings events (time + 1) uids)
      other node there.0 here.0 there.1 here.1 there.2 here.2 entity there.3 here.3)

  pub none_doubled : IsFirstDouble settings events None
  none_doubled = no_double

-- ---- as a clause of `apply` says it
pub no_double-of_run : (settings : SettingsModel) (events : List Event) → HaveUids (run settings events) → 1 ≤ settings.margin → (quorum time : ℕ) → IsOverHalf settings quorum → IsMargin settings (take time events) Kept → IsFirstDouble settings (take time events) None
no_double-of_run settings events uids least quorum time over_half kept = none_doubled settings (take time events) quorum over_half least kept (uids_first settings events time uids)
