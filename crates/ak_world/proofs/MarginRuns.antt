-- The margin is broken at the first end of a margin of a process that runs: so the mark that a world keeps is the one of the
-- definition, after each event.
use Rattle.std.proofs.Common.{length-append, ◌≡◌, append_assoc, append-nil, ◌≢◌, ℕ, zero, suc, ◌+◌, ◌<◌, ◌≤◌, Bool, true, false, ◌&&◌, ◌⊎◌, inl, inr, List, [], ◌∷◌, ◌++◌, length, take, Option, Some, None, is_some, position, Ok, slice_get, slice_set, IsTrue, refl, sym, ap, ◌∙◌, subst, arith, add-one, true≢false, Result, Err}
use Rattle.std.proofs.lemmas.Option.{same_Some, slice_get_within}
use Rattle.std.specs.Ordering.{is_eq}
use Rattle.std.specs.Cmp.{first_so, second_so}
use Rattle.ak_address.specs.Unique.{UniqueModel, unique_cmp}
use Rattle.ak_address.proofs.Elements.{contains_nothing, any_there, contains_at}
use Rattle.ak_address.proofs.TableLaws.{key_itself, same_key}
use Rattle.ak_settings.specs.Settings.{SettingsModel}
use Rattle.ak_schedule.specs.declared.event.Event.{Event}
use Rattle.ak_wire.specs.declared.action.Action.{Action}
use Rattle.ak_wire.specs.declared.action.Action.TheVariants.{Send, Update, View, Settled, Active, Ended, Host, Gone, Entity, Deliver, Forward, Buffer, Drop, MarginEnd, Refused, Dead, Stopped}
use Rattle.ak_node.specs.declared.node.State.{State}
use Rattle.ak_node.specs.Node.{me_of, started, step}
use Rattle.ak_node.proofs.StepChanges.{step_changes}
use Rattle.ak_world.specs.declared.margin.Margin.{Margin}
use Rattle.ak_world.specs.declared.margin.Margin.TheVariants.{Kept, Broken}
use Rattle.ak_world.specs.declared.world.Reason.{Reason}
use Rattle.ak_world.specs.World.{WorldState, Done, empty_world, happens, after, run}
use Rattle.ak_world.specs.declared.world.Step.{Step}
use Rattle.ak_world.specs.WorldContracts.{Went}
use Rattle.ak_world.specs.InRun.{HasStopped, WasStarted}
use Rattle.ak_world.specs.Margin.{Runs, IsStep, HasNumber, IsTold, stopped, IsUntold, IsBroken, IsMargin}
use Rattle.ak_world.specs.MarginMark.{runs_as, running_end, or_else, first_end, broken_by, marked}
use Rattle.ak_world.proofs.FoldRuns.{run_sound, one_node}
use Rattle.ak_world.proofs.IndexLemmas.{set_back, set_or, set_elsewhere, push_at, push_here, prefix_at}
use Rattle.ak_world.proofs.Told.{done_or, later_stopped, what_happened, told_stops, ended_other}
use Rattle.ak_world.proofs.WhatHappened.{begins, steps, nobody, IsAnswer, Happened, happened, position_passes}
use Rattle.ak_world.proofs.WorldLemmas.{run-push, is_some-position, position-within}

-- ---- whose margin ends
abbrev pub Ends : List Action → ℕ → UniqueModel → Type 0
Ends actions place who = slice_get actions place ≡ Some (MarginEnd who)

-- who ends in a step was started before it, and is another node than the one that acts
pub record Other (settings : SettingsModel) (w : WorldState) (done : Done) (who : UniqueModel) : Type 0 where
  pub was_started : WasStarted settings w.nodes who
  index : ℕ
  node : State
  after : State
  at : slice_get w.nodes index ≡ Some node
  acted : done.node ≡ Some index
  other : who ≢ me_of after
  nodes_are : done.world.nodes ≡ slice_set w.nodes index after
  same : me_of after ≡ me_of node

module _ (settings : SettingsModel) (events : List Event) (done : Done) (place : ℕ) (who : UniqueModel) where
  abbrev w : WorldState
  w = run settings events

  pub is_other : Happened settings w done → Ends done.actions place who → Other settings w done who
  is_other h = elim h as (λ d _. Ends d.actions place who → Other settings w d who) [
    | begins u unknown free listed few ↦ λ ends. absurd (contains_nothing _ (contains_at [] place (MarginEnd who) ends))
    | steps e index n founded at runs was_sent ↦ λ ends.
        let o = ended_other settings events index n at who e runs (contains_at (step e n).1 place (MarginEnd who) ends) in
        record {
          was_started = o.was_started;
          index = index;
          node = n;
          after = (step e n).0;
          at = at;
          acted = refl;
          other = λ same. o.other (same ∙ (step_changes e n runs).same_me);
          nodes_are = refl;
          same = (step_changes e n runs).same_me;
        }
    | nobody ↦ λ ends. absurd (contains_nothing _ (contains_at [] place (MarginEnd who) ends))
  ]

  module _ (o : Other settings w done who) where
    -- it runs before the step and after it
    runs_then : Runs w.nodes who → Runs done.world.nodes who
    runs_then r = elim (set_elsewhere w.nodes o.index r.index o.after r.node r.at) [
      | inl here ↦ absurd (o.other (sym r.is_who ∙ ap me_of (same_Some r.node o.node (sym r.at ∙ ap (slice_get w.nodes) here ∙ o.at)) ∙ sym o.same))
      | inr there ↦ record { index = r.index; node = r.node; at = ap (λ l. slice_get l r.index) o.nodes_are ∙ there; is_who = r.is_who; runs = r.runs }
    ]

    runs_before : (j : ℕ) (m : State) → slice_get done.world.nodes j ≡ Some m → me_of m ≡ who → slice_get w.nodes j ≡ Some m
    runs_before j m at is_who = elim (set_or w.nodes o.index j o.after m (ap (λ l. slice_get l j) (sym o.nodes_are) ∙ at)) [
      | inl new ↦ absurd (o.other (sym is_who ∙ ap me_of new))
      | inr old ↦ old
    ]

-- ---- untold is whoever runs at the start of the step
module _ (settings : SettingsModel) (events : List Event) (time place : ℕ) (who : UniqueModel) where
  run_or_stopped : WasStarted settings (run settings (take time events)).nodes who → Runs (run settings (take time events)).nodes who ⊎ HasStopped (run settings (take time events)).nodes who
  run_or_stopped s = by_case s.node.runs refl
    where
      by_case : (b : Bool) → s.node.runs ≡ b → Runs (run settings (take time events)).nodes who ⊎ HasStopped (run settings (take time events)).nodes who
      by_case true is = inl (record { index = s.index; node = s.node; at = s.at; is_who = s.is_who; runs = is })
      by_case false is = inr (record { index = s.index; node = s.node; at = s.at; is_who = s.is_who; stopped = is })

  -- who has stopped was told at the last step
  told_before : (t : ℕ) → t ≡ time → HasStopped (run settings (take t events)).nodes who → (earlier : ℕ) × (earlier < t) × IsTold settings events earlier who
  told_before zero is s = absurd (cc)
  told_before (suc t) is s = (t, omega arith, stopped (subst (λ k. HasStopped (run settings (take k events)).nodes who) (sym (add-one t)) s))

  pub untold_runs : (node : ℕ) → IsUntold settings events time place node who → Runs (run settings (take time events)).nodes who
  untold_runs node u = elim (run_or_stopped (is_other settings (take time events) u.done place who (what_happened settings events time u.event u.done u.did) u.ended).was_started) [
    | inl runs ↦ runs
    | inr s ↦ let t = told_before time refl s in absurd (u.untold t.0 t.1 t.2)
  ]

  pub runs_untold : (node : ℕ) (event : Event) (done : Done) → IsStep settings events time event done → done.node ≡ Some node → Ends done.actions place who → Runs (run settings (take time events)).nodes who → IsUntold settings events time place node who
  runs_untold node event done did acted ends r = record {
    event = event;
    done = done;
    did = did;
    acted = acted;
    ended = ends;
    untold = λ earlier le told.
        let s = later_stopped settings events (earlier + 1) time who (omega arith) (told_stops settings events earlier who told) in
        let one : r.node ≡ s.node = one_node (run settings (take time events)) (run_sound settings (take time events)) r.index s.index r.node s.node r.at s.at (r.is_who ∙ sym s.is_who) in
        true≢false (sym r.runs ∙ ap (λ (x : State). x.runs) one ∙ s.stopped);
  }

-- who has a number keeps it
number_stays : (settings : SettingsModel) (w : WorldState) (number : ℕ) (who : UniqueModel) → HasNumber w.nodes number who → (done : Done) → Happened settings w done → HasNumber done.world.nodes number who
number_stays settings w number who h done happened = elim happened as (λ d _. HasNumber d.world.nodes number who) [
  | begins u unknown free listed few ↦ record { node = h.node; at = prefix_at w.nodes (started u settings ∷ []) number h.node h.at; is_who = h.is_who }
  | steps e index n founded at runs was_sent ↦
      let b = set_back w.nodes index n (step e n).0 at (step_changes e n runs).same_me number h.node h.at in
      record { node = b.0; at = b.1; is_who = b.2 ∙ h.is_who }
  | nobody ↦ h
]

-- ---- the first that a step finds
-- a node that passes is found
is_found : (p : State → Bool) (xs : List State) (j : ℕ) (x : State) → slice_get xs j ≡ Some x → p x ≡ true → position p xs ≡ None → ⊥
is_found p xs j x at passes none = true≢false (sym (any_there p xs x (contains_at xs j x at) passes) ∙ sym (is_some-position p xs) ∙ ap is_some none)

runs_found : (nodes : List State) (who : UniqueModel) → Runs nodes who → position (runs_as who) nodes ≡ None → ⊥
runs_found nodes who r =
    is_found (runs_as who) nodes r.index r.node r.at (ap (λ b. b && is_eq (unique_cmp (me_of r.node) who)) r.runs ∙ ap (λ u. is_eq (unique_cmp u who)) r.is_who ∙ key_itself who)

found_runs : (nodes : List State) (who : UniqueModel) (j : ℕ) (m : State) → position (runs_as who) nodes ≡ Some j → slice_get nodes j ≡ Some m → (me_of m ≡ who) × IsTrue m.runs
found_runs nodes who j m is at =
    let passes = position_passes (runs_as who) nodes j m is at in
    (same_key (me_of m) who (second_so m.runs (is_eq (unique_cmp (me_of m) who)) passes), first_so m.runs (is_eq (unique_cmp (me_of m) who)) passes)

-- what is found is there
in_range : (xs : List State) (j : ℕ) → j < length xs → (x : State) × (slice_get xs j ≡ Some x)
in_range [] j lt = absurd (omega arith)
in_range (x ∷ xs) zero lt = (x, refl)
in_range (x ∷ xs) (suc j) lt = in_range xs j (omega arith)

found_at : (p : State → Bool) (xs : List State) (j : ℕ) → position p xs ≡ Some j → (x : State) × (slice_get xs j ≡ Some x)
found_at p xs j is = in_range xs j (position-within p xs j is)

-- whoever ends is found by its action
end_found : (nodes : List State) (a : Action) (who : UniqueModel) → a ≡ MarginEnd who → running_end nodes a ≡ position (runs_as who) nodes
end_found nodes a who is = ap (running_end nodes) is

-- where nobody is found, nobody who ends runs
first_none : (nodes : List State) (actions : List Action) → first_end nodes actions ≡ None → (place : ℕ) (who : UniqueModel) → Ends actions place who → position (runs_as who) nodes ≡ None
first_none nodes [] none place who ends = absurd (cc)
first_none nodes (a ∷ actions) none place who ends = by_first (first_none nodes actions) (running_end nodes a) refl none place ends
  where
    by_first : (first_end nodes actions ≡ None → (place : ℕ) (who : UniqueModel) → Ends actions place who → position (runs_as who) nodes ≡ None) → (o : Option ℕ) → running_end nodes a ≡ o → or_else o (first_end nodes actions) ≡ None → (place : ℕ) → Ends (a ∷ actions) place who → position (runs_as who) nodes ≡ None
    by_first rest None is none zero ends = sym (end_found nodes a who (same_Some a (MarginEnd who) ends)) ∙ is
    by_first rest None is none (suc place) ends = rest none place who ends
    by_first rest (Some number) is none place ends = absurd (cc)

-- whoever is found ends, and no action before its own ends one who runs
record FirstEnd (nodes : List State) (actions : List Action) (number : ℕ) : Type 0 where
  place : ℕ
  who : UniqueModel
  ends : Ends actions place who
  found : position (runs_as who) nodes ≡ Some number
  first : (later : ℕ) (whose : UniqueModel) → Ends actions later whose → (position (runs_as whose) nodes ≡ None) ⊎ (place ≤ later)

action_by : (nodes : List State) (a : Action) (number : ℕ) → running_end nodes a ≡ Some number → (who : UniqueModel) × (a ≡ MarginEnd who) × (position (runs_as who) nodes ≡ Some number)
action_by nodes (Send e) number is = absurd (cc)
action_by nodes (Update k effects) number is = absurd (cc)
action_by nodes View number is = absurd (cc)
action_by nodes Settled number is = absurd (cc)
action_by nodes (Active term) number is = absurd (cc)
action_by nodes (Ended term) number is = absurd (cc)
action_by nodes (Host shard m) number is = absurd (cc)
action_by nodes (Gone shard) number is = absurd (cc)
action_by nodes (Entity entity) number is = absurd (cc)
action_by nodes (Deliver entity payload) number is = absurd (cc)
action_by nodes (Forward entity payload) number is = absurd (cc)
action_by nodes (Buffer entity payload) number is = absurd (cc)
action_by nodes (Drop entity payload) number is = absurd (cc)
action_by nodes (MarginEnd who) number is = (who, refl, is)
action_by nodes (Refused why) number is = absurd (cc)
action_by nodes Dead number is = absurd (cc)
action_by nodes Stopped number is = absurd (cc)

first_some : (nodes : List State) (actions : List Action) (number : ℕ) → first_end nodes actions ≡ Some number → FirstEnd nodes actions number
first_some nodes [] number some = absurd (cc)
first_some nodes (a ∷ actions) number some = by_first (first_some nodes actions number) (running_end nodes a) refl some
  where
    by_place : running_end nodes a ≡ None → (f : FirstEnd nodes actions number) → (later : ℕ) (whose : UniqueModel) → Ends (a ∷ actions) later whose → (position (runs_as whose) nodes ≡ None) ⊎ (suc f.place ≤ later)
    by_place is f zero whose ends = inl (sym (end_found nodes a whose (same_Some a (MarginEnd whose) ends)) ∙ is)
    by_place is f (suc later) whose ends = elim (f.first later whose ends) [ inl none ↦ inl none | inr le ↦ inr (omega arith) ]

    by_first : (first_end nodes actions ≡ Some number → FirstEnd nodes actions number) → (o : Option ℕ) → running_end nodes a ≡ o → or_else o (first_end nodes actions) ≡ Some number → FirstEnd nodes (a ∷ actions) number
    by_first rest (Some found) is some =
        let h = action_by nodes a number (is ∙ some) in
        record { place = 0; who = h.0; ends = ap Some h.1; found = h.2; first = λ later whose ends. inr (omega arith) }
    by_first rest None is some =
        let f = rest some in
        record { place = suc f.place; who = f.who; ends = f.ends; found = f.found; first = by_place is f }

-- ---- a list with one more event
pub take_first : (i : ℕ) (events : List Event) (e : Event) → i ≤ length events → take i (events ++ e ∷ []) ≡ take i events
take_first zero events e le = refl
take_first (suc i) [] e le = absurd (omega arith)
take_first (suc i) (x ∷ events) e le = ap (λ (l : List Event). x ∷ l) (take_first i events e (omega arith))

pub take_whole : (events : List Event) (e : Event) → take (length events) (events ++ e ∷ []) ≡ events
take_whole [] e = refl
take_whole (x ∷ events) e = ap (λ (l : List Event). x ∷ l) (take_whole events e)

module _ (settings : SettingsModel) (events : List Event) (e : Event) where
  abbrev more : List Event
  more = events ++ e ∷ []

  pub old_or_new : (time : ℕ) (event : Event) → slice_get more time ≡ Some event → (slice_get events time ≡ Some event) ⊎ ((time ≡ length events) × (event ≡ e))
  old_or_new = push_at (λ i x. (slice_get events i ≡ Some x) ⊎ ((i ≡ length events) × (x ≡ e))) events e (λ i x is. inl is) (inr (refl, refl))

  -- the same steps, and the same ends
  pub step_later : (time : ℕ) (event : Event) (done : Done) → IsStep settings events time event done → IsStep settings more time event done
  step_later time event done s = record {
    at = prefix_at events (e ∷ []) time event s.at;
    happened = ap (λ l. happens settings event (run settings l)) (take_first time events e (let lt = slice_get_within events time event s.at in omega arith)) ∙ s.happened;
  }

  pub step_sooner : (time : ℕ) (event : Event) (done : Done) → slice_get events time ≡ Some event → IsStep settings more time event done → IsStep settings events time event done
  step_sooner time event done at s = record {
    at = at;
    happened = ap (λ l. happens settings event (run settings l)) (sym (take_first time events e (let lt = slice_get_within events time event at in omega arith))) ∙ s.happened;
  }

  pub untold_later : (time place node : ℕ) (who : UniqueModel) → IsUntold settings events time place node who → IsUntold settings more time place node who
  untold_later time place node who u =
      runs_untold settings more time place who node u.event u.done (step_later time u.event u.done u.did) u.acted u.ended
      (subst (λ l. Runs (run settings l).nodes who) (sym (take_first time events e (let lt = slice_get_within events time u.event u.did.at in omega arith))) (untold_runs settings events time place who node u))

  untold_sooner : (time place node : ℕ) (who : UniqueModel) (u : IsUntold settings more time place node who) → slice_get events time ≡ Some u.event → IsUntold settings events time place node who
  untold_sooner time place node who u at =
      runs_untold settings events time place who node u.event u.done (step_sooner time u.event u.done at u.did) u.acted u.ended
      (subst (λ l. Runs (run settings l).nodes who) (take_first time events e (let lt = slice_get_within events time u.event at in omega arith)) (untold_runs settings more time place who node u))

  -- ---- the last step
  module _ (done : Done) (did : happens settings e (run settings events) ≡ Ok done) where
    pub last_step : IsStep settings more (length events) e done
    last_step = record { at = push_here events e; happened = ap (λ l. happens settings e (run settings l)) (take_whole events e) ∙ did }

    -- an end in the last step of one who runs
    record LastEnd (place node : ℕ) (who : UniqueModel) : Type 0 where
      ends : Ends done.actions place who
      acted : done.node ≡ Some node
      runs : Runs (run settings events).nodes who

    pub same_done : (x : Done) → happens settings e (run settings events) ≡ Ok x → x ≡ done
    same_done x is = ap (done_or x) (sym is ∙ did)

    untold_last : (time place node : ℕ) (who : UniqueModel) (u : IsUntold settings more time place node who) → time ≡ length events → u.event ≡ e → LastEnd place node who
    untold_last time place node who u is same =
        let whole : take time more ≡ events = ap (λ k. take k more) is ∙ take_whole events e in
        let done_is : u.done ≡ done = same_done u.done (ap (λ (l : List Event). happens settings e (run settings l)) (sym whole) ∙ ap (λ x. happens settings x (run settings (take time more))) (sym same) ∙ u.did.happened) in
        record {
          ends = ap (λ (d : Done). slice_get d.actions place) (sym done_is) ∙ u.ended;
          acted = ap (λ (d : Done). d.node) (sym done_is) ∙ u.acted;
          runs = subst (λ (l : List Event). Runs (run settings l).nodes who) whole (untold_runs settings more time place who node u);
        }

    last_untold : (place node : ℕ) (who : UniqueModel) → LastEnd place node who → IsUntold settings more (length events) place node who
    last_untold place node who l =
        runs_untold settings more (length events) place who node e done last_step l.acted l.ends
        (subst (λ (k : List Event). Runs (run settings k).nodes who) (sym (take_whole events e)) l.runs)

    happened_last : Happened settings (run settings events) done
    happened_last = subst (IsAnswer settings (run settings events)) did (happened settings (run settings events) e)

    abbrev then_nodes : List State
    then_nodes = done.world.nodes

    more_is : run settings more ≡ done.world
    more_is = run-push settings empty_world events e ∙ ap (after (run settings events)) did

    -- ---- the mark
    -- a margin that was broken is broken there
    stays_broken : (step node member : ℕ) → IsBroken settings events step node member → IsBroken settings more step node member
    stays_broken step node member b = record {
      time = b.time;
      place = b.place;
      who = b.who;
      untold = untold_later b.time b.place node b.who b.untold;
      first = λ later later_place other whose u. elim (old_or_new later u.event u.did.at) [
        | inl old ↦ b.first later later_place other whose (untold_sooner later later_place other whose u old)
        | inr new ↦ inl (let lt = slice_get_within events b.time b.untold.event b.untold.did.at in let is = new.0 in omega arith)
      ];
      step_is = b.step_is;
      member_is = subst (λ (w : WorldState). HasNumber w.nodes member b.who) (sym more_is) (number_stays settings (run settings events) member b.who b.member_is done happened_last);
    }

    -- where nobody is found a kept margin is kept
    still_kept : IsMargin settings events Kept → ((place node : ℕ) (who : UniqueModel) → LastEnd place node who → ⊥) → IsMargin settings more Kept
    still_kept kept none time place node who u = elim (old_or_new time u.event u.did.at) [
      | inl old ↦ kept time place node who (untold_sooner time place node who u old)
      | inr new ↦ none place node who (untold_last time place node who u new.0 new.1)
    ]

    runs_last : (place node : ℕ) (who : UniqueModel) → LastEnd place node who → Runs then_nodes who
    runs_last place node who l = runs_then settings events done place who (is_other settings events done place who happened_last l.ends) l.runs

    -- where somebody is found it is broken there
    now_broken : (node number : ℕ) → IsMargin settings events Kept → done.node ≡ Some node → first_end then_nodes done.actions ≡ Some number → IsBroken settings more (length events + 1) node number
    now_broken node number kept acted found =
        let f = first_some then_nodes done.actions number found in
        let m = found_at (runs_as f.who) then_nodes number f.found in
        let r = found_runs then_nodes f.who number m.0 f.found m.1 in
        let before = runs_before settings events done f.place f.who (is_other settings events done f.place f.who happened_last f.ends) number m.0 m.1 r.0 in
        record {
          time = length events;
          place = f.place;
          who = f.who;
          untold = last_untold f.place node f.who (record { ends = f.ends; acted = acted; runs = record { index = number; node = m.0; at = before; is_who = r.0; runs = r.1 } });
          first = λ later later_place other whose u. elim (old_or_new later u.event u.did.at) [
            | inl old ↦ absurd (kept later later_place other whose (untold_sooner later later_place other whose u old))
            | inr new ↦
                let l = untold_last later later_place other whose u new.0 new.1 in
                elim (f.first later_place whose l.ends) [
                  | inl none ↦ absurd (runs_found then_nodes whose (runs_last later_place other whose l) none)
                  | inr le ↦ inr (sym new.0, le)
                ]
          ];
          step_is = refl;
          member_is = subst (λ (w : WorldState). HasNumber w.nodes number f.who) (sym more_is) (record { node = m.0; at = m.1; is_who = r.0 });
        }

    -- the mark is that of the definition
    pub mark_goes_on : (mark : Margin) → IsMargin settings events mark → IsMargin settings more (marked mark (length events + 1) done)
    mark_goes_on (Broken step node member) b = stays_broken step node member b
    mark_goes_on Kept kept = by_case done.node (first_end then_nodes done.actions) refl refl
      where
        by_case : (acted found : Option ℕ) → done.node ≡ acted → first_end then_nodes done.actions ≡ found → IsMargin settings more (broken_by (length events + 1) acted found)
        by_case (Some node) (Some number) acts is = now_broken node number kept acts is
        by_case (Some node) None acts is = still_kept kept (λ place other who l. runs_found then_nodes who (runs_last place other who l) (first_none then_nodes done.actions is place who l.ends))
        by_case None found acts is = still_kept kept (λ place other who l. no_node other (sym acts ∙ l.acted))
          where
            no_node : (other : ℕ) → None ≡ Some other → ⊥
            no_node other same = true≢false (sym (ap is_some same))

-- nothing is broken where nothing happened
pub kept_at_first : (settings : SettingsModel) → IsMargin settings [] Kept
kept_at_first settings time place node who u = contains_nothing u.event (contains_at [] time u.event u.did.at)

-- ---- a refused event
module _ (settings : SettingsModel) (events : List Event) (e : Event) (why : Reason) (refused : happens settings e (run settings events) ≡ Err why) where
  -- it is no step
  pub not_last : (time : ℕ) (event : Event) (done : Done) → IsStep settings (events ++ e ∷ []) time event done → time ≡ length events → event ≡ e → ⊥
  not_last time event done s is same =
      let whole : take time (events ++ e ∷ []) ≡ events = ap (λ k. take k (events ++ e ∷ [])) is ∙ take_whole events e in
      let accepted : happens settings e (run settings events) ≡ Ok done =
      ap (λ (l : List Event). happens settings e (run settings l)) (sym whole) ∙ ap (λ x. happens settings x (run settings (take time (events ++ e ∷ [])))) (sym same) ∙ s.happened in
      absurd (let both = sym refused ∙ accepted in cc)

  untold_old : (time place node : ℕ) (who : UniqueModel) → IsUntold settings (events ++ e ∷ []) time place node who → IsUntold settings events time place node who
  untold_old time place node who u = elim (old_or_new settings events e time u.event u.did.at) [
    | inl old ↦ untold_sooner settings events e time place node who u old
    | inr new ↦ absurd (not_last time u.event u.done u.did new.0 new.1)
  ]

  same_run : run settings (events ++ e ∷ []) ≡ run settings events
  same_run = run-push settings empty_world events e ∙ ap (after (run settings events)) refused

  mark_stays : (mark : Margin) → IsMargin settings events mark → IsMargin settings (events ++ e ∷ []) mark
  mark_stays Kept kept = λ time place node who u. kept time place node who (untold_old time place node who u)
  mark_stays (Broken step node member) b = record {
    time = b.time;
    place = b.place;
    who = b.who;
    untold = untold_later settings events e b.time b.place node b.who b.untold;
    first = λ later later_place other whose u. b.first later later_place other whose (untold_old later later_place other whose u);
    step_is = b.step_is;
    member_is = subst (λ (w : WorldState). HasNumber w.nodes member b.who) (sym same_run) b.member_is;
  }

-- ---- each list of events has a margin
module _ (settings : SettingsModel) where
  one_event : (events : List Event) (e : Event) (mark : Margin) → IsMargin settings events mark → (next : Margin) × IsMargin settings (events ++ e ∷ []) next
  one_event events e mark is = by_answer (happens settings e (run settings events)) refl
    where
      by_answer : (a : Result Done Reason) → happens settings e (run settings events) ≡ a → (next : Margin) × IsMargin settings (events ++ e ∷ []) next
      by_answer (Ok done) did = (marked mark (length events + 1) done, mark_goes_on settings events e done did mark is)
      by_answer (Err why) did = (mark, mark_stays settings events e why did mark is)

  more_events : (events rest : List Event) (mark : Margin) → IsMargin settings events mark → (last : Margin) × IsMargin settings (events ++ rest) last
  more_events events [] mark is = (mark, subst (λ l. IsMargin settings l mark) (sym (append-nil events)) is)
  more_events events (e ∷ rest) mark is =
      let one = one_event events e mark is in
      let more = more_events (events ++ e ∷ []) rest one.0 one.1 in
      (more.0, subst (λ l. IsMargin settings l more.0) (append_assoc events (e ∷ []) rest) more.1)

  pub some_margin : (events : List Event) → (margin : Margin) × IsMargin settings events margin
  some_margin events = more_events [] events Kept (kept_at_first settings)

-- ---- and one alone
module _ (settings : SettingsModel) (events : List Event) where
  -- two ends at one place of one step are one
  same_ends : (time place node other : ℕ) (who whose : UniqueModel) → IsUntold settings events time place node who → IsUntold settings events time place other whose → (node ≡ other) × (who ≡ whose)
  same_ends time place node other who whose u v =
      let event_is : u.event ≡ v.event = same_Some u.event v.event (sym u.did.at ∙ v.did.at) in
      let done_is : u.done ≡ v.done = ap (done_or u.done) (sym u.did.happened ∙ ap (λ x. happens settings x (run settings (take time events))) event_is ∙ v.did.happened) in
      let ends : MarginEnd who ≡ MarginEnd whose = same_Some (MarginEnd who) (MarginEnd whose) (sym u.ended ∙ ap (λ (d : Done). slice_get d.actions place) done_is ∙ v.ended) in
      (same_Some node other (sym u.acted ∙ ap (λ (d : Done). d.node) done_is ∙ v.acted), cc)

  same_number : (number other : ℕ) (who whose : UniqueModel) → who ≡ whose → HasNumber (run settings events).nodes number who → HasNumber (run settings events).nodes other whose → number ≡ other
  same_number number other who whose same h g = (run_sound settings events).apart number other h.node g.node h.at g.at (h.is_who ∙ same ∙ sym g.is_who)

  pub same_place : (a b c d : ℕ) → (a < b) ⊎ ((a ≡ b) × (c ≤ d)) → (b < a) ⊎ ((b ≡ a) × (d ≤ c)) → (a ≡ b) × (c ≡ d)
  same_place a b c d (inl x) (inl y) = absurd (omega arith)
  same_place a b c d (inl x) (inr y) = let same = y.0 in absurd (omega arith)
  same_place a b c d (inr x) (inl y) = let same = x.0 in absurd (omega arith)
  same_place a b c d (inr x) (inr y) = let one = x.1 in let other = y.1 in (x.0, omega arith)

  pub one_margin : (one other : Margin) → IsMargin settings events one → IsMargin settings events other → one ≡ other
  one_margin Kept Kept h g = refl
  one_margin Kept (Broken step node member) h g = absurd (h g.time g.place node g.who g.untold)
  one_margin (Broken step node member) Kept h g = absurd (g h.time h.place node h.who h.untold)
  one_margin (Broken step node member) (Broken step_2 node_2 member_2) h g =
      let at = same_place h.time g.time h.place g.place (h.first g.time g.place node_2 g.who g.untold) (g.first h.time h.place node h.who h.untold) in
      let moved : IsUntold settings events g.time g.place node h.who = subst (λ p. IsUntold settings events g.time p node h.who) at.1 (subst (λ t. IsUntold settings events t h.place node h.who) at.0 h.untold) in
      let ends = same_ends g.time g.place node node_2 h.who g.who moved g.untold in
      let numbers : member ≡ member_2 = same_number member member_2 h.who g.who ends.1 h.member_is g.member_is in
      let steps_are : step ≡ step_2 = h.step_is ∙ ap (λ t. t + 1) at.0 ∙ sym g.step_is in
      let nodes_are : node ≡ node_2 = ends.0 in
      λ i. Broken (steps_are i) (nodes_are i) (numbers i)

-- ---- in the code: who is found has a number, and the mark after an accepted event is the margin
pub end_within : (nodes : List State) (actions : List Action) (number : ℕ) → first_end nodes actions ≡ Some number → number < length nodes
end_within nodes actions number is = let f = first_some nodes actions number is in position-within (runs_as f.who) nodes number f.found

pub went_margin : (settings new_settings : SettingsModel) (w v : WorldState) (events new_events : List Event) (e : Event) (s : Step) (mark next : Margin) (number : ℕ)
    → w ≡ run settings events → new_settings ≡ settings → new_events ≡ events ++ e ∷ [] → number ≡ length new_events → Went w (happens settings e w) s v
    → next ≡ marked mark number (record { world = v; node = s.node; actions = s.actions }) → IsMargin settings events mark → IsMargin new_settings new_events next
went_margin settings new_settings w v events new_events e s mark next number is_run same_settings events_are number_is went next_is margin =
    let done_is : record { world = v; node = s.node; actions = s.actions } ≡ went.done = λ i. record { world = went.world i; node = went.shown.node i; actions = went.shown.actions i } in
    let did : happens settings e (run settings events) ≡ Ok went.done = ap (happens settings e) (sym is_run) ∙ went.happened in
    let count : number ≡ length events + 1 = number_is ∙ ap length events_are ∙ length-append events (e ∷ []) in
    let mark_is : next ≡ marked mark (length events + 1) went.done = next_is ∙ (λ i. marked mark (count i) (done_is i)) in
    subst (λ l. IsMargin new_settings l next) (sym events_are)
    (subst (λ (x : SettingsModel). IsMargin x (events ++ e ∷ []) next) (sym same_settings)
    (subst (IsMargin settings (events ++ e ∷ [])) (sym mark_is) (mark_goes_on settings events e went.done did mark margin)))
