-- How far a run has come at the start of a turn, what the next turn makes of it, and the line at its end.
use Rattle.std.proofs.Common.{Bor, option_map, ◌≡◌, inl, inr, ℕ, suc, ◌+◌, ◌≤◌, List, [], ◌∷◌, ◌++◌, false, length, Option, None, Some, is_some, Result, Ok, Err, refl, sym, ap, ◌∙◌, subst, arith, append-nil, append_assoc, length-append}
use Rattle.std.specs.Option.{option_copied}
use Rattle.ak_schedule.specs.declared.event.Event.{Event}
use Rattle.ak_settings.specs.Settings.{SettingsModel}
use Rattle.ak_generate.specs.Fixed.{fixed}
use Rattle.ak_generate.specs.declared.sight.Sight.{Sight}
use Rattle.ak_generate.specs.Generated.{next_event}
use Rattle.ak_generate.specs.Words.{words_of}
use Rattle.ak_generate.specs.Generator.{GeneratorModel, seeded, after_next}
use Rattle.ak_sweep.specs.declared.line.Line.{Line}
use Rattle.ak_world.specs.declared.margin.Margin.{Margin}
use Rattle.ak_world.specs.declared.world.Reason.{Reason}
use Rattle.ak_world.specs.Double.{Doubled, IsFirstDouble}
use Rattle.ak_world.specs.Margin.{IsMargin}
use Rattle.ak_world.specs.World.{WorldState, Done, empty_world, happens}
use Rattle.ak_world.specs.declared.world.Step.{Step}
use Rattle.ak_world.specs.WorldContracts.{WorldModel, Accepts, Refuses}
use Rattle.ak_world.proofs.WorldLemmas.{few_run}
use Rattle.ak_sweeps.specs.GeneratedRun.{sight_of, next, IsOver, GoesOn, IsRun, IsLineOf}
use Rattle.ak_sweeps.specs.RunContracts.{IsPlayed, Went, Stayed, IsAfter, is_kept, followed}
use Rattle.ak_sweeps.specs.declared.run.Played.{Played}
use Rattle.ak_world.proofs.FoldRuns.{run_sound}
use Rattle.ak_world.proofs.WhatHappened.{Happened, IsAnswer, happened}
use Rattle.ak_sweeps.proofs.Answers.{AreApart, IsFullAtMost, full_is}
use Rattle.ak_sweeps.proofs.Followed.{followed_is}
use Rattle.ak_sweeps.proofs.GeneratedRuns.{Reached, reached_start, reached_next, reached_answer}
use Rattle.ak_sweeps.proofs.LineLaws.{kept_is, double_is}

-- so many events have happened, and what the run comes to with so many more it comes to as a whole
pub record Along (seed most many left : ℕ) (g : GeneratorModel) (w : WorldModel) : Type 0 where
  pub played : IsPlayed w
  pub reached : Reached g w.state w.events
  pub steps : many ≡ length w.events
  pub whole : (rest : List Event) → GoesOn left g w.state rest → IsRun seed most (w.events ++ rest)

pub along_start : (seed most : ℕ) (g : GeneratorModel) (w : WorldModel) → g ≡ seeded seed → w ≡ record { settings = fixed; state = empty_world; events = []; spent = false } → Along seed most 0 most g w
along_start seed most g w seeds starts =
    subst (λ (h : GeneratorModel). Along seed most 0 most h w) (sym seeds)
    (subst (λ (v : WorldModel). Along seed most 0 most (seeded seed) v) (sym starts) (record {
      played = record { settings = refl; state = refl; alive = refl };
      reached = reached_start seed;
      steps = refl;
      whole = λ rest on. on;
    }))

module _ (seed most steps left less : ℕ) (g : GeneratorModel) (w : WorldModel) (a : Along seed most steps left g w) (one_less : left ≡ suc less) where
  -- one more event happens
  pub along_turn : (more : ℕ) (h : GeneratorModel) (v : WorldModel) → more ≡ steps + 1 → Went g w h v → Along seed most more less h v
  along_turn more h v one_more t =
      let next_reached = reached_next g w.state w.events a.reached t.event t.comes t.done t.happened in
      subst (λ (x : GeneratorModel). Along seed most more less x v) (sym t.generator)
      (subst (λ (x : WorldModel). Along seed most more less (after_next g (sight_of w.state)) x) (sym t.world) (record {
        played = record { settings = refl; state = next_reached.is_run; alive = refl };
        reached = next_reached;
        steps = let s = a.steps in let l = length-append w.events (t.event ∷ []) in omega arith;
        whole = λ rest on.
            subst (IsRun seed most) (sym (append_assoc w.events (t.event ∷ []) rest))
            (a.whole (t.event ∷ rest) (subst (λ n. GoesOn n g w.state (t.event ∷ rest)) (sym one_less) (inr (t.event, t.done, t.comes, t.happened, rest, on, refl))));
      }))

  over : (v : WorldModel) → Stayed g w v → IsOver g w.state
  over v s = elim s.why [
    | inl none ↦ inl none
    | inr refused ↦
        let full = full_is refused.1 (subst IsFullAtMost refused.3 (reached_answer g w.state w.events a.reached refused.0 refused.2)) in
        inr (refused.0, refused.2, refused.3 ∙ ap (λ y. Err y) full)
  ]

  -- no more event happens
  pub along_stay : (p : Played) → Stayed g w p.world → p.steps ≡ steps → IsAfter seed most p
  along_stay p s same =
      let is_run : IsRun seed most w.events =
      subst (IsRun seed most) (append-nil w.events) (a.whole [] (subst (λ n. GoesOn n g w.state []) (sym one_less) (inl (over p.world s, refl)))) in
      record {
        played = subst IsPlayed (sym s.world) a.played;
        is_run = subst (λ (x : WorldModel). IsRun seed most x.events) (sym s.world) is_run;
        steps = same ∙ a.steps ∙ ap (λ (x : WorldModel). length x.events) (sym s.world);
      }

-- all of its events have happened
pub along_end : (seed most steps left : ℕ) (g : GeneratorModel) (w : WorldModel) (p : Played) → Along seed most steps left g w → left ≡ 0 → p.world ≡ w → p.steps ≡ steps → IsAfter seed most p
along_end seed most steps left g w p a none world same =
    let is_run : IsRun seed most w.events =
    subst (IsRun seed most) (append-nil w.events) (a.whole [] (subst (λ n. GoesOn n g w.state []) (sym none) refl)) in
    record {
      played = subst IsPlayed (sym world) a.played;
      is_run = subst (λ (x : WorldModel). IsRun seed most x.events) (sym world) is_run;
      steps = same ∙ a.steps ∙ ap (λ (x : WorldModel). length x.events) (sym world);
    }

-- the line of a world after a run
pub told : (seed most : ℕ) (p : Played) (line : Line) (margin : Margin) (double : Option Doubled) → IsAfter seed most p → line.seed ≡ seed → line.steps ≡ p.steps
    → line.packets ≡ length p.world.state.packets → line.history ≡ length p.world.state.history → IsMargin p.world.settings p.world.events margin → line.kept ≡ is_kept margin
    → IsFirstDouble p.world.settings p.world.events double → line.double ≡ is_some double → IsLineOf seed most line
told seed most p line margin double a seed_is steps packets history is_margin kept is_double doubled =
    let events = p.world.events in
    let on_fixed = a.played.settings in
    let m = kept_is events margin (subst (λ (s : SettingsModel). IsMargin s events margin) on_fixed is_margin) in
    let d = double_is events double (subst (λ (s : SettingsModel). IsFirstDouble s events double) on_fixed is_double) in (
      events,
      a.is_run,
      record {
        seed_is = seed_is;
        steps = steps ∙ a.steps;
        packets = packets ∙ ap (λ (w : WorldState). length w.packets) a.played.state;
        history = history ∙ ap (λ (w : WorldState). length w.history) a.played.state;
        kept = ((λ e. m.0 (sym kept ∙ e)), (λ h. kept ∙ m.1 h));
        double = ((λ e. d.0 (sym doubled ∙ e)), (λ h. doubled ∙ d.1 h));
      },
    )

-- ---- what an answer of the world makes of a turn
pub few_nodes : (w : WorldModel) → IsPlayed w → length w.state.nodes ≤ 64
few_nodes w p = subst (λ (s : WorldState). length s.nodes ≤ 64) (sym p.state) (few_run fixed w.events)

on_fixed : (w : WorldModel) (event : Event) (a : Result Done Reason) → IsPlayed w → happens w.settings event w.state ≡ a → happens fixed event w.state ≡ a
on_fixed w event a p is = ap (λ (x : SettingsModel). happens x event w.state) (sym p.settings) ∙ is

coming : (g : GeneratorModel) (w : WorldModel) (s : Sight) (event : Event) → s ≡ sight_of w.state → Some event ≡ next_event g.opened s (words_of g.words) → next g w.state ≡ Some event
coming g w s event seen comes = ap (λ (x : Sight). next_event g.opened x (words_of g.words)) (sym seen) ∙ sym comes

pub went : (g h : GeneratorModel) (w v : WorldModel) (s : Sight) (event : Event) (step : Step) → IsPlayed w → s ≡ sight_of w.state → Some event ≡ next_event g.opened s (words_of g.words) → h ≡ after_next g s
    → Accepts event w step v → Went g w h v
went g h w v s event step p seen comes moved accepted = record {
  event = event;
  done = accepted.done;
  comes = coming g w s event seen comes;
  happened = on_fixed w event (Ok accepted.done) p accepted.happened;
  generator = moved ∙ ap (after_next g) seen;
  world = accepted.world ∙ ap (λ (x : SettingsModel). record { settings = x; state = accepted.done.world; events = w.events ++ event ∷ []; spent = false }) p.settings;
}

pub stayed : (g : GeneratorModel) (w v : WorldModel) (s : Sight) (event : Event) (why : Reason) → IsPlayed w → s ≡ sight_of w.state → Some event ≡ next_event g.opened s (words_of g.words) → Refuses event w why v → Stayed g w v
stayed g w v s event why p seen comes refused = record {
  why = inr (event, why, coming g w s event seen comes, on_fixed w event (Err why) p refused.reason);
  world = refused.unchanged;
}

-- what is seen after the step
pub seen_next : (w v : WorldModel) (s t : Sight) (event : Event) (step : Step) → IsPlayed w → s ≡ sight_of w.state → Accepts event w step v → t ≡ followed step.node v.state s → t ≡ sight_of v.state
seen_next w v s t event step p seen accepted found =
    let apart : AreApart w.state = subst AreApart (sym p.state) (run_sound fixed w.events).apart in
    let was : Happened fixed w.state accepted.done = subst (IsAnswer fixed w.state) (on_fixed w event (Ok accepted.done) p accepted.happened) (happened fixed w.state event) in
    let state : v.state ≡ accepted.done.world = ap (λ (x : WorldModel). x.state) accepted.world in
    found ∙ ap (λ o. followed o v.state s) accepted.shown.node ∙ ap (λ x. followed accepted.done.node x s) state ∙ ap (followed accepted.done.node accepted.done.world) seen
    ∙ followed_is w.state apart accepted.done was ∙ ap sight_of (sym state)

pub seen_still : (w v : WorldModel) (s : Sight) (event : Event) (why : Reason) → s ≡ sight_of w.state → Refuses event w why v → s ≡ sight_of v.state
seen_still w v s event why seen refused = seen ∙ ap (λ (x : WorldModel). sight_of x.state) (sym refused.unchanged)

-- there is a double exactly where one is copied
pub some_copied : {T : Type 0} (f : T → Doubled) (r : Option (Bor T)) → is_some r ≡ is_some (option_map f (option_copied r))
some_copied f None = refl
some_copied f (Some d) = refl
