use Rattle.std.proofs.Common.{◌≡◌, false, is_ok, is_some, true≢false, ◌+◌, ◌<◌, ◌≤◌, ◌^◌, ◌++◌, ◌∷◌, [], List, length, length-append, refl, sym, subst, ap, ◌∙◌, arith}
use Rattle.std.specs.Option.{option_map}
use Rattle.std.proofs.lemmas.Grind.{common_steps}
use Rattle.ak_schedule.specs.declared.event.Event.{Event}
use Rattle.ak_settings.specs.Settings.{SettingsModel}
use Rattle.ak_world.specs.World.{WorldState, run}
use Rattle.ak_world.specs.WorldContracts.{WorldModel, IsReady, HaveSettings, state_of, doubled_of}
use Rattle.ak_world.proofs.FoldRuns.{folds-of_run, views_at_times}
use Rattle.ak_world.proofs.SeenHeld.{seen-of_run}
use Rattle.ak_world.proofs.MadeFrom.{closed-of_run}
use Rattle.ak_world.proofs.HeldInOrder.{held_in_order}
use Rattle.ak_world.proofs.InRunLemmas.{serve-of_run, confirmed-of_run, alone-of_run, started-of_run, settled-of_run}
use Rattle.ak_world.proofs.Noted.{noted_in_order}
use Rattle.ak_world.proofs.SettledRuns.{in_line, noted-of_run}
use Rattle.ak_world.proofs.MarginRuns.{went_margin}
use Rattle.ak_world.specs.Uids.{HaveUids}
use Rattle.ak_world.proofs.OneActiveRuns.{finished-of_run, one_active-of_run}
use Rattle.ak_world.proofs.OneHomeRuns.{one_home-of_run}
use Rattle.ak_world.proofs.PlaceRuns.{one_node}
use Rattle.ak_world.proofs.DoubleMarks.{went_double}
use Rattle.ak_world.proofs.DoubleRuns.{no_double-of_run}
use Rattle.ak_world.proofs.UidsOfStarts.{next_uids}
use Rattle.ak_world.proofs.AlikeRuns.{apart_next}
use Rattle.ak_world.proofs.WaitedRuns.{run_settings}
use Rattle.ak_world.proofs.WorldLemmas.{few_run, length-states, run-went, at-ok}
use Rattle.ak_world.proofs.SeekLemmas.{ready_run}
use Rattle.ak_world.proofs.world.World.apply.Goals as goal

pub happens-requires : goal.happens-requires
happens-requires c =
    let few : length c.self.inside.accepted < 2 ^ 62 =
    subst (λ (events : List Event). length events < 2 ^ 62) (sym (ap (λ (w : WorldModel). w.events) c.self.view_is)) c.requires in
    let is_run = c.self.invariant.is_run (ap is_some c.in_default.is) in
    record {
      ready = subst IsReady (sym is_run) (ready_run c.self.inside.scene.settings c.self.inside.accepted few);
      same = subst (HaveSettings c.self.inside.scene.settings) (sym is_run) (run_settings c.self.inside.scene.settings c.self.inside.accepted);
      apart = apart_next c.self.inside.scene.settings c.self.inside.accepted (state_of c.self.inside.scene) c.args.event.now is_run;
    }

pub invariant_of-self-in_default-kept : goal.invariant_of-self-in_default-kept
invariant_of-self-in_default-kept c =
    let is_kept = ap is_ok c.in_default-kept.is in
    let kept : c.keep_step-kept.new.accepted ≡ c.self.inside.accepted ++ c.args.event.now ∷ [] = at-ok c.keep_step-kept.result _ is_kept c.keep_step-kept.ensures.kept in
    let number : length c.self.inside.accepted + 1 ≡ length c.keep_step-kept.new.accepted = sym (ap length kept ∙ length-append c.self.inside.accepted (c.args.event.now ∷ [])) in
    record {
      is_run = λ alive.
          run-went c.self.inside.scene.settings _ _ _ c.self.inside.accepted _ c.args.event.now _ (c.self.invariant.is_run (ap is_some c.in_default.is)) c.happens.ensures.settings kept c.in-Ok.ensures.scenes;
      is_empty = λ spent. absurd (true≢false (sym spent ∙ ap is_some c.in_default.is));
      is_margin =
          went_margin c.self.inside.scene.settings _ _ _ c.self.inside.accepted _ c.args.event.now _ c.self.inside.marks.margin _ _ (c.self.invariant.is_run (ap is_some c.in_default.is)) c.happens.ensures.settings kept number c.in-Ok.ensures.scenes
          (at-ok c.keep_step-kept.result _ is_kept c.keep_step-kept.ensures.margin) c.self.invariant.is_margin;
      is_double =
          went_double c.self.inside.scene.settings _ _ _ c.self.inside.accepted _ c.args.event.now _ (option_map doubled_of c.self.inside.marks.double) _ _ (c.self.invariant.is_run (ap is_some c.in_default.is)) c.happens.ensures.settings kept number c.in-Ok.ensures.scenes
          (at-ok c.keep_step-kept.result _ is_kept c.keep_step-kept.ensures.double) c.self.invariant.is_double;
      uids =
          subst (λ (s : SettingsModel). HaveUids (run s c.keep_step-kept.new.accepted)) (sym c.happens.ensures.settings)
          (subst (λ (l : List Event). HaveUids (run c.self.inside.scene.settings l)) (sym kept) (next_uids c.self.inside.scene.settings c.self.inside.accepted c.args.event.now c.self.invariant.uids c.start_has_uid.ensures));
    }

pub keep_step-kept-requires : goal.keep_step-kept-requires
keep_step-kept-requires c =
    let is_run : state_of c.happens.new.self ≡ run c.happens.new.self.settings (c.self.inside.accepted ++ c.args.event.now ∷ []) =
    run-went c.self.inside.scene.settings _ _ _ c.self.inside.accepted _ c.args.event.now _ (c.self.invariant.is_run (ap is_some c.in_default.is)) c.happens.ensures.settings refl c.in-Ok.ensures.scenes in
    let few : length (state_of c.happens.new.self).nodes ≤ 64 =
    subst (λ (w : WorldState). length w.nodes ≤ 64) (sym is_run) (few_run c.happens.new.self.settings (c.self.inside.accepted ++ c.args.event.now ∷ [])) in
    record {
      nodes = omega (arith, few, length-states c.happens.new.self.nodes.items);
      events = subst (λ (events : List Event). length events < 2 ^ 62) (sym (ap (λ (w : WorldModel). w.events) c.self.view_is)) c.requires;
    }

pub returns-in_default-kept-clause-run : goal.returns-in_default-kept-clause-run
returns-in_default-kept-clause-run c =
    let kept : c.keep_step-kept.new.accepted ≡ c.self.inside.accepted ++ c.args.event.now ∷ [] =
    at-ok c.keep_step-kept.result _ (ap is_ok c.in_default-kept.is) c.keep_step-kept.ensures.kept in
    λ alive.
    run-went c.self.inside.scene.settings _ _ _ c.self.inside.accepted _ c.args.event.now _ (c.self.invariant.is_run (ap is_some c.in_default.is)) c.happens.ensures.settings kept c.in-Ok.ensures.scenes

pub returns-in_default-kept-clause-folded : goal.returns-in_default-kept-clause-folded
returns-in_default-kept-clause-folded c =
    λ alive g is_in. folds-of_run c.happens.new.self.settings c.keep_step-kept.new.accepted (state_of c.happens.new.self) (returns-in_default-kept-clause-run c alive) g is_in

pub returns-in-Err-Invalid-clause-folded : goal.returns-in-Err-Invalid-clause-folded
returns-in-Err-Invalid-clause-folded c =
    let is_run : is_some c.self.inside.failed ≡ false → state_of c.happens.new.self ≡ run c.happens.new.self.settings c.self.inside.accepted = grind (arith, common_steps) in
    λ alive. folds-of_run c.happens.new.self.settings c.self.inside.accepted (state_of c.happens.new.self) (is_run alive)

pub returns-in_default-kept-clause-equal : goal.returns-in_default-kept-clause-equal
returns-in_default-kept-clause-equal c =
    λ alive. views_at_times c.happens.new.self.settings c.keep_step-kept.new.accepted

pub returns-in-Err-Invalid-clause-equal : goal.returns-in-Err-Invalid-clause-equal
returns-in-Err-Invalid-clause-equal c =
    λ alive. views_at_times c.happens.new.self.settings c.self.inside.accepted

pub returns-in_default-kept-clause-seen : goal.returns-in_default-kept-clause-seen
returns-in_default-kept-clause-seen c =
    λ alive. seen-of_run c.happens.new.self.settings c.keep_step-kept.new.accepted (state_of c.happens.new.self) (returns-in_default-kept-clause-run c alive)

pub returns-in-Err-Invalid-clause-seen : goal.returns-in-Err-Invalid-clause-seen
returns-in-Err-Invalid-clause-seen c =
    let is_run : is_some c.self.inside.failed ≡ false → state_of c.happens.new.self ≡ run c.happens.new.self.settings c.self.inside.accepted = grind (arith, common_steps) in
    λ alive. seen-of_run c.happens.new.self.settings c.self.inside.accepted (state_of c.happens.new.self) (is_run alive)

pub returns-in_default-kept-clause-closed : goal.returns-in_default-kept-clause-closed
returns-in_default-kept-clause-closed c =
    λ alive. closed-of_run c.happens.new.self.settings c.keep_step-kept.new.accepted (state_of c.happens.new.self) (returns-in_default-kept-clause-run c alive)

pub returns-in-Err-Invalid-clause-closed : goal.returns-in-Err-Invalid-clause-closed
returns-in-Err-Invalid-clause-closed c =
    let is_run : is_some c.self.inside.failed ≡ false → state_of c.happens.new.self ≡ run c.happens.new.self.settings c.self.inside.accepted = grind (arith, common_steps) in
    λ alive. closed-of_run c.happens.new.self.settings c.self.inside.accepted (state_of c.happens.new.self) (is_run alive)

pub returns-in_default-kept-clause-ordered : goal.returns-in_default-kept-clause-ordered
returns-in_default-kept-clause-ordered c =
    λ alive. held_in_order c.happens.new.self.settings c.keep_step-kept.new.accepted

pub returns-in-Err-Invalid-clause-ordered : goal.returns-in-Err-Invalid-clause-ordered
returns-in-Err-Invalid-clause-ordered c =
    λ alive. held_in_order c.happens.new.self.settings c.self.inside.accepted

pub returns-in_default-kept-clause-serving : goal.returns-in_default-kept-clause-serving
returns-in_default-kept-clause-serving c =
    λ alive. serve-of_run c.happens.new.self.settings c.keep_step-kept.new.accepted (state_of c.happens.new.self) (returns-in_default-kept-clause-run c alive)

pub returns-in-Err-Invalid-clause-serving : goal.returns-in-Err-Invalid-clause-serving
returns-in-Err-Invalid-clause-serving c =
    let is_run : is_some c.self.inside.failed ≡ false → state_of c.happens.new.self ≡ run c.happens.new.self.settings c.self.inside.accepted = grind (arith, common_steps) in
    λ alive. serve-of_run c.happens.new.self.settings c.self.inside.accepted (state_of c.happens.new.self) (is_run alive)

pub returns-in_default-kept-clause-confirmed : goal.returns-in_default-kept-clause-confirmed
returns-in_default-kept-clause-confirmed c =
    λ alive. confirmed-of_run c.happens.new.self.settings c.keep_step-kept.new.accepted (state_of c.happens.new.self) (returns-in_default-kept-clause-run c alive)

pub returns-in-Err-Invalid-clause-confirmed : goal.returns-in-Err-Invalid-clause-confirmed
returns-in-Err-Invalid-clause-confirmed c =
    let is_run : is_some c.self.inside.failed ≡ false → state_of c.happens.new.self ≡ run c.happens.new.self.settings c.self.inside.accepted = grind (arith, common_steps) in
    λ alive. confirmed-of_run c.happens.new.self.settings c.self.inside.accepted (state_of c.happens.new.self) (is_run alive)

pub returns-in_default-kept-clause-alone : goal.returns-in_default-kept-clause-alone
returns-in_default-kept-clause-alone c =
    λ alive. alone-of_run c.happens.new.self.settings c.keep_step-kept.new.accepted (state_of c.happens.new.self) (returns-in_default-kept-clause-run c alive)

pub returns-in-Err-Invalid-clause-alone : goal.returns-in-Err-Invalid-clause-alone
returns-in-Err-Invalid-clause-alone c =
    let is_run : is_some c.self.inside.failed ≡ false → state_of c.happens.new.self ≡ run c.happens.new.self.settings c.self.inside.accepted = grind (arith, common_steps) in
    λ alive. alone-of_run c.happens.new.self.settings c.self.inside.accepted (state_of c.happens.new.self) (is_run alive)

pub returns-in_default-kept-clause-started : goal.returns-in_default-kept-clause-started
returns-in_default-kept-clause-started c =
    λ alive. started-of_run c.happens.new.self.settings c.keep_step-kept.new.accepted (state_of c.happens.new.self) (returns-in_default-kept-clause-run c alive)

pub returns-in-Err-Invalid-clause-started : goal.returns-in-Err-Invalid-clause-started
returns-in-Err-Invalid-clause-started c =
    let is_run : is_some c.self.inside.failed ≡ false → state_of c.happens.new.self ≡ run c.happens.new.self.settings c.self.inside.accepted = grind (arith, common_steps) in
    λ alive. started-of_run c.happens.new.self.settings c.self.inside.accepted (state_of c.happens.new.self) (is_run alive)

pub returns-in_default-kept-clause-settled : goal.returns-in_default-kept-clause-settled
returns-in_default-kept-clause-settled c =
    λ alive. settled-of_run c.happens.new.self.settings c.keep_step-kept.new.accepted (state_of c.happens.new.self) (returns-in_default-kept-clause-run c alive)

pub returns-in-Err-Invalid-clause-settled : goal.returns-in-Err-Invalid-clause-settled
returns-in-Err-Invalid-clause-settled c =
    let is_run : is_some c.self.inside.failed ≡ false → state_of c.happens.new.self ≡ run c.happens.new.self.settings c.self.inside.accepted = grind (arith, common_steps) in
    λ alive. settled-of_run c.happens.new.self.settings c.self.inside.accepted (state_of c.happens.new.self) (is_run alive)

pub returns-in_default-kept-clause-grows : goal.returns-in_default-kept-clause-grows
returns-in_default-kept-clause-grows c =
    λ alive. noted_in_order c.happens.new.self.settings c.keep_step-kept.new.accepted

pub returns-in-Err-Invalid-clause-grows : goal.returns-in-Err-Invalid-clause-grows
returns-in-Err-Invalid-clause-grows c =
    λ alive. noted_in_order c.happens.new.self.settings c.self.inside.accepted

pub returns-in_default-kept-clause-line : goal.returns-in_default-kept-clause-line
returns-in_default-kept-clause-line c =
    λ alive. in_line c.happens.new.self.settings c.keep_step-kept.new.accepted

pub returns-in-Err-Invalid-clause-line : goal.returns-in-Err-Invalid-clause-line
returns-in-Err-Invalid-clause-line c =
    λ alive. in_line c.happens.new.self.settings c.self.inside.accepted

pub returns-in_default-kept-clause-noted : goal.returns-in_default-kept-clause-noted
returns-in_default-kept-clause-noted c =
    λ alive. noted-of_run c.happens.new.self.settings c.keep_step-kept.new.accepted (state_of c.happens.new.self) (returns-in_default-kept-clause-run c alive)

pub returns-in-Err-Invalid-clause-noted : goal.returns-in-Err-Invalid-clause-noted
returns-in-Err-Invalid-clause-noted c =
    let is_run : is_some c.self.inside.failed ≡ false → state_of c.happens.new.self ≡ run c.happens.new.self.settings c.self.inside.accepted = grind (arith, common_steps) in
    λ alive. noted-of_run c.happens.new.self.settings c.self.inside.accepted (state_of c.happens.new.self) (is_run alive)

pub returns-in-Some-clause-one_active : goal.returns-in-Some-clause-one_active
returns-in-Some-clause-one_active c =
    one_active-of_run _ _ (subst (λ (w : WorldModel). HaveUids (run w.settings w.events)) c.self.view_is c.self.invariant.uids) (subst (λ (w : WorldModel). 1 ≤ w.settings.margin) c.self.view_is c.invariant.ensures.margin.from)

pub returns-in-Some-clause-finished : goal.returns-in-Some-clause-finished
returns-in-Some-clause-finished c = finished-of_run _ _ (subst (λ (w : WorldModel). 1 ≤ w.settings.margin) c.self.view_is c.invariant.ensures.margin.from)

pub returns-in_default-kept-clause-one_active : goal.returns-in_default-kept-clause-one_active
returns-in_default-kept-clause-one_active c =
    let kept : c.keep_step-kept.new.accepted ≡ c.self.inside.accepted ++ c.args.event.now ∷ [] =
    at-ok c.keep_step-kept.result _ (ap is_ok c.in_default-kept.is) c.keep_step-kept.ensures.kept in
    let uids =
    subst (λ (s : SettingsModel). HaveUids (run s c.keep_step-kept.new.accepted)) (sym c.happens.ensures.settings)
    (subst (λ (l : List Event). HaveUids (run c.self.inside.scene.settings l)) (sym kept) (next_uids c.self.inside.scene.settings c.self.inside.accepted c.args.event.now c.self.invariant.uids c.start_has_uid.ensures)) in
    one_active-of_run _ _ uids (subst (λ (s : SettingsModel). 1 ≤ s.margin) (sym c.happens.ensures.settings) c.invariant.ensures.margin.from)

pub returns-in_default-kept-clause-finished : goal.returns-in_default-kept-clause-finished
returns-in_default-kept-clause-finished c = finished-of_run _ _ (subst (λ (s : SettingsModel). 1 ≤ s.margin) (sym c.happens.ensures.settings) c.invariant.ensures.margin.from)

pub returns-in-Err-clause-one_active : goal.returns-in-Err-clause-one_active
returns-in-Err-clause-one_active c =
    let same : c.keep_step-kept.new.accepted ≡ c.self.inside.accepted = grind (arith, common_steps) in
    let uids =
    subst (λ (s : SettingsModel). HaveUids (run s c.keep_step-kept.new.accepted)) (sym (c.clear.ensures.settings ∙ c.happens.ensures.settings))
    (subst (λ (l : List Event). HaveUids (run c.self.inside.scene.settings l)) (sym same) c.self.invariant.uids) in
    one_active-of_run _ _ uids (subst (λ (s : SettingsModel). 1 ≤ s.margin) (sym (c.clear.ensures.settings ∙ c.happens.ensures.settings)) c.invariant.ensures.margin.from)

pub returns-in-Err-clause-finished : goal.returns-in-Err-clause-finished
returns-in-Err-clause-finished c = finished-of_run _ _ (subst (λ (s : SettingsModel). 1 ≤ s.margin) (sym (c.clear.ensures.settings ∙ c.happens.ensures.settings)) c.invariant.ensures.margin.from)

pub returns-in-Err-NoMemory-clause-one_active : goal.returns-in-Err-NoMemory-clause-one_active
returns-in-Err-NoMemory-clause-one_active c =
    one_active-of_run _ _ (subst (λ (s : SettingsModel). HaveUids (run s c.self.inside.accepted)) (sym (c.clear-in-Err-NoMemory.ensures.settings ∙ c.happens.ensures.settings)) c.self.invariant.uids) (subst (λ (s : SettingsModel). 1 ≤ s.margin) (sym (c.clear-in-Err-NoMemory.ensures.settings ∙ c.happens.ensures.settings)) c.invariant.ensures.margin.from)

pub returns-in-Err-NoMemory-clause-finished : goal.returns-in-Err-NoMemory-clause-finished
returns-in-Err-NoMemory-clause-finished c = finished-of_run _ _ (subst (λ (s : SettingsModel). 1 ≤ s.margin) (sym (c.clear-in-Err-NoMemory.ensures.settings ∙ c.happens.ensures.settings)) c.invariant.ensures.margin.from)

pub returns-in-Err-Invalid-clause-one_active : goal.returns-in-Err-Invalid-clause-one_active
returns-in-Err-Invalid-clause-one_active c =
    one_active-of_run _ _ (subst (λ (s : SettingsModel). HaveUids (run s c.self.inside.accepted)) (sym c.happens.ensures.settings) c.self.invariant.uids) (subst (λ (s : SettingsModel). 1 ≤ s.margin) (sym c.happens.ensures.settings) c.invariant.ensures.margin.from)

pub returns-in-Err-Invalid-clause-finished : goal.returns-in-Err-Invalid-clause-finished
returns-in-Err-Invalid-clause-finished c = finished-of_run _ _ (subst (λ (s : SettingsModel). 1 ≤ s.margin) (sym c.happens.ensures.settings) c.invariant.ensures.margin.from)

pub returns-in-Some-clause-one_home : goal.returns-in-Some-clause-one_home
returns-in-Some-clause-one_home c =
    one_home-of_run _ _ (subst (λ (w : WorldModel). HaveUids (run w.settings w.events)) c.self.view_is c.self.invariant.uids) (subst (λ (w : WorldModel). 1 ≤ w.settings.margin) c.self.view_is c.invariant.ensures.margin.from)

pub returns-in_default-kept-clause-one_home : goal.returns-in_default-kept-clause-one_home
returns-in_default-kept-clause-one_home c =
    let kept : c.keep_step-kept.new.accepted ≡ c.self.inside.accepted ++ c.args.event.now ∷ [] =
    at-ok c.keep_step-kept.result _ (ap is_ok c.in_default-kept.is) c.keep_step-kept.ensures.kept in
    let uids =
    subst (λ (s : SettingsModel). HaveUids (run s c.keep_step-kept.new.accepted)) (sym c.happens.ensures.settings)
    (subst (λ (l : List Event). HaveUids (run c.self.inside.scene.settings l)) (sym kept) (next_uids c.self.inside.scene.settings c.self.inside.accepted c.args.event.now c.self.invariant.uids c.start_has_uid.ensures)) in
    one_home-of_run _ _ uids (subst (λ (s : SettingsModel). 1 ≤ s.margin) (sym c.happens.ensures.settings) c.invariant.ensures.margin.from)

pub returns-in-Err-clause-one_home : goal.returns-in-Err-clause-one_home
returns-in-Err-clause-one_home c =
    let same : c.keep_step-kept.new.accepted ≡ c.self.inside.accepted = grind (arith, common_steps) in
    let uids =
    subst (λ (s : SettingsModel). HaveUids (run s c.keep_step-kept.new.accepted)) (sym (c.clear.ensures.settings ∙ c.happens.ensures.settings))
    (subst (λ (l : List Event). HaveUids (run c.self.inside.scene.settings l)) (sym same) c.self.invariant.uids) in
    one_home-of_run _ _ uids (subst (λ (s : SettingsModel). 1 ≤ s.margin) (sym (c.clear.ensures.settings ∙ c.happens.ensures.settings)) c.invariant.ensures.margin.from)

pub returns-in-Err-NoMemory-clause-one_home : goal.returns-in-Err-NoMemory-clause-one_home
returns-in-Err-NoMemory-clause-one_home c =
    one_home-of_run _ _ (subst (λ (s : SettingsModel). HaveUids (run s c.self.inside.accepted)) (sym (c.clear-in-Err-NoMemory.ensures.settings ∙ c.happens.ensures.settings)) c.self.invariant.uids) (subst (λ (s : SettingsModel). 1 ≤ s.margin) (sym (c.clear-in-Err-NoMemory.ensures.settings ∙ c.happens.ensures.settings)) c.invariant.ensures.margin.from)

pub returns-in-Err-Invalid-clause-one_home : goal.returns-in-Err-Invalid-clause-one_home
returns-in-Err-Invalid-clause-one_home c =
    one_home-of_run _ _ (subst (λ (s : SettingsModel). HaveUids (run s c.self.inside.accepted)) (sym c.happens.ensures.settings) c.self.invariant.uids) (subst (λ (s : SettingsModel). 1 ≤ s.margin) (sym c.happens.ensures.settings) c.invariant.ensures.margin.from)

pub returns-in-Some-clause-one_node : goal.returns-in-Some-clause-one_node
returns-in-Some-clause-one_node c =
    one_node _ _ (subst (λ (w : WorldModel). HaveUids (run w.settings w.events)) c.self.view_is c.self.invariant.uids) (subst (λ (w : WorldModel). 1 ≤ w.settings.margin) c.self.view_is c.invariant.ensures.margin.from)

pub returns-in_default-kept-clause-one_node : goal.returns-in_default-kept-clause-one_node
returns-in_default-kept-clause-one_node c =
    let kept : c.keep_step-kept.new.accepted ≡ c.self.inside.accepted ++ c.args.event.now ∷ [] =
    at-ok c.keep_step-kept.result _ (ap is_ok c.in_default-kept.is) c.keep_step-kept.ensures.kept in
    let uids =
    subst (λ (s : SettingsModel). HaveUids (run s c.keep_step-kept.new.accepted)) (sym c.happens.ensures.settings)
    (subst (λ (l : List Event). HaveUids (run c.self.inside.scene.settings l)) (sym kept) (next_uids c.self.inside.scene.settings c.self.inside.accepted c.args.event.now c.self.invariant.uids c.start_has_uid.ensures)) in
    one_node _ _ uids (subst (λ (s : SettingsModel). 1 ≤ s.margin) (sym c.happens.ensures.settings) c.invariant.ensures.margin.from)

pub returns-in-Err-clause-one_node : goal.returns-in-Err-clause-one_node
returns-in-Err-clause-one_node c =
    let same : c.keep_step-kept.new.accepted ≡ c.self.inside.accepted = grind (arith, common_steps) in
    let uids =
    subst (λ (s : SettingsModel). HaveUids (run s c.keep_step-kept.new.accepted)) (sym (c.clear.ensures.settings ∙ c.happens.ensures.settings))
    (subst (λ (l : List Event). HaveUids (run c.self.inside.scene.settings l)) (sym same) c.self.invariant.uids) in
    one_node _ _ uids (subst (λ (s : SettingsModel). 1 ≤ s.margin) (sym (c.clear.ensures.settings ∙ c.happens.ensures.settings)) c.invariant.ensures.margin.from)

pub returns-in-Err-NoMemory-clause-one_node : goal.returns-in-Err-NoMemory-clause-one_node
returns-in-Err-NoMemory-clause-one_node c =
    one_node _ _ (subst (λ (s : SettingsModel). HaveUids (run s c.self.inside.accepted)) (sym (c.clear-in-Err-NoMemory.ensures.settings ∙ c.happens.ensures.settings)) c.self.invariant.uids) (subst (λ (s : SettingsModel). 1 ≤ s.margin) (sym (c.clear-in-Err-NoMemory.ensures.settings ∙ c.happens.ensures.settings)) c.invariant.ensures.margin.from)

pub returns-in-Err-Invalid-clause-one_node : goal.returns-in-Err-Invalid-clause-one_node
returns-in-Err-Invalid-clause-one_node c =
    one_node _ _ (subst (λ (s : SettingsModel). HaveUids (run s c.self.inside.accepted)) (sym c.happens.ensures.settings) c.self.invariant.uids) (subst (λ (s : SettingsModel). 1 ≤ s.margin) (sym c.happens.ensures.settings) c.invariant.ensures.margin.from)

pub returns-in-Some-clause-no_double : goal.returns-in-Some-clause-no_double
returns-in-Some-clause-no_double c =
    no_double-of_run _ _ (subst (λ (w : WorldModel). HaveUids (run w.settings w.events)) c.self.view_is c.self.invariant.uids) (subst (λ (w : WorldModel). 1 ≤ w.settings.margin) c.self.view_is c.invariant.ensures.margin.from)

pub returns-in_default-kept-clause-no_double : goal.returns-in_default-kept-clause-no_double
returns-in_default-kept-clause-no_double c =
    let kept : c.keep_step-kept.new.accepted ≡ c.self.inside.accepted ++ c.args.event.now ∷ [] =
    at-ok c.keep_step-kept.result _ (ap is_ok c.in_default-kept.is) c.keep_step-kept.ensures.kept in
    let uids =
    subst (λ (s : SettingsModel). HaveUids (run s c.keep_step-kept.new.accepted)) (sym c.happens.ensures.settings)
    (subst (λ (l : List Event). HaveUids (run c.self.inside.scene.settings l)) (sym kept) (next_uids c.self.inside.scene.settings c.self.inside.accepted c.args.event.now c.self.invariant.uids c.start_has_uid.ensures)) in
    no_double-of_run _ _ uids (subst (λ (s : SettingsModel). 1 ≤ s.margin) (sym c.happens.ensures.settings) c.invariant.ensures.margin.from)

pub returns-in-Err-clause-no_double : goal.returns-in-Err-clause-no_double
returns-in-Err-clause-no_double c =
    let same : c.keep_step-kept.new.accepted ≡ c.self.inside.accepted = grind (arith, common_steps) in
    let uids =
    subst (λ (s : SettingsModel). HaveUids (run s c.keep_step-kept.new.accepted)) (sym (c.clear.ensures.settings ∙ c.happens.ensures.settings))
    (subst (λ (l : List Event). HaveUids (run c.self.inside.scene.settings l)) (sym same) c.self.invariant.uids) in
    no_double-of_run _ _ uids (subst (λ (s : SettingsModel). 1 ≤ s.margin) (sym (c.clear.ensures.settings ∙ c.happens.ensures.settings)) c.invariant.ensures.margin.from)

pub returns-in-Err-NoMemory-clause-no_double : goal.returns-in-Err-NoMemory-clause-no_double
returns-in-Err-NoMemory-clause-no_double c =
    no_double-of_run _ _ (subst (λ (s : SettingsModel). HaveUids (run s c.self.inside.accepted)) (sym (c.clear-in-Err-NoMemory.ensures.settings ∙ c.happens.ensures.settings)) c.self.invariant.uids) (subst (λ (s : SettingsModel). 1 ≤ s.margin) (sym (c.clear-in-Err-NoMemory.ensures.settings ∙ c.happens.ensures.settings)) c.invariant.ensures.margin.from)

pub returns-in-Err-Invalid-clause-no_double : goal.returns-in-Err-Invalid-clause-no_double
returns-in-Err-Invalid-clause-no_double c =
    no_double-of_run _ _ (subst (λ (s : SettingsModel). HaveUids (run s c.self.inside.accepted)) (sym c.happens.ensures.settings) c.self.invariant.uids) (subst (λ (s : SettingsModel). 1 ≤ s.margin) (sym c.happens.ensures.settings) c.invariant.ensures.margin.from)
