-- In the words of the run: who is named was started, who is said to have stopped has stopped, one process runs at an address,
-- and a running node serves.
use Rattle.std.proofs.Common.{◌≡◌, ℕ, zero, suc, ◌≤◌, true, false, ◌⊎◌, inl, inr, List, [], ◌∷◌, ◌++◌, take, Some, slice_get, IsTrue, refl, sym, ap, ◌∙◌, subst, arith}
use Rattle.std.specs.FinMap as map
use Rattle.ak_address.specs.Unique.{UniqueModel}
use Rattle.ak_address.specs.Uniques.{has}
use Rattle.ak_clock.specs.Version.{Counts, count}
use Rattle.ak_clock.proofs.VersionLaws.{covers_equal}
use Rattle.ak_member.specs.declared.effect.Effect.TheVariants.{Joined, Rise, Removed, Observed}
use Rattle.ak_member.specs.Standing.{Standings, tombstone_of}
use Rattle.ak_member.specs.View.{View, Row}
use Rattle.ak_gossip.specs.Gossip.{GossipState, is_known}
use Rattle.ak_history.specs.History.{entries_of, view}
use Rattle.ak_history.specs.Shown.{IsNamed, IsRemoved}
use Rattle.ak_history.proofs.RowsShown.{row_shown}
use Rattle.ak_settings.specs.Settings.{SettingsModel, is_listed}
use Rattle.ak_schedule.specs.declared.event.Event.{Event}
use Rattle.ak_settled.specs.SettledView.{NotedView}
use Rattle.ak_node.specs.declared.node.State.{State}
use Rattle.ak_node.specs.Node.{known}
use Rattle.ak_node.proofs.NodeLemmas.{serves}
use Rattle.ak_world.specs.World.{WorldState, empty_world, run_from, run}
use Rattle.ak_world.specs.Fold.{IsIn}
use Rattle.ak_world.specs.Held.{Held}
use Rattle.ak_world.specs.InRun.{WasStarted, HasStopped, AllServe, RunAlone, IsShown, in_gossip, as_settled, IsConfirmed, buried, heard, said, IsNamedIn, stands, counted, sees, observed, heard_of, sends, writes, written, IsSettled}
use Rattle.ak_world.proofs.FoldRuns.{run_folds, run-append}
use Rattle.ak_world.proofs.HeldInOrder.{Over, run_over}
use Rattle.ak_world.proofs.Naming.{known_named, confirmed_did, has_written, subjects_in}
use Rattle.ak_world.proofs.Noted.{settled_is}
use Rattle.ak_world.proofs.Processes.{IsThere, processes}
use Rattle.ak_world.proofs.SeenHeld.{seen_held}

-- a list is one of its first parts and the rest
pub take_rest : (time : ℕ) (events : List Event) → (more : List Event) × (events ≡ take time events ++ more)
take_rest zero events = (events, refl)
take_rest (suc time) [] = ([], refl)
take_rest (suc time) (e ∷ events) = let h = take_rest time events in (h.0, ap (λ (l : List Event). e ∷ l) h.1)

module _ (settings : SettingsModel) (events : List Event) where
  abbrev world : WorldState
  world = run settings events

  pub all_serve : AllServe world
  all_serve index n at = let s = (processes settings events).sane index n at in serves n s.membership.itself s.is_node

  pub run_alone : RunAlone world
  run_alone = (processes settings events).alone

  -- whoever held a version is a node still
  held_there : (who : UniqueModel) (v : Counts) → Held settings events who v → IsThere world.nodes who
  held_there who v h =
      let rest = take_rest h.time events in
      let before : WorldState = run settings (take h.time events) in
      let there : Over before.nodes who v = record { index = h.holds.index; node = h.holds.node; at = h.holds.at; is_who = h.holds.is_who; over = covers_equal (known h.holds.node).version v h.holds.version_is } in
      let then_world : world ≡ run_from settings before rest.0 = ap (run settings) rest.1 ∙ run-append settings empty_world (take h.time events) rest.0 in
      let over : Over world.nodes who v = subst (λ (w : WorldState). Over w.nodes who v) (sym then_world) (run_over settings before rest.0 who v there) in
      record { index = over.index; node = over.node; at = over.at; is_who = over.is_who }

  -- what stands in a world is what some version shows
  shown_is : (s : Standings) → IsShown world s → (v : Counts) × (s ≡ (view world.history v).standings)
  shown_is s is = elim is as (λ t _. (v : Counts) × (t ≡ (view world.history v).standings)) [
    | in_gossip g is_in ↦ (g.version, ap (λ (v : View). v.standings) (run_folds settings events g is_in).shown)
    | as_settled index n noted at noted_is ↦ (noted.version, (settled_is settings events index n noted at noted_is).shown)
  ]

  -- ---- who is said to have stopped has stopped
  pub confirmed_stopped : (who : UniqueModel) → IsConfirmed world who → HasStopped world.nodes who
  confirmed_stopped who is = elim is [
    | buried s shown is_buried ↦
        let v = shown_is s shown in
        let did = confirmed_did world.history v.0 who (ap (λ (t : Standings). tombstone_of (map.get t who)) (sym v.1) ∙ is_buried) in
        (processes settings events).removed did.entry who did.in_history did.does
    | heard index n at has_it ↦ (processes settings events).heard index n who at has_it
    | said p there says from ↦ subst (HasStopped world.nodes) from ((processes settings events).said p there says)
  ]

  -- ---- who is named was started
  stopped_there : (who : UniqueModel) → HasStopped world.nodes who → IsThere world.nodes who
  stopped_there who s = record { index = s.index; node = s.node; at = s.at; is_who = s.is_who }

  standing_there : (v : Counts) (who : UniqueModel) → IsTrue (is_known (view world.history v).standings who) → IsThere world.nodes who
  standing_there v who is = by_entry (known_named world.history v who is)
    where
      by_entry : IsNamed world.history v who ⊎ IsRemoved world.history v who → IsThere world.nodes who
      by_entry (inl (inl d)) = (processes settings events).written d.entry (Joined who) who d.in_history d.does refl
      by_entry (inl (inr rose)) = (processes settings events).written rose.2.entry (Rise who rose.0 rose.1) who rose.2.in_history rose.2.does refl
      by_entry (inr (inl d)) = (processes settings events).written d.entry (Removed who true) who d.in_history d.does refl
      by_entry (inr (inr d)) = (processes settings events).written d.entry (Removed who false) who d.in_history d.does refl

  counted_there : (g : GossipState) → IsIn g world → (who : UniqueModel) → 1 ≤ count g.version who → IsThere world.nodes who
  counted_there g is_in who some =
      let most : count g.version who ≤ entries_of who world.history = (run_folds settings events g is_in).bounded who in
      let wrote = has_written world.history who (omega arith) in
      subst (IsThere world.nodes) wrote.2 ((processes settings events).authors wrote.0 wrote.1)

  row_there : (g : GossipState) → IsIn g world → (observer : UniqueModel) (row : Row) → map.get g.view.rows observer ≡ Some row → (who : UniqueModel) → (observer ≡ who) ⊎ IsTrue (has row.subjects who) → IsThere world.nodes who
  row_there g is_in observer row at who in_row =
      let k = processes settings events in
      let last = row_shown world.history g.version observer row k.sound.is_numbered (ap (λ (v : View). map.get v.rows observer) (sym (run_folds settings events g is_in).shown) ∙ at) in
      elim in_row [
        | inl is ↦ subst (IsThere world.nodes) (last.author ∙ is) (k.authors last.entry last.in_history)
        | inr subject ↦ k.written last.entry (Observed row.subjects) who last.in_history (subjects_in last.entry.effects row.subjects last.subjects) subject
      ]

  named_there : (who : UniqueModel) → IsNamedIn world who → IsThere world.nodes who
  named_there who is = elim is [
    | stands s shown is_there ↦ let v = shown_is s shown in standing_there v.0 who (ap (λ (t : Standings). is_known t who) (sym v.1) ∙ is_there)
    | counted g is_in some ↦ counted_there g is_in who some
    | sees g is_in seen ↦ held_there who g.version (seen_held settings events g is_in who seen)
    | observed g is_in observer row at in_row ↦ row_there g is_in observer row at who in_row
    | heard_of index n at has_it ↦ stopped_there who ((processes settings events).heard index n who at has_it)
    | sends p there from ↦ subst (IsThere world.nodes) from ((processes settings events).senders p there)
    | writes entry there author ↦ subst (IsThere world.nodes) author ((processes settings events).authors entry there)
    | written entry effect there in_it names ↦ (processes settings events).written entry effect who there in_it names
  ]

  pub named_started : (who : UniqueModel) → IsNamedIn world who → WasStarted settings world.nodes who
  named_started who is =
      let s = named_there who is in
      record {
        index = s.index;
        node = s.node;
        at = s.at;
        is_who = s.is_who;
        listed = ap (λ (u : UniqueModel). is_listed settings.listed u.address) (sym s.is_who) ∙ ((processes settings events).sane s.index s.node s.at).listed;
      }

-- ---- the same of a world that is the run
module _ (settings : SettingsModel) (events : List Event) (w : WorldState) (is_run : w ≡ run settings events) where
  pub serve-of_run : AllServe w
  serve-of_run = subst AllServe (sym is_run) (all_serve settings events)

  pub alone-of_run : RunAlone w
  alone-of_run = subst RunAlone (sym is_run) (run_alone settings events)

  pub confirmed-of_run : (who : UniqueModel) → IsConfirmed w who → HasStopped w.nodes who
  confirmed-of_run = subst (λ (v : WorldState). (who : UniqueModel) → IsConfirmed v who → HasStopped v.nodes who) (sym is_run) (confirmed_stopped settings events)

  pub started-of_run : (who : UniqueModel) → IsNamedIn w who → WasStarted settings w.nodes who
  started-of_run = subst (λ (v : WorldState). (who : UniqueModel) → IsNamedIn v who → WasStarted settings v.nodes who) (sym is_run) (named_started settings events)

  pub settled-of_run : (index : ℕ) (n : State) (noted : NotedView) → slice_get w.nodes index ≡ Some n → n.membership.settled.view ≡ Some noted → IsSettled settings events n noted
  settled-of_run = subst (λ (v : WorldState). (index : ℕ) (n : State) (noted : NotedView) → slice_get v.nodes index ≡ Some n → n.membership.settled.view ≡ Some noted → IsSettled settings events n noted) (sym is_run) (settled_is settings events)
