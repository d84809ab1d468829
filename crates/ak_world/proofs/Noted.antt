-- What a node has noted as settled is the view of the history at its version, which the process held; and it only grows.
use Rattle.std.proofs.Common.{◌≡◌, ℕ, ◌≤◌, Bool, false, inl, inr, List, [], ◌∷◌, ◌++◌, length, take, Some, Result, Ok, Err, slice_get, slice_set, Contains, IsTrue, refl, sym, ap, ◌∙◌, subst}
use Rattle.std.proofs.lemmas.Option.{same_Some}
use Rattle.std.specs.FinMap as map
use Rattle.ak_address.specs.Unique.{UniqueModel, unique_cmp}
use Rattle.ak_address.proofs.Elements.{contains_first, contains_rest}
use Rattle.ak_clock.specs.Version.{Counts, Covers}
use Rattle.ak_clock.proofs.VersionLaws.{covers_along, covers_equal}
use Rattle.ak_member.specs.Standing.{Standings, is_gone}
use Rattle.ak_member.specs.View.{View}
use Rattle.ak_history.specs.declared.entry.Entry.{Entry}
use Rattle.ak_history.specs.History.{IsNumbered, IsBounded, view}
use Rattle.ak_history.proofs.HistoryLemmas.{bounded-prefix}
use Rattle.ak_history.proofs.ViewsMerged.{view-prefix}
use Rattle.ak_settings.specs.Settings.{SettingsModel}
use Rattle.ak_schedule.specs.declared.event.Event.{Event}
use Rattle.ak_settled.specs.Settled.{version_of, standings_of}
use Rattle.ak_settled.specs.SettledView.{NotedView}
use Rattle.ak_membership.proofs.MembershipLemmas.{waits_version, waits_standings}
use Rattle.ak_node.specs.declared.node.State.{State}
use Rattle.ak_node.specs.declared.node.NodeEvent.{NodeEvent}
use Rattle.ak_node.specs.Node.{known, me_of, started, step}
use Rattle.ak_node.specs.Change.{Notes}
use Rattle.ak_node.proofs.StepChanges.{step_changes}
use Rattle.ak_node.proofs.NodeLemmas.{step_notes}
use Rattle.ak_world.specs.declared.world.Reason.{Reason}
use Rattle.ak_world.specs.World.{WorldState, Done, empty_world, stepped, starts, happens, after, run_from, run}
use Rattle.ak_world.specs.Fold.{IsFold}
use Rattle.ak_world.specs.Held.{Held}
use Rattle.ak_world.specs.InRun.{IsSettled, HasNoted}
use Rattle.ak_world.specs.Remembered.{Remembered, holding, remembers, remembers_answer, remembered_from, nothing_remembered, remembered}
use Rattle.ak_world.proofs.FoldRuns.{IsSound, Next, happens_next, run_sound, run-append, empty_sound, one_node}
use Rattle.ak_world.proofs.HeldInOrder.{step_covers, later_take}
use Rattle.ak_world.proofs.IndexLemmas.{set_at, set_here, set_elsewhere, push_at, push_here, prefix_at}
use Rattle.ak_world.proofs.Processes.{Processes, answered_processes, processes}
use Rattle.ak_world.proofs.RememberedLemmas.{answer-world, remembered-world}
use Rattle.ak_world.proofs.SeenHeld.{remembered_held}
use Rattle.ak_world.proofs.WhatHappened.{begins, steps, nobody, IsAnswer, happened}

-- ---- what is true of the noted view of a node; where it has noted none, of the view that shows nothing
abbrev pub noted_version : State → Counts
noted_version n = version_of n.membership.settled.view

abbrev pub noted_standings : State → Standings
noted_standings n = standings_of n.membership.settled.view

pub record Settles (history : List Entry) (held : List (UniqueModel × Counts)) (n : State) : Type 0 where
  pub shown : noted_standings n ≡ (view history (noted_version n)).standings
  pub bounded : IsBounded history (noted_version n)
  pub held_it : Contains held (me_of n, noted_version n)
  pub stays : is_gone (map.get (noted_standings n) (me_of n)) ≡ false

-- later, with more entries and more that was held
module _ (old new : List Entry) (held more : List (UniqueModel × Counts)) (added : List Entry) (grown : new ≡ added ++ old) (numbered : IsNumbered new) (longer : (x : UniqueModel × Counts) → Contains held x → Contains more x) where
  settles_later : (n : State) → Settles old held n → Settles new more n
  settles_later n s = record {
    shown =
        s.shown
        ∙ ap (λ (v : View). v.standings) (sym (view-prefix added old (noted_version n) (subst IsNumbered grown numbered) s.bounded))
        ∙ ap (λ h. (view h (noted_version n)).standings) (sym grown);
    bounded = subst (λ h. IsBounded h (noted_version n)) (sym grown) (bounded-prefix added old (noted_version n) s.bounded);
    held_it = longer (me_of n, noted_version n) s.held_it;
    stays = s.stays;
  }

-- a node that has noted the same version with the same members and tombstones
settles_alike : (history : List Entry) (held : List (UniqueModel × Counts)) (n m : State) → noted_version m ≡ noted_version n → noted_standings m ≡ noted_standings n → me_of m ≡ me_of n → Settles history held n → Settles history held m
settles_alike history held n m version standings who s = record {
  shown = standings ∙ s.shown ∙ ap (λ v. (view history v).standings) (sym version);
  bounded = subst (IsBounded history) (sym version) s.bounded;
  held_it = subst (λ v. Contains held (me_of m, v)) (sym version) (subst (λ u. Contains held (u, noted_version n)) (sym who) s.held_it);
  stays = ap (λ (x : Standings). is_gone (map.get x (me_of m))) standings ∙ ap (λ u. is_gone (map.get (noted_standings n) u)) who ∙ s.stays;
}

-- a node that has noted what it knows
settles_now : (history : List Entry) (held : List (UniqueModel × Counts)) (n : State) → IsFold history (known n) → Contains held (me_of n, (known n).version)
    → noted_version n ≡ (known n).version → noted_standings n ≡ (known n).view.standings → is_gone (map.get (known n).view.standings (me_of n)) ≡ false → Settles history held n
settles_now history held n fold held_it version standings stays = record {
  shown = standings ∙ ap (λ (v : View). v.standings) fold.shown ∙ ap (λ v. (view history v).standings) (sym version);
  bounded = subst (IsBounded history) (sym version) fold.bounded;
  held_it = subst (λ v. Contains held (me_of n, v)) (sym version) held_it;
  stays = ap (λ (s : Standings). is_gone (map.get s (me_of n))) standings ∙ stays;
}

-- ---- a world
abbrev AllSettle : Remembered → Type 0
AllSettle r = (index : ℕ) (n : State) → slice_get r.world.nodes index ≡ Some n → Settles r.world.history r.held n

module _ (r : Remembered) (s : AllSettle r) where
  begun : (settings : SettingsModel) (u : UniqueModel) → Next r.world.history (starts settings u r.world).world → AllSettle (remembers (starts settings u r.world) r)
  begun settings u next =
      let n : State = started u settings in
      let now = push_here r.world.nodes n in
      subst (λ held. (j : ℕ) (m : State) → slice_get (r.world.nodes ++ n ∷ []) j ≡ Some m → Settles r.world.history held m) (sym (ap (λ o. holding o r.held) now))
      (push_at (λ j (m : State). Settles r.world.history ((u, map.empty) ∷ r.held) m) r.world.nodes n
      (λ j m is. settles_later r.world.history r.world.history r.held ((u, map.empty) ∷ r.held) [] refl next.sound.is_numbered (λ x there. contains_rest _ x r.held there) m (s j m is))
      (settles_now r.world.history ((u, map.empty) ∷ r.held) n (next.sound.each (length r.world.nodes) n now).fold (contains_first _ r.held) refl refl (ap is_gone (map.get-empty unique_cmp u))))

  module _ (e : NodeEvent) (index : ℕ) (n : State) (founded : Bool) (at : slice_get r.world.nodes index ≡ Some n) (runs : IsTrue n.runs) where
    given : Next r.world.history (stepped index (step e n) (record r.world { founded = founded })).world → AllSettle (remembers (stepped index (step e n) (record r.world { founded = founded })) r)
    given next =
        let m : State = (step e n).0 in
        let d : Done = stepped index (step e n) (record r.world { founded = founded }) in
        let held : List (UniqueModel × Counts) = (me_of m, (known m).version) ∷ r.held in
        let here = set_here r.world.nodes index n m at in
        let later = settles_later r.world.history d.world.history r.held held next.added next.grown next.sound.is_numbered (λ x there. contains_rest _ x r.held there) in
        subst (λ h. (j : ℕ) (x : State) → slice_get (slice_set r.world.nodes index m) j ≡ Some x → Settles d.world.history h x) (sym (ap (λ x. holding x r.held) here))
        (set_at (λ j (x : State). Settles d.world.history held x) r.world.nodes index m (λ j x is elsewhere. later x (s j x is))
        (by_case d held (next.sound.each index m here).fold (later n (s index n at)) (step_notes e n runs)))
      where
        by_case : (d : Done) (held : List (UniqueModel × Counts)) → IsFold d.world.history (known (step e n).0) → Settles d.world.history ((me_of (step e n).0, (known (step e n).0).version) ∷ r.held) n → Notes n (step e n).0
            → Settles d.world.history ((me_of (step e n).0, (known (step e n).0).version) ∷ r.held) (step e n).0
        by_case d held fold before (inl waits) =
            settles_alike d.world.history _ n (step e n).0
            (waits_version n.membership.settings.margin n.membership.settled (step e n).0.membership.settled waits)
            (waits_standings n.membership.settings.margin n.membership.settled (step e n).0.membership.settled waits)
            (step_changes e n runs).same_me before
        by_case d held fold before (inr now) = settles_now d.world.history _ (step e n).0 fold (contains_first _ r.held) now.version now.standings now.stays

  answered_settle : (settings : SettingsModel) (a : Result Done Reason) → IsAnswer settings r.world a → Next r.world.history (after r.world a) → AllSettle (remembers_answer r a)
  answered_settle settings (Err why) is next = s
  answered_settle settings (Ok done) is next = elim is as (λ d h. Next r.world.history d.world → AllSettle (remembers d r)) [
    | begins u unknown free listed few ↦ begun settings u
    | steps e index n founded at runs was_sent ↦ given e index n founded at runs
    | nobody ↦ λ same. s
  ] next

run_settle : (settings : SettingsModel) (r : Remembered) (events : List Event) → IsSound r.world → AllSettle r → AllSettle (remembered_from settings r events)
run_settle settings r [] sound s = s
run_settle settings r (e ∷ events) sound s =
    let next = happens_next settings e r.world sound in
    run_settle settings (remembers_answer r (happens settings e r.world)) events
    (subst IsSound (sym (answer-world r (happens settings e r.world))) next.sound)
    (answered_settle r s settings (happens settings e r.world) (happened settings r.world e) next)

-- ---- in the words of the run
pub all_settle : (settings : SettingsModel) (events : List Event) (index : ℕ) (n : State) → slice_get (run settings events).nodes index ≡ Some n → Settles (run settings events).history (remembered settings events).held n
all_settle settings events index n at =
    let is_run : (remembered settings events).world ≡ run settings events = remembered-world settings nothing_remembered events in
    subst (λ (w : WorldState). Settles w.history (remembered settings events).held n) is_run
    (run_settle settings nothing_remembered events empty_sound (λ i m none. absurd (cc)) index n (ap (λ (w : WorldState). slice_get w.nodes index) is_run ∙ at))

pub settled_is : (settings : SettingsModel) (events : List Event) (index : ℕ) (n : State) (noted : NotedView) → slice_get (run settings events).nodes index ≡ Some n → n.membership.settled.view ≡ Some noted → IsSettled settings events n noted
settled_is settings events index n noted at is =
    let s = all_settle settings events index n at in
    let version : noted_version n ≡ noted.version = ap version_of is in
    let standings : noted_standings n ≡ noted.standings = ap standings_of is in
    record {
      shown = sym standings ∙ s.shown ∙ ap (λ v. (view (run settings events).history v).standings) version;
      bounded = subst (IsBounded (run settings events).history) version s.bounded;
      held = subst (λ v. Held settings events (me_of n) v) version (remembered_held settings events (me_of n) (noted_version n) s.held_it);
      covered = subst (Covers (known n).version) version ((processes settings events).sane index n at).membership.settled_before;
      stays = ap (λ (x : Standings). is_gone (map.get x (me_of n))) (sym standings) ∙ s.stays;
    }

-- ---- it grows
-- the node that is this process has noted a version that covers this one
record Beyond (nodes : List State) (who : UniqueModel) (v : Counts) : Type 0 where
  index : ℕ
  node : State
  at : slice_get nodes index ≡ Some node
  is_who : me_of node ≡ who
  over : Covers (noted_version node) v

noted_grows : (e : NodeEvent) (n : State) → IsTrue n.runs → Covers (known n).version (noted_version n) → Covers (noted_version (step e n).0) (noted_version n)
noted_grows e n runs before = by_case (step_notes e n runs)
  where
    by_case : Notes n (step e n).0 → Covers (noted_version (step e n).0) (noted_version n)
    by_case (inl waits) = covers_equal (noted_version (step e n).0) (noted_version n) (waits_version n.membership.settings.margin n.membership.settled (step e n).0.membership.settled waits)
    by_case (inr now) = subst (λ v. Covers v (noted_version n)) (sym now.version) (covers_along (known (step e n).0).version (known n).version (noted_version n) (step_covers e n runs) before)

module _ (settings : SettingsModel) (w : WorldState) (k : Processes settings w) (who : UniqueModel) (v : Counts) (h : Beyond w.nodes who v) where
  stepped_beyond : (e : NodeEvent) (index : ℕ) (n : State) → slice_get w.nodes index ≡ Some n → IsTrue n.runs → Beyond (slice_set w.nodes index (step e n).0) who v
  stepped_beyond e index n at runs = elim (set_elsewhere w.nodes index h.index (step e n).0 h.node h.at) [
    | inl is ↦
        let node_is : h.node ≡ n = same_Some h.node n (sym h.at ∙ ap (slice_get w.nodes) is ∙ at) in
        record {
          index = index;
          node = (step e n).0;
          at = set_here w.nodes index n (step e n).0 at;
          is_who = (step_changes e n runs).same_me ∙ ap me_of (sym node_is) ∙ h.is_who;
          over = covers_along (noted_version (step e n).0) (noted_version n) v (noted_grows e n runs (k.sane index n at).membership.settled_before) (subst (λ (x : State). Covers (noted_version x) v) node_is h.over);
        }
    | inr there ↦ record { index = h.index; node = h.node; at = there; is_who = h.is_who; over = h.over }
  ]

  answered_beyond : (a : Result Done Reason) → IsAnswer settings w a → Beyond (after w a).nodes who v
  answered_beyond (Err why) is = h
  answered_beyond (Ok done) is = elim is as (λ d _. Beyond d.world.nodes who v) [
    | begins u unknown free listed few ↦ record { index = h.index; node = h.node; at = prefix_at w.nodes (started u settings ∷ []) h.index h.node h.at; is_who = h.is_who; over = h.over }
    | steps e index n founded at runs was_sent ↦ stepped_beyond e index n at runs
    | nobody ↦ h
  ]

run_beyond : (settings : SettingsModel) (w : WorldState) (events : List Event) (who : UniqueModel) (v : Counts) → Processes settings w → Beyond w.nodes who v → Beyond (run_from settings w events).nodes who v
run_beyond settings w [] who v k h = h
run_beyond settings w (e ∷ events) who v k h =
    run_beyond settings (after w (happens settings e w)) events who v
    (answered_processes settings w k (happens settings e w) (happened settings w e) (happens_next settings e w k.sound).sound)
    (answered_beyond settings w k who v h (happens settings e w) (happened settings w e))

-- of two versions that one process noted as settled, the later covers the earlier
pub noted_in_order : (settings : SettingsModel) (events : List Event) (i j : ℕ) (who : UniqueModel) (earlier later : Counts) → i ≤ j
    → HasNoted (run settings (take i events)) who earlier → HasNoted (run settings (take j events)) who later → Covers later earlier
noted_in_order settings events i j who earlier later le first second =
    let more = later_take i j events le in
    let then_world : run settings (take j events) ≡ run_from settings (run settings (take i events)) more.0 = ap (run settings) more.1 ∙ run-append settings empty_world (take i events) more.0 in
    let start : Beyond (run settings (take i events)).nodes who earlier = record {
      index = first.index;
      node = first.node;
      at = first.at;
      is_who = first.is_who;
      over = covers_equal (noted_version first.node) earlier (ap version_of first.noted_is ∙ first.version_is);
    } in
    let end : Beyond (run settings (take j events)).nodes who earlier =
    subst (λ (w : WorldState). Beyond w.nodes who earlier) (sym then_world) (run_beyond settings (run settings (take i events)) more.0 who earlier (processes settings (take i events)) start) in
    let one : end.node ≡ second.node = one_node (run settings (take j events)) (run_sound settings (take j events)) end.index second.index end.node second.node end.at second.at (end.is_who ∙ sym second.is_who) in
    subst (λ v. Covers v earlier) (ap noted_version one ∙ ap version_of second.noted_is ∙ second.version_is) end.over
