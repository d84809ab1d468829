-- In the words of the run: settled versions are in line, and what a node has noted as settled was settled.
use Rattle.std.proofs.Common.{◌≡◌, ℕ, ◌*◌, ◌<◌, inl, inr, List, [], ◌∷◌, ◌++◌, length, take, Some, None, is_some, Result, Ok, Err, slice_get, IsTrue, refl, sym, ap, ◌∙◌, subst, arith, true≢false, append_assoc}
use Rattle.ak_address.specs.Distinct.{distinct}
use Rattle.ak_clock.specs.Version.{Counts}
use Rattle.ak_converge.specs.Convergence.{is_settled}
use Rattle.ak_schedule.specs.declared.event.Event.{Event}
use Rattle.ak_settings.specs.Settings.{SettingsModel, settling_size}
use Rattle.ak_settled.specs.Settled.{version_of, ticked}
use Rattle.ak_settled.specs.SettledView.{SettledView, SettledModel, NotedView}
use Rattle.ak_node.specs.declared.node.State.{State}
use Rattle.ak_node.specs.declared.node.NodeEvent.{NodeEvent}
use Rattle.ak_node.specs.Node.{known, started, step}
use Rattle.ak_node.specs.Change.{Notes}
use Rattle.ak_node.proofs.NodeLemmas.{step_notes}
use Rattle.ak_world.specs.declared.world.Reason.{Reason}
use Rattle.ak_world.specs.World.{WorldState, Done, empty_world, happens, after, run_from, run}
use Rattle.ak_world.specs.Remembered.{Remembered, nothing_remembered, remembered}
use Rattle.ak_world.specs.SettledLine.{WasSettled, IsOverHalf, AreInLine}
use Rattle.ak_world.proofs.Agreed.{IsAgreed, settled_agreed}
use Rattle.ak_world.proofs.ByStart.{ByStart}
use Rattle.ak_world.proofs.IndexLemmas.{set_at, set_here, push_at}
use Rattle.ak_world.proofs.InLine.{distinct-length, agreed_comparable}
use Rattle.ak_world.proofs.InRunLemmas.{take_rest}
use Rattle.ak_world.proofs.RaisedFor.{Raised}
use Rattle.ak_world.proofs.RaisedRuns.{raised, agreed_later}
use Rattle.ak_world.proofs.RememberedLemmas.{remembered-world}
use Rattle.ak_world.proofs.SeenHeld.{take_first, no_more}
use Rattle.ak_world.proofs.WhatHappened.{begins, steps, nobody, IsAnswer, happened}
use Rattle.ak_world.proofs.WorldLemmas.{run-push}

-- ---- the same with the events in two parts
pub record SettledIn (settings : SettingsModel) (events : List Event) (quorum : ℕ) (version : Counts) : Type 0 where
  pub first : List Event
  pub more : List Event
  pub parts : events ≡ first ++ more
  pub index : ℕ
  pub node : State
  pub at : slice_get (run settings first).nodes index ≡ Some node
  pub runs : IsTrue node.runs
  pub settled : IsTrue (is_settled quorum settings.role (known node).view (known node).seen)
  pub version_is : (known node).version ≡ version

module _ (settings : SettingsModel) (quorum : ℕ) (v : Counts) where
  pub in_parts : (events : List Event) → WasSettled settings events quorum v → SettledIn settings events quorum v
  in_parts events s =
      let rest = take_rest s.time events in
      record { first = take s.time events; more = rest.0; parts = rest.1; index = s.index; node = s.node; at = s.at; runs = s.runs; settled = s.settled; version_is = s.version_is }

  at_time : (events : List Event) → SettledIn settings events quorum v → WasSettled settings events quorum v
  at_time events s = record {
    time = length s.first;
    index = s.index;
    node = s.node;
    at = subst (λ (l : List Event). slice_get (run settings l).nodes s.index ≡ Some s.node) (sym (ap (take (length s.first)) s.parts ∙ take_first s.first s.more)) s.at;
    runs = s.runs;
    settled = s.settled;
    version_is = s.version_is;
  }

  with_more : (events more : List Event) → SettledIn settings events quorum v → SettledIn settings (events ++ more) quorum v
  with_more events more s = record {
    first = s.first;
    more = s.more ++ more;
    parts = ap (λ (l : List Event). l ++ more) s.parts ∙ append_assoc s.first s.more more;
    index = s.index;
    node = s.node;
    at = s.at;
    runs = s.runs;
    settled = s.settled;
    version_is = s.version_is;
  }

  -- what was settled stays so
  pub settled_later : (events more : List Event) → WasSettled settings events quorum v → WasSettled settings (events ++ more) quorum v
  settled_later events more s = at_time (events ++ more) (with_more events more (in_parts events s))

-- ---- a settled version is agreed at the end
pub was_agreed : (settings : SettingsModel) (events : List Event) (v : Counts) → WasSettled settings events (settling_size settings.strategy) v → IsAgreed (remembered settings events) (settling_size settings.strategy) settings.role v
was_agreed settings events v s =
    let past : List Event = take s.time events in
    let rest = take_rest s.time events in
    let r : Remembered = remembered settings past in
    let k : Raised settings r = raised settings past in
    let at : slice_get r.world.nodes s.index ≡ Some s.node = ap (λ (w : WorldState). slice_get w.nodes s.index) (remembered-world settings nothing_remembered past) ∙ s.at in
    let now : IsAgreed r (settling_size settings.strategy) settings.role (known s.node).version =
    settled_agreed r (settling_size settings.strategy) settings.role (known s.node) (k.basis.processes.sound.each s.index s.node at).fold (k.basis.closing.at_nodes s.index s.node at) (k.basis.seeing.at_nodes s.index s.node at) s.settled in
    subst (λ (l : List Event). IsAgreed (remembered settings l) (settling_size settings.strategy) settings.role v) (sym rest.1)
    (agreed_later settings past rest.0 (settling_size settings.strategy) settings.role v (subst (IsAgreed r (settling_size settings.strategy) settings.role) s.version_is now))

-- ---- any two settled versions are comparable
pub in_line : (settings : SettingsModel) (events : List Event) (quorum : ℕ) → IsOverHalf settings quorum → AreInLine settings events quorum
in_line settings events quorum (is, over_half) one other settled_one settled_other =
    let size_is : quorum ≡ settling_size settings.strategy = sym (ap settling_size is) in
    let most = distinct-length settings.role in
    let few : distinct settings.role < 2 * settling_size settings.strategy = subst (λ q. distinct settings.role < 2 * q) size_is (omega (arith, most, over_half)) in
    let agreed : (v : Counts) → WasSettled settings events quorum v → IsAgreed (remembered settings events) (settling_size settings.strategy) settings.role v =
    λ v s. was_agreed settings events v (subst (λ q. WasSettled settings events q v) size_is s) in
    agreed_comparable settings (remembered settings events) (raised settings events) few one other (agreed one settled_one) (agreed other settled_other)

-- ---- what a node has noted was settled
run_by_start : (settings : SettingsModel) (events : List Event) → ByStart settings (run settings events).nodes
run_by_start settings events = subst (λ (w : WorldState). ByStart settings w.nodes) (remembered-world settings nothing_remembered events) (raised settings events).basis.by_start

-- a node has noted only what was settled
abbrev NotesSettled : SettingsModel → List Event → State → Type 0
NotesSettled settings events n = (noted : NotedView) → n.membership.settled.view ≡ Some noted → SettledIn settings events (settling_size settings.strategy) noted.version

abbrev AllNoteSettled : SettingsModel → List Event → WorldState → Type 0
AllNoteSettled settings events w = (index : ℕ) (n : State) → slice_get w.nodes index ≡ Some n → NotesSettled settings events n

module _ (settings : SettingsModel) (past : List Event) (event : Event) where
  abbrev now : List Event
  now = past ++ event ∷ []

  abbrev size : ℕ
  size = settling_size settings.strategy

  still : (n : State) → NotesSettled settings past n → NotesSettled settings now n
  still n s noted is = with_more settings size noted.version past (event ∷ []) (s noted is)

  given : (w : WorldState) (e : NodeEvent) (index : ℕ) (n : State) → slice_get w.nodes index ≡ Some n → IsTrue n.runs → NotesSettled settings past n
      → slice_get (run settings now).nodes index ≡ Some (step e n).0 → NotesSettled settings now (step e n).0
  given w e index n at runs before here noted is = by_case (step_notes e n runs)
    where
      -- where its tombstones wait for a tick more, it is the same view
      by_view : (v : SettledView) → n.membership.settled.view ≡ v → ticked n.membership.settings.margin v ≡ Some noted → SettledIn settings now size noted.version
      by_view None at none = absurd (true≢false (sym (ap is_some none)))
      by_view (Some old) at waits = subst (SettledIn settings now size) (ap version_of waits) (still n before old at)

      by_case : Notes n (step e n).0 → SettledIn settings now size noted.version
      by_case (inl (inl same)) = still n before noted (ap (λ (s : SettledModel). s.view) (sym same) ∙ is)
      by_case (inl (inr later)) = by_view n.membership.settled.view refl (ap (λ (s : SettledModel). s.view) (sym later) ∙ is)
      by_case (inr new) = record {
        first = now;
        more = [];
        parts = sym (no_more now);
        index = index;
        node = (step e n).0;
        at = here;
        runs = new.runs;
        settled = ap (λ (x : SettingsModel). is_settled (settling_size x.strategy) x.role (known (step e n).0).view (known (step e n).0).seen) (sym ((run_by_start settings now).same_settings index (step e n).0 here)) ∙ new.settled;
        version_is = sym new.version ∙ ap version_of is;
      }

  answered_note : (w : WorldState) → AllNoteSettled settings past w → (a : Result Done Reason) → IsAnswer settings w a → after w a ≡ run settings now → AllNoteSettled settings now (after w a)
  answered_note w all (Err why) is is_run = λ index n at. still n (all index n at)
  answered_note w all (Ok done) is is_run = elim is as (λ d h. d.world ≡ run settings now → AllNoteSettled settings now d.world) [
    | begins u unknown free listed few ↦ λ world_is.
        push_at (λ j m. NotesSettled settings now m) w.nodes (started u settings) (λ j m at. still m (all j m at)) (λ noted none. absurd (true≢false (sym (ap is_some none))))
    | steps e index n founded at runs was_sent ↦ λ world_is.
        set_at (λ j m. NotesSettled settings now m) w.nodes index (step e n).0 (λ j m at elsewhere. still m (all j m at))
        (given w e index n at runs (all index n at) (ap (λ (x : WorldState). slice_get x.nodes index) (sym world_is) ∙ set_here w.nodes index n (step e n).0 at))
    | nobody ↦ λ world_is j m at. still m (all j m at)
  ] is_run

all_note : (settings : SettingsModel) (past : List Event) (w : WorldState) (events : List Event) → w ≡ run settings past → AllNoteSettled settings past w → AllNoteSettled settings (past ++ events) (run_from settings w events)
all_note settings past w [] is_run all = subst (λ (l : List Event). AllNoteSettled settings l w) (sym (no_more past)) all
all_note settings past w (e ∷ events) is_run all =
    let next : WorldState = after w (happens settings e w) in
    let next_is : next ≡ run settings (past ++ e ∷ []) = ap (λ (x : WorldState). after x (happens settings e x)) is_run ∙ sym (run-push settings empty_world past e) in
    subst (λ (l : List Event). AllNoteSettled settings l (run_from settings next events)) (append_assoc past (e ∷ []) events)
    (all_note settings (past ++ e ∷ []) next events next_is (answered_note settings past e w all (happens settings e w) (happened settings w e) next_is))

pub noted_was_settled : (settings : SettingsModel) (events : List Event) (index : ℕ) (n : State) (noted : NotedView) → slice_get (run settings events).nodes index ≡ Some n → n.membership.settled.view ≡ Some noted
    → WasSettled settings events (settling_size settings.strategy) noted.version
noted_was_settled settings events index n noted at is =
    at_time settings (settling_size settings.strategy) noted.version events (all_note settings [] empty_world events refl (λ i m none. absurd (cc)) index n at noted is)

pub noted-of_run : (settings : SettingsModel) (events : List Event) (w : WorldState) → w ≡ run settings events → (index : ℕ) (n : State) (noted : NotedView) → slice_get w.nodes index ≡ Some n → n.membership.settled.view ≡ Some noted
    → WasSettled settings events (settling_size settings.strategy) noted.version
noted-of_run settings events w is_run index n noted at = noted_was_settled settings events index n noted (ap (λ (x : WorldState). slice_get x.nodes index) (sym is_run) ∙ at)
