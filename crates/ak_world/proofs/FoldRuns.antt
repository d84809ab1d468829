-- Each event of a world keeps what is known in it the fold of its history, and a history only grows.
use Rattle.std.proofs.Common.{◌≡◌, ◌≢◌, ℕ, zero, suc, ◌+◌, Bool, false, if◌then◌else◌, ◌⊎◌, inl, inr, List, [], ◌∷◌, ◌++◌, length, take, slice_get, slice_set, Option, Some, None, Result, Ok, Err, IsTrue, refl, sym, ap, ◌∙◌, subst, arith, true≢false, append_assoc}
use Rattle.std.proofs.lemmas.Bool.{lt-leb}
use Rattle.std.proofs.lemmas.Option.{same_Some}
use Rattle.std.specs.List.{list_any}
use Rattle.std.specs.Ordering.{is_eq}
use Rattle.std.specs.FinMap as map
use Rattle.ak_address.specs.Unique.{UniqueModel, unique_cmp}
use Rattle.ak_member.specs.View.{empty_view, after_entry}
use Rattle.ak_address.proofs.TableLaws.{key_itself}
use Rattle.ak_clock.specs.Version.{count}
use Rattle.ak_clock.proofs.VersionLaws.{count-empty}
use Rattle.ak_settings.specs.Settings.{SettingsModel}
use Rattle.ak_schedule.specs.declared.event.Event.{Event}
use Rattle.ak_history.specs.declared.entry.Entry.{Entry}
use Rattle.ak_wire.specs.declared.envelope.Envelope.{Envelope}
use Rattle.ak_wire.specs.declared.envelope.Message.{Message}
use Rattle.ak_node.specs.declared.node.State.{State}
use Rattle.ak_node.specs.declared.node.NodeEvent.{NodeEvent}
use Rattle.ak_wire.specs.declared.action.Action.{Action}
use Rattle.ak_member.specs.declared.effect.Effect.{Effect}
use Rattle.ak_world.specs.declared.world.Reason.{Reason}
use Rattle.ak_history.specs.History.{entries_of, IsNumbered, view}
use Rattle.ak_gossip.specs.Gossip.{GossipState}
use Rattle.ak_node.specs.Node.{Outcome, known, me_of, started, step}
use Rattle.ak_node.proofs.StepChanges.{step_changes}
use Rattle.ak_world.specs.World.{WorldState, Done, empty_world, recorded, with_update, stepped, starts, is_process, happens, after, run_from, run}
use Rattle.ak_wire.specs.Wire.{sent, effects_of}
use Rattle.ak_world.specs.Fold.{IsFold, IsIn}
use Rattle.ak_world.specs.InRun.{StartedOnce}
use Rattle.ak_address.proofs.Elements.{any_there, contains_at}
use Rattle.ak_history.proofs.ViewsMerged.{view-prefix}
use Rattle.ak_world.proofs.FoldLemmas.{CarriesFold, Packets, no_packets, more_packets, Knows, Good, BringsFold, change_good}
use Rattle.ak_world.proofs.IndexLemmas.{set_at, set_back, push_at, prefix_at}
use Rattle.ak_world.proofs.WhatHappened.{WasSent, brought, begins, steps, nobody, IsAnswer, happened}

-- nothing is shown where nothing is counted
view-nothing : (history : List Entry) → IsNumbered history → empty_view ≡ view history map.empty
view-nothing [] is_numbered = refl
view-nothing (e ∷ history) is_numbered =
    let number : e.number ≡ entries_of e.author history + 1 = is_numbered.0 in
    let none = count-empty e.author in
    view-nothing history is_numbered.1
    ∙ ap (λ b. if b then after_entry e.author e.number e.effects (view history map.empty) else view history map.empty) (sym (lt-leb e.number (count map.empty e.author) (omega arith)))

-- ---- what is true of each world of a run
-- no node is this process
abbrev pub IsNew : UniqueModel → List State → Type 0
IsNew u nodes = (index : ℕ) (n : State) → slice_get nodes index ≡ Some n → me_of n ≢ u

-- The history is numbered, each node counts all of its own updates, what nodes know and packets carry is the fold, the
-- processes of different nodes differ, and a process that never started made no update.
pub record Sound (nodes : List State) (packets : List Envelope) (history : List Entry) : Type 0 where
  pub is_numbered : IsNumbered history
  pub each : (index : ℕ) (n : State) → slice_get nodes index ≡ Some n → Knows history (me_of n) (known n)
  pub apart : StartedOnce nodes
  pub fresh : (u : UniqueModel) → IsNew u nodes → entries_of u history ≡ 0
  pub carried : Packets history packets

abbrev pub IsSound : WorldState → Type 0
IsSound w = Sound w.nodes w.packets w.history

-- a process is one node
pub one_node : (w : WorldState) → IsSound w → (i j : ℕ) (n m : State) → slice_get w.nodes i ≡ Some n → slice_get w.nodes j ≡ Some m → me_of n ≡ me_of m → n ≡ m
one_node w s i j n m at also same = same_Some n m (sym at ∙ ap (slice_get w.nodes) (s.apart i j n m at also same) ∙ also)

-- a world after this history
pub record Next (history : List Entry) (w : WorldState) : Type 0 where
  pub sound : IsSound w
  pub added : List Entry
  pub grown : w.history ≡ added ++ history

stays : (w : WorldState) → IsSound w → Next w.history w
stays w s = record { sound = s; added = []; grown = refl }

carries_kept : (old new : List Entry) → ((g : GossipState) → IsFold old g → IsFold new g) → (m : Message) → CarriesFold old m → CarriesFold new m
carries_kept old new kept m fold g is = kept g (fold g is)

recorded-prefix : (author : UniqueModel) (actions : List Action) (history : List Entry) → (added : List Entry) × (recorded author actions history ≡ added ++ history)
recorded-prefix author [] history = ([], refl)
recorded-prefix author (a ∷ actions) history =
    let one = update-prefix (effects_of a) in
    let rest = recorded-prefix author actions (with_update author (effects_of a) history) in
    (rest.0 ++ one.0, rest.1 ∙ ap (λ h. rest.0 ++ h) one.1 ∙ sym (append_assoc rest.0 one.0 history))
  where
    update-prefix : (o : Option (List Effect)) → (added : List Entry) × (with_update author o history ≡ added ++ history)
    update-prefix None = ([], refl)
    update-prefix (Some effects) = (record { author = author; number = entries_of author history + 1; effects = effects } ∷ [], refl)

-- ---- a step of one node
module _ (nodes : List State) (packets : List Envelope) (history : List Entry) (s : Sound nodes packets history) (index : ℕ) (n : State) (at : slice_get nodes index ≡ Some n) (o : Outcome) (good : Good history (me_of n) o) where
  new_nodes : List State
  new_nodes = slice_set nodes index o.0

  others_know : (j : ℕ) (m : State) → slice_get nodes j ≡ Some m → j ≢ index → Knows good.later (me_of m) (known m)
  others_know j m is elsewhere =
      let k : Knows history (me_of m) (known m) = s.each j m is in
      record {
        own = k.own ∙ sym (good.others (me_of m) (λ same. elsewhere (s.apart j index m n is at same)));
        fold = good.kept (known m) k.fold;
      }

  each_knows : (j : ℕ) (m : State) → slice_get (slice_set nodes index o.0) j ≡ Some m → Knows good.later (me_of m) (known m)
  each_knows = set_at (λ j (m : State). Knows good.later (me_of m) (known m)) nodes index o.0 others_know (subst (λ u. Knows good.later u (known o.0)) (sym good.same_me) good.knows)

  old_at : (j : ℕ) (m : State) → slice_get (slice_set nodes index o.0) j ≡ Some m → (k : State) × (slice_get nodes j ≡ Some k) × (me_of k ≡ me_of m)
  old_at = set_at (λ j (m : State). (k : State) × (slice_get nodes j ≡ Some k) × (me_of k ≡ me_of m)) nodes index o.0 (λ j m is elsewhere. (m, is, refl)) (n, at, sym good.same_me)

  still_apart : (i j : ℕ) (a b : State) → slice_get (slice_set nodes index o.0) i ≡ Some a → slice_get (slice_set nodes index o.0) j ≡ Some b → me_of a ≡ me_of b → i ≡ j
  still_apart i j a b is js same =
      let x = old_at i a is in
      let y = old_at j b js in
      s.apart i j x.0 y.0 x.1 y.1 (x.2 ∙ same ∙ sym y.2)

  new_before : (u : UniqueModel) → IsNew u (slice_set nodes index o.0) → IsNew u nodes
  new_before u is_new j m is same =
      let k = set_back nodes index n o.0 at good.same_me j m is in
      is_new j k.0 k.1 (k.2 ∙ same)

  step_sound : Sound (slice_set nodes index o.0) (packets ++ sent o.1) good.later
  step_sound = record {
    is_numbered = good.numbered;
    each = each_knows;
    apart = still_apart;
    fresh = λ u is_new. let before = new_before u is_new in good.others u (λ same. before index n at (sym same)) ∙ s.fresh u before;
    carried = more_packets good.later packets (sent o.1) (record { at = λ j e is. carries_kept history good.later good.kept e.message (s.carried.at j e is) }) good.packets;
  }

  step_history : recorded (me_of o.0) o.1 history ≡ good.later
  step_history = ap (λ u. recorded u o.1 history) good.same_me ∙ good.made

step_next : (w : WorldState) (s : IsSound w) (index : ℕ) (n : State) → slice_get w.nodes index ≡ Some n → (o : Outcome) → Good w.history (me_of n) o → Next w.history (stepped index o w).world
step_next w s index n at o good =
    let prefix = recorded-prefix (me_of o.0) o.1 w.history in
    record {
      sound = subst (Sound (slice_set w.nodes index o.0) (w.packets ++ sent o.1)) (sym (step_history w.nodes w.packets w.history s index n at o good)) (step_sound w.nodes w.packets w.history s index n at o good);
      added = prefix.0;
      grown = prefix.1;
    }

-- ---- a start
pub unlike : (u : UniqueModel) (nodes : List State) → list_any (is_process u) nodes ≡ false → IsNew u nodes
unlike u nodes none index n at same = true≢false (sym (any_there (is_process u) nodes n (contains_at nodes index n at) (ap (λ k. is_eq (unique_cmp k u)) same ∙ key_itself u)) ∙ none)

module _ (nodes : List State) (packets : List Envelope) (history : List Entry) (s : Sound nodes packets history) (settings : SettingsModel) (u : UniqueModel) (is_new : IsNew u nodes) where
  old_or_new : (j : ℕ) (m : State) → slice_get (nodes ++ started u settings ∷ []) j ≡ Some m → (slice_get nodes j ≡ Some m) ⊎ ((j ≡ length nodes) × (m ≡ started u settings))
  old_or_new = push_at (λ j (m : State). (slice_get nodes j ≡ Some m) ⊎ ((j ≡ length nodes) × (m ≡ started u settings))) nodes (started u settings) (λ j m is. inl is) (inr (refl, refl))

  apart_by : (i j : ℕ) (a b : State) → (slice_get nodes i ≡ Some a) ⊎ ((i ≡ length nodes) × (a ≡ started u settings)) → (slice_get nodes j ≡ Some b) ⊎ ((j ≡ length nodes) × (b ≡ started u settings)) → me_of a ≡ me_of b → i ≡ j
  apart_by i j a b (inl is) (inl js) same = s.apart i j a b is js same
  apart_by i j a b (inl is) (inr js) same = absurd (is_new i a is (same ∙ ap me_of js.1))
  apart_by i j a b (inr is) (inl js) same = absurd (is_new j b js (sym same ∙ ap me_of is.1))
  apart_by i j a b (inr is) (inr js) same = is.0 ∙ sym js.0

  start_sound : Sound (nodes ++ started u settings ∷ []) packets history
  start_sound = record {
    is_numbered = s.is_numbered;
    each = push_at (λ j (m : State). Knows history (me_of m) (known m)) nodes (started u settings) s.each (record {
      own = count-empty u ∙ sym (s.fresh u is_new);
      fold = record {
        shown = view-nothing history s.is_numbered;
        bounded = λ v. let none = count-empty v in omega arith;
      };
    });
    apart = λ i j a b is js. apart_by i j a b (old_or_new i a is) (old_or_new j b js);
    fresh = λ v is_new_then. s.fresh v (λ j m is. is_new_then j m (prefix_at nodes (started u settings ∷ []) j m is));
    carried = s.carried;
  }

-- ---- each event
module _ (settings : SettingsModel) (w : WorldState) (s : IsSound w) where
  begun_next : (u : UniqueModel) → list_any (is_process u) w.nodes ≡ false → Next w.history (starts settings u w).world
  begun_next u unknown = record { sound = start_sound w.nodes w.packets w.history s settings u (unlike u w.nodes unknown); added = []; grown = refl }

  sent_fold : (e : NodeEvent) → WasSent w e → BringsFold w.history e
  sent_fold e was_sent g brings = let from = brought w e was_sent g brings in s.carried.at from.0 from.1 from.2 g from.3

  given_next : (e : NodeEvent) (index : ℕ) (n : State) (founded : Bool) → slice_get w.nodes index ≡ Some n → IsTrue n.runs → WasSent w e → Next w.history (stepped index (step e n) (record w { founded = founded })).world
  given_next e index n founded at runs was_sent =
      step_next (record w { founded = founded }) s index n at (step e n)
      (change_good w.history s.is_numbered e (record n { steps = n.steps + 1 }) (step e n) (sent_fold e was_sent) (s.each index n at) (step_changes e n runs))

  answered_next : (a : Result Done Reason) → IsAnswer settings w a → Next w.history (after w a)
  answered_next (Err why) is = stays w s
  answered_next (Ok done) is = elim is as (λ d h. Next w.history d.world) [
    | begins u unknown free listed few ↦ begun_next u unknown
    | steps e index n founded at runs was_sent ↦ given_next e index n founded at runs was_sent
    | nobody ↦ stays w s
  ]

pub happens_next : (settings : SettingsModel) (e : Event) (w : WorldState) (s : IsSound w) → Next w.history (after w (happens settings e w))
happens_next settings e w s = answered_next settings w s (happens settings e w) (happened settings w e)

pub run_next : (settings : SettingsModel) (w : WorldState) (events : List Event) → IsSound w → Next w.history (run_from settings w events)
run_next settings w [] s = stays w s
run_next settings w (e ∷ events) s =
    let one = happens_next settings e w s in
    let rest = run_next settings (after w (happens settings e w)) events one.sound in
    record {
      sound = rest.sound;
      added = rest.added ++ one.added;
      grown = rest.grown ∙ ap (λ h. rest.added ++ h) one.grown ∙ sym (append_assoc rest.added one.added w.history);
    }

pub empty_sound : IsSound empty_world
empty_sound = record {
  is_numbered = tt;
  each = λ index n is. absurd (cc);
  apart = λ i j n m is js same. absurd (cc);
  fresh = λ u is_new. refl;
  carried = no_packets [];
}

pub run_sound : (settings : SettingsModel) (events : List Event) → IsSound (run settings events)
run_sound settings events = (run_next settings empty_world events empty_sound).sound

-- ---- what is in a world
pub known_fold : (w : WorldState) → IsSound w → (g : GossipState) → IsIn g w → IsFold w.history g
known_fold w s g (inl there) = subst (IsFold w.history) there.3 (s.each there.0 there.1 there.2).fold
known_fold w s g (inr there) = s.carried.at there.0 there.1 there.2 g there.3

pub run_folds : (settings : SettingsModel) (events : List Event) (g : GossipState) → IsIn g (run settings events) → IsFold (run settings events).history g
run_folds settings events g is_in = known_fold (run settings events) (run_sound settings events) g is_in

pub folds-of_run : (settings : SettingsModel) (events : List Event) (w : WorldState) → w ≡ run settings events → (g : GossipState) → IsIn g w → IsFold w.history g
folds-of_run settings events w is_run g is_in = subst (λ (v : WorldState). IsIn g v → IsFold v.history g) (sym is_run) (run_folds settings events g) is_in

-- ---- two worlds of one run
pub run-append : (settings : SettingsModel) (w : WorldState) (first more : List Event) → run_from settings w (first ++ more) ≡ run_from settings (run_from settings w first) more
run-append settings w [] more = refl
run-append settings w (e ∷ first) more = run-append settings (after w (happens settings e w)) first more

later_views : (old new : WorldState) → IsSound old → Next old.history new → (g f : GossipState) → IsIn g old → IsIn f new → g.version ≡ f.version → g.view ≡ f.view
later_views old new s next g f in_old in_new same =
    let first : IsFold old.history g = known_fold old s g in_old in
    let second : IsFold new.history f = known_fold new next.sound f in_new in
    first.shown
    ∙ sym (view-prefix next.added old.history g.version (subst IsNumbered next.grown next.sound.is_numbered) first.bounded)
    ∙ ap (λ h. view h g.version) (sym next.grown)
    ∙ ap (view new.history) same
    ∙ sym second.shown

pub same_views : (settings : SettingsModel) (first more : List Event) (g f : GossipState) → IsIn g (run settings first) → IsIn f (run settings (first ++ more)) → g.version ≡ f.version → g.view ≡ f.view
same_views settings first more g f in_old in_new same =
    later_views (run settings first) (run_from settings (run settings first) more) (run_sound settings first) (run_next settings (run settings first) more (run_sound settings first)) g f in_old
    (subst (IsIn f) (run-append settings empty_world first more) in_new) same

-- of two first parts of a list one goes on from the other
one_goes_on : (i j : ℕ) (events : List Event) → ((more : List Event) × (take j events ≡ take i events ++ more)) ⊎ ((more : List Event) × (take i events ≡ take j events ++ more))
one_goes_on zero j events = inl (take j events, refl)
one_goes_on (suc i) zero events = inr (take (suc i) events, refl)
one_goes_on (suc i) (suc j) [] = inl ([], refl)
one_goes_on (suc i) (suc j) (e ∷ events) = elim (one_goes_on i j events) [
  | inl longer ↦ inl (longer.0, ap (λ (l : List Event). e ∷ l) longer.1)
  | inr shorter ↦ inr (shorter.0, ap (λ (l : List Event). e ∷ l) shorter.1)
]

-- at any two times of one run
pub views_at_times : (settings : SettingsModel) (events : List Event) (i j : ℕ) (g f : GossipState) → IsIn g (run settings (take i events)) → IsIn f (run settings (take j events))
    → g.version ≡ f.version → g.view ≡ f.view
views_at_times settings events i j g f at_i at_j same = elim (one_goes_on i j events) [
  | inl longer ↦ same_views settings (take i events) longer.0 g f at_i (subst (λ (l : List Event). IsIn f (run settings l)) longer.1 at_j) same
  | inr shorter ↦ sym (same_views settings (take j events) shorter.0 f g at_j (subst (λ (l : List Event). IsIn g (run settings l)) shorter.1 at_i) (sym same))
]
