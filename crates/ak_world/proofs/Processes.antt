-- Who is named was started, who is said to have stopped has stopped, at one address at most one process runs, and a running
-- node serves: in each world of a run.
use Rattle.std.proofs.Common.{◌≡◌, ℕ, Bool, true, false, ◌&&◌, ◌⊎◌, inl, inr, List, [], ◌∷◌, ◌++◌, length, Some, Result, Ok, Err, slice_get, slice_set, Contains, IsTrue, refl, sym, ap, ◌∙◌, subst, true≢false}
use Rattle.std.proofs.lemmas.Option.{same_Some}
use Rattle.std.proofs.lemmas.Cmp.{tied_itself}
use Rattle.std.specs.List.{list_any}
use Rattle.std.specs.Ordering.{is_eq}
use Rattle.ak_address.specs.Unique.{UniqueModel, address_cmp}
use Rattle.ak_address.specs.Uniques.{UniqueSet, has}
use Rattle.ak_address.proofs.Elements.{first_or_rest, contains_nothing, contains_either, any_there, contains_at}
use Rattle.ak_address.proofs.OrderLemmas.{address_total}
use Rattle.ak_address.proofs.UniquesLaws.{has-no_one}
use Rattle.ak_clock.specs.Version.{Covers}
use Rattle.ak_clock.proofs.VersionLaws.{covers_along, covers_equal}
use Rattle.ak_member.specs.declared.effect.Effect.{Effect}
use Rattle.ak_member.specs.declared.effect.Effect.TheVariants.{Joined, Rise, Removed, Observed}
use Rattle.ak_member.specs.Standing as standing
use Rattle.ak_member.specs.View.{View}
use Rattle.ak_history.specs.declared.entry.Entry.{Entry}
use Rattle.ak_history.specs.Shown.{IsNamed}
use Rattle.ak_settings.specs.Settings.{SettingsModel, is_listed}
use Rattle.ak_schedule.specs.declared.event.Event.{Event}
use Rattle.ak_membership.specs.MembershipContracts.{IsMembership}
use Rattle.ak_membership.specs.Knowledge.{Knowledge, Keeps, Updates, Accepts, made_by, HasMember, IsCause, IsLawful}
use Rattle.ak_membership.proofs.MembershipLemmas.{starts_as_membership, waits_version}
use Rattle.ak_settled.specs.Settled.{version_of}
use Rattle.ak_wire.specs.declared.envelope.Envelope.{Envelope}
use Rattle.ak_wire.specs.Wire.{sent, says_it_stops}
use Rattle.ak_node.specs.declared.node.State.{State}
use Rattle.ak_node.specs.declared.node.NodeEvent.{NodeEvent}
use Rattle.ak_node.specs.declared.node.NodeEvent.TheVariants as event
use Rattle.ak_node.specs.Node.{Outcome, known, me_of, started, step}
use Rattle.ak_node.specs.NodeContracts.{IsNode}
use Rattle.ak_node.specs.Change.{given_by, Notes}
use Rattle.ak_node.proofs.SilentMembers.{silent_member}
use Rattle.ak_node.proofs.StepChanges.{step_changes}
use Rattle.ak_node.proofs.NodeLemmas.{step_itself, step_keeps_node, step_notes, starts_as_node}
use Rattle.ak_world.specs.declared.world.Reason.{Reason}
use Rattle.ak_world.specs.World.{WorldState, Done, empty_world, recorded, stepped, starts, is_process, runs_at, is_in_use, happens, after, run_from, run}
use Rattle.ak_world.specs.InRun.{HasStopped, RunAlone, Names}
use Rattle.ak_world.proofs.FoldLemmas.{after_updates, from_updates}
use Rattle.ak_world.proofs.FoldRuns.{IsSound, empty_sound, happens_next}
use Rattle.ak_world.proofs.HeldInOrder.{step_covers}
use Rattle.ak_world.proofs.IndexLemmas.{set_at, set_back, set_here, set_or, set_elsewhere, push_at, prefix_at}
use Rattle.ak_world.proofs.Naming.{member_named}
use Rattle.ak_world.proofs.WhatHappened.{WasSent, asked, begins, steps, nobody, IsAnswer, happened}

-- a process is a node
pub record IsThere (nodes : List State) (who : UniqueModel) : Type 0 where
  pub index : ℕ
  pub node : State
  pub at : slice_get nodes index ≡ Some node
  pub is_who : me_of node ≡ who

-- what is true of each node
pub record Sane (settings : SettingsModel) (n : State) : Type 0 where
  pub listed : is_listed settings.listed (me_of n).address ≡ true
  pub membership : IsMembership n.membership
  pub is_node : IsNode n

pub record Processes (settings : SettingsModel) (w : WorldState) : Type 0 where
  pub sound : IsSound w
  pub sane : (index : ℕ) (n : State) → slice_get w.nodes index ≡ Some n → Sane settings n
  pub alone : RunAlone w
  pub authors : (entry : Entry) → Contains w.history entry → IsThere w.nodes entry.author
  pub written : (entry : Entry) (x : Effect) (who : UniqueModel) → Contains w.history entry → Contains entry.effects x → Names x who → IsThere w.nodes who
  pub senders : (p : Envelope) → Contains w.packets p → IsThere w.nodes p.from
  pub said : (p : Envelope) → Contains w.packets p → IsTrue (says_it_stops p.message) → HasStopped w.nodes p.from
  pub heard : (index : ℕ) (n : State) (who : UniqueModel) → slice_get w.nodes index ≡ Some n → IsTrue (has n.membership.confirmed who) → HasStopped w.nodes who
  pub removed : (entry : Entry) (who : UniqueModel) → Contains w.history entry → Contains entry.effects (Removed who true) → HasStopped w.nodes who

-- an entry after a change is an old one, or the update
record IsUpdate (me : UniqueModel) (k : Knowledge) (entry : Entry) : Type 0 where
  updates : k ≡ Updates entry.effects
  author : entry.author ≡ me

old_or_made : (me : UniqueModel) (history : List Entry) (k : Knowledge) (entry : Entry) → Contains (after_updates me (made_by k) history) entry → Contains history entry ⊎ IsUpdate me k entry
old_or_made me history Keeps entry there = inl there
old_or_made me history (Updates effects) entry there = elim (first_or_rest _ entry history there) [
  | inl is ↦ inr (record { updates = ap (λ (x : Entry). Updates x.effects) (sym is); author = ap (λ (x : Entry). x.author) is })
  | inr old ↦ inl old
]
old_or_made me history (Accepts g) entry there = inl there

-- what a node knows covers what it has noted as settled
noted_covered : (e : NodeEvent) (n : State) → IsTrue n.runs → Covers (known n).version (version_of n.membership.settled.view) → Covers (known (step e n).0).version (version_of (step e n).0.membership.settled.view)
noted_covered e n runs before = by_case (step_notes e n runs)
  where
    by_case : Notes n (step e n).0 → Covers (known (step e n).0).version (version_of (step e n).0.membership.settled.view)
    by_case (inl waits) =
        subst (Covers (known (step e n).0).version) (sym (waits_version n.membership.settings.margin n.membership.settled (step e n).0.membership.settled waits))
        (covers_along (known (step e n).0).version (known n).version (version_of n.membership.settled.view) (step_covers e n runs) before)
    by_case (inr now) = covers_equal (known (step e n).0).version (version_of (step e n).0.membership.settled.view) (sym now.version)

pub or_not : (b : Bool) → (IsTrue b → ⊥) → b ≡ false
or_not true never = absurd (never refl)
or_not false never = refl

module _ (settings : SettingsModel) (w : WorldState) (k : Processes settings w) where
  -- a member of a node's view is a node
  member_there : (index : ℕ) (n : State) → slice_get w.nodes index ≡ Some n → (who : UniqueModel) → HasMember n.membership who → IsThere w.nodes who
  member_there index n at who is =
      by_entry (member_named w.history (known n).version who (ap (λ (v : View). standing.is_member v.standings who) (sym (k.sound.each index n at).fold.shown) ∙ is))
    where
      by_entry : IsNamed w.history (known n).version who → IsThere w.nodes who
      by_entry (inl joined) = k.written joined.entry (Joined who) who joined.in_history joined.does refl
      by_entry (inr rose) = k.written rose.2.entry (Rise who rose.0 rose.1) who rose.2.in_history rose.2.does refl

  -- ---- a step of one node
  module _ (e : NodeEvent) (index : ℕ) (n : State) (founded : Bool) (at : slice_get w.nodes index ≡ Some n) (runs : IsTrue n.runs) (was_sent : WasSent w e) where
    abbrev o : Outcome
    o = step e n

    abbrev nodes_then : List State
    nodes_then = slice_set w.nodes index o.0

    still_there : (who : UniqueModel) → IsThere w.nodes who → IsThere nodes_then who
    still_there who s =
        let b = set_back w.nodes index n o.0 at (step_changes e n runs).same_me s.index s.node s.at in
        record { index = s.index; node = b.0; at = b.1; is_who = b.2 ∙ s.is_who }

    still_stopped : (who : UniqueModel) → HasStopped w.nodes who → HasStopped nodes_then who
    still_stopped who s = elim (set_elsewhere w.nodes index s.index o.0 s.node s.at) [
      | inl same ↦ absurd (true≢false (sym runs ∙ ap (λ (x : State). x.runs) (same_Some n s.node (sym at ∙ ap (slice_get w.nodes) (sym same) ∙ s.at)) ∙ s.stopped))
      | inr there ↦ record { index = s.index; node = s.node; at = there; is_who = s.is_who; stopped = s.stopped }
    ]

    me_there : IsThere w.nodes (me_of n)
    me_there = record { index = index; node = n; at = at; is_who = refl }

    -- whom an effect with a cause names is a node
    cause_there : (effects : List Effect) (x : Effect) (who : UniqueModel) → IsCause (given_by e) n.membership effects x → Names x who → IsThere w.nodes who
    cause_there effects (Joined u) who (inl mine) is = subst (IsThere w.nodes) (sym mine.1 ∙ is) me_there
    cause_there effects (Joined u) who (inr asks) is = let from = asked w e was_sent u asks.1 in subst (IsThere w.nodes) (from.2 ∙ is) (k.senders from.0 from.1)
    cause_there effects (Rise u status number) who cause is = subst (IsThere w.nodes) is (member_there index n at u cause.0)
    cause_there effects (Removed u confirmed) who cause is = subst (IsThere w.nodes) is (member_there index n at u cause.0)
    cause_there effects (Observed subjects) who cause is = member_there index n at who (silent_member n (k.sane index n at).is_node who (ap (λ (s : UniqueSet). has s who) (sym cause) ∙ is))

    -- an entry after the step
    in_history_then : (entry : Entry) → Contains (recorded (me_of o.0) o.1 w.history) entry → Contains w.history entry ⊎ IsUpdate (me_of n) (step_changes e n runs).knowledge entry
    in_history_then entry there =
        let c = step_changes e n runs in
        old_or_made (me_of n) w.history c.knowledge entry
        (subst (λ h. Contains h entry) (ap (λ u. recorded u o.1 w.history) c.same_me ∙ from_updates (me_of n) o.1 w.history ∙ ap (λ l. after_updates (me_of n) l w.history) c.made) there)

    cause_of : (entry : Entry) → IsUpdate (me_of n) (step_changes e n runs).knowledge entry → (x : Effect) → Contains entry.effects x → IsCause (given_by e) n.membership entry.effects x
    cause_of entry is = (subst (IsLawful (given_by e) n.membership) is.updates (step_changes e n runs).lawful).1

    sane_then : Sane settings o.0
    sane_then =
        let s = k.sane index n at in
        record {
          listed = ap (λ (u : UniqueModel). is_listed settings.listed u.address) (step_changes e n runs).same_me ∙ s.listed;
          membership = record { itself = step_itself e n runs s.membership.itself; settled_before = noted_covered e n runs s.membership.settled_before };
          is_node = step_keeps_node e n o.0 s.is_node refl;
        }

    heard_then : (who : UniqueModel) → IsTrue (has o.0.membership.confirmed who) → HasStopped nodes_then who
    heard_then who has_it = still_stopped who (elim ((step_changes e n runs).confirmed who has_it) [
      | inl before ↦ k.heard index n who at before
      | inr packet ↦ let from : WasSent w (event.Packet packet.0) = subst (WasSent w) packet.1 was_sent in subst (HasStopped w.nodes) packet.3 (k.said packet.0 (contains_at w.packets from.0 packet.0 from.1) packet.2)
    ])

    -- which old node stands where
    old_at : (j : ℕ) (m : State) → slice_get nodes_then j ≡ Some m → (x : State) × (slice_get w.nodes j ≡ Some x) × (me_of x ≡ me_of m) × (IsTrue m.runs → IsTrue x.runs)
    old_at = set_at (λ j (m : State). (x : State) × (slice_get w.nodes j ≡ Some x) × (me_of x ≡ me_of m) × (IsTrue m.runs → IsTrue x.runs)) w.nodes index o.0
        (λ j m is elsewhere. (m, is, refl, λ r. r)) (n, at, sym (step_changes e n runs).same_me, λ r. runs)

    given : IsSound (stepped index (step e n) (record w { founded = founded })).world → Processes settings (stepped index (step e n) (record w { founded = founded })).world
    given sound = record {
      sound = sound;
      sane = set_at (λ j (m : State). Sane settings m) w.nodes index o.0 (λ j m is elsewhere. k.sane j m is) sane_then;
      alone = λ i j a b is js runs_a runs_b same.
          let x = old_at i a is in
          let y = old_at j b js in
          k.alone i j x.0 y.0 x.1 y.1 (x.3 runs_a) (y.3 runs_b) (ap (λ (u : UniqueModel). u.address) x.2 ∙ same ∙ ap (λ (u : UniqueModel). u.address) (sym y.2));
      authors = λ entry there. still_there entry.author (elim (in_history_then entry there) [ inl old ↦ k.authors entry old | inr new ↦ subst (IsThere w.nodes) (sym new.author) me_there ]);
      written = λ entry x who there has_it is. still_there who (elim (in_history_then entry there) [
        | inl old ↦ k.written entry x who old has_it is
        | inr new ↦ cause_there entry.effects x who (cause_of entry new x has_it) is
      ]);
      senders = λ p there. still_there p.from (elim (contains_either w.packets (sent o.1) p there) [ inl old ↦ k.senders p old | inr new ↦ subst (IsThere w.nodes) (sym ((step_changes e n runs).from p new)) me_there ]);
      said = λ p there says. elim (contains_either w.packets (sent o.1) p there) [
        | inl old ↦ still_stopped p.from (k.said p old says)
        | inr new ↦ record {
          index = index;
          node = o.0;
          at = set_here w.nodes index n o.0 at;
          is_who = (step_changes e n runs).same_me ∙ sym ((step_changes e n runs).from p new);
          stopped = or_not o.0.runs ((step_changes e n runs).says p new says);
        }
      ];
      heard = λ j m who is has_it. elim (set_or w.nodes index j o.0 m is) [
        | inl same ↦ heard_then who (ap (λ (x : State). has x.membership.confirmed who) (sym same) ∙ has_it)
        | inr old ↦ still_stopped who (k.heard j m who old has_it)
      ];
      removed = λ entry who there has_it. still_stopped who (elim (in_history_then entry there) [
        | inl old ↦ k.removed entry who old has_it
        | inr new ↦ k.heard index n who at (cause_of entry new (Removed who true) has_it).1.1
      ]);
    }

  -- ---- a start
  module _ (u : UniqueModel) (unknown : list_any (is_process u) w.nodes ≡ false) (free : is_in_use u.address w ≡ false) (listed : is_listed settings.listed u.address ≡ true) where
    abbrev new_node : State
    new_node = started u settings

    more_there : (who : UniqueModel) → IsThere w.nodes who → IsThere (w.nodes ++ new_node ∷ []) who
    more_there who s = record { index = s.index; node = s.node; at = prefix_at w.nodes (new_node ∷ []) s.index s.node s.at; is_who = s.is_who }

    more_stopped : (who : UniqueModel) → HasStopped w.nodes who → HasStopped (w.nodes ++ new_node ∷ []) who
    more_stopped who s = record { index = s.index; node = s.node; at = prefix_at w.nodes (new_node ∷ []) s.index s.node s.at; is_who = s.is_who; stopped = s.stopped }

    abbrev IsOld : ℕ → State → Type 0
    IsOld j m = slice_get w.nodes j ≡ Some m

    abbrev IsNewest : ℕ → State → Type 0
    IsNewest j m = (j ≡ length w.nodes) × (m ≡ new_node)

    old_or_new : (j : ℕ) (m : State) → slice_get (w.nodes ++ new_node ∷ []) j ≡ Some m → IsOld j m ⊎ IsNewest j m
    old_or_new = push_at (λ j m. IsOld j m ⊎ IsNewest j m) w.nodes new_node (λ j m is. inl is) (inr (refl, refl))

    none_there : (i : ℕ) (n : State) → IsOld i n → (me_of n).address ≡ u.address → IsTrue n.runs → ⊥
    none_there i n at same runs =
        true≢false (sym (any_there (runs_at u.address) w.nodes n (contains_at w.nodes i n at) ((λ j. runs j && is_eq (address_cmp (same j) u.address)) ∙ ap is_eq (tied_itself address_total u.address))) ∙ free)

    alone_by : (i j : ℕ) (n m : State) → IsOld i n ⊎ IsNewest i n → IsOld j m ⊎ IsNewest j m → IsTrue n.runs → IsTrue m.runs → (me_of n).address ≡ (me_of m).address → i ≡ j
    alone_by i j n m (inl is) (inl js) runs_n runs_m same = k.alone i j n m is js runs_n runs_m same
    alone_by i j n m (inl is) (inr js) runs_n runs_m same = absurd (none_there i n is (same ∙ ap (λ (x : State). (me_of x).address) js.1) runs_n)
    alone_by i j n m (inr is) (inl js) runs_n runs_m same = absurd (none_there j m js (sym same ∙ ap (λ (x : State). (me_of x).address) is.1) runs_m)
    alone_by i j n m (inr is) (inr js) runs_n runs_m same = is.0 ∙ sym js.0

    begun : IsSound (starts settings u w).world → Processes settings (starts settings u w).world
    begun sound = record {
      sound = sound;
      sane = push_at (λ j (m : State). Sane settings m) w.nodes new_node k.sane (record {
        listed = listed;
        membership = starts_as_membership u settings;
        is_node = starts_as_node (started u settings) refl;
      });
      alone = λ i j n m is js. alone_by i j n m (old_or_new i n is) (old_or_new j m js);
      authors = λ entry there. more_there entry.author (k.authors entry there);
      written = λ entry x who there has_it is. more_there who (k.written entry x who there has_it is);
      senders = λ p there. more_there p.from (k.senders p there);
      said = λ p there says. more_stopped p.from (k.said p there says);
      heard = λ j m who is has_it. elim (old_or_new j m is) [
        | inl old ↦ more_stopped who (k.heard j m who old has_it)
        | inr new ↦ absurd (true≢false (sym has_it ∙ ap (λ (x : State). has x.membership.confirmed who) new.1 ∙ has-no_one who))
      ];
      removed = λ entry who there has_it. more_stopped who (k.removed entry who there has_it);
    }

  pub answered_processes : (a : Result Done Reason) → IsAnswer settings w a → IsSound (after w a) → Processes settings (after w a)
  answered_processes (Err why) is sound = k
  answered_processes (Ok done) is sound = elim is as (λ d h. IsSound d.world → Processes settings d.world) [
    | begins u unknown free listed few ↦ begun u unknown free listed
    | steps e index n founded at runs was_sent ↦ given e index n founded at runs was_sent
    | nobody ↦ λ same. k
  ] sound

run_processes : (settings : SettingsModel) (w : WorldState) (events : List Event) → Processes settings w → Processes settings (run_from settings w events)
run_processes settings w [] k = k
run_processes settings w (e ∷ events) k =
    run_processes settings (after w (happens settings e w)) events (answered_processes settings w k (happens settings e w) (happened settings w e) (happens_next settings e w k.sound).sound)

empty_processes : (settings : SettingsModel) → Processes settings empty_world
empty_processes settings = record {
  sound = empty_sound;
  sane = λ index n at. absurd (cc);
  alone = λ i j n m is js. absurd (cc);
  authors = λ entry there. absurd (contains_nothing entry there);
  written = λ entry x who there has_it is. absurd (contains_nothing entry there);
  senders = λ p there. absurd (contains_nothing p there);
  said = λ p there says. absurd (contains_nothing p there);
  heard = λ index n who at has_it. absurd (cc);
  removed = λ entry who there has_it. absurd (contains_nothing entry there);
}

pub processes : (settings : SettingsModel) (events : List Event) → Processes settings (run settings events)
processes settings events = run_processes settings empty_world events (empty_processes settings)
