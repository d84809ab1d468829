-- Each entry of a history was made by one event, from a version that its author held just before it; and whoever knows the
-- entry knows all of that.
use Rattle.std.proofs.Common.{◌≡◌, ℕ, zero, suc, ◌+◌, ◌<◌, ◌⊎◌, inl, inr, List, [], ◌∷◌, ◌++◌, length, take, Option, Some, None, option_and_then, Result, Ok, Err, slice_get, Contains, IsTrue, refl, sym, ap, ◌∙◌, subst, arith, add-one}
use Rattle.ak_address.specs.Unique.{UniqueModel}
use Rattle.ak_address.proofs.Elements.{contains_rest, first_or_rest, contains_nothing, contains_first}
use Rattle.ak_clock.specs.Version.{Counts, Covers}
use Rattle.ak_member.specs.declared.effect.Effect.{Effect}
use Rattle.ak_wire.specs.declared.action.Action.{Action}
use Rattle.ak_wire.specs.Wire.{effects_of}
use Rattle.ak_gossip.specs.Gossip.{GossipState}
use Rattle.ak_history.specs.declared.entry.Entry.{Entry}
use Rattle.ak_history.specs.History.{entries_of, IsNumbered, is_covered}
use Rattle.ak_history.proofs.HistoryLemmas.{entries-prefix, number_range}
use Rattle.ak_settings.specs.Settings.{SettingsModel}
use Rattle.ak_schedule.specs.declared.event.Event.{Event}
use Rattle.ak_node.specs.declared.node.State.{State}
use Rattle.ak_node.specs.Node.{known, me_of}
use Rattle.ak_world.specs.declared.world.Reason.{Reason}
use Rattle.ak_world.specs.World.{WorldState, Done, empty_world, happens, run}
use Rattle.ak_world.specs.Fold.{IsIn}
use Rattle.ak_world.specs.Held.{Holds, Made}
use Rattle.ak_world.specs.Remembered.{Remembered, IsClosed, entries_in, with_base, recorded_from, basing, remembers_answer, remembered_from, nothing_remembered, remembered}
use Rattle.ak_world.proofs.RememberedLemmas.{remembered-world, remembered-append}
use Rattle.ak_world.proofs.FoldRuns.{IsSound, run_sound, happens_next, empty_sound, one_node}
use Rattle.ak_world.proofs.WorldLemmas.{run-push}
use Rattle.ak_world.proofs.ClosedRuns.{Closing, run_closing}

-- ---- what is added to what was made
based_more : (author : UniqueModel) (base : Counts) (o : Option (List Effect)) (based : List (Entry × Counts)) (x : Entry × Counts) → Contains based x → Contains (with_base author base o based) x
based_more author base None based x there = there
based_more author base (Some effects) based x there = contains_rest _ x based there

recorded_more : (author : UniqueModel) (base : Counts) (actions : List Action) (based : List (Entry × Counts)) (x : Entry × Counts) → Contains based x → Contains (recorded_from author base actions based) x
recorded_more author base [] based x there = there
recorded_more author base (a ∷ actions) based x there = recorded_more author base actions (with_base author base (effects_of a) based) x (based_more author base (effects_of a) based x there)

basing_more : (o : Option State) (actions : List Action) (based : List (Entry × Counts)) (x : Entry × Counts) → Contains based x → Contains (basing o actions based) x
basing_more None actions based x there = there
basing_more (Some n) actions based x there = recorded_more (me_of n) (known n).version actions based x there

answer_more : (r : Remembered) (a : Result Done Reason) (x : Entry × Counts) → Contains r.based x → Contains (remembers_answer r a).based x
answer_more r (Err why) x there = there
answer_more r (Ok done) x there = basing_more (option_and_then (slice_get r.world.nodes) done.node) done.actions r.based x there

remembered_more : (settings : SettingsModel) (r : Remembered) (events : List Event) (x : Entry × Counts) → Contains r.based x → Contains (remembered_from settings r events).based x
remembered_more settings r [] x there = there
remembered_more settings r (e ∷ events) x there = remembered_more settings (remembers_answer r (happens settings e r.world)) events x (answer_more r (happens settings e r.world) x there)

-- an entry that actions added, or one that was there
with_base_new : (author : UniqueModel) (base : Counts) (o : Option (List Effect)) (based : List (Entry × Counts)) (entry : Entry) → Contains (entries_in (with_base author base o based)) entry
    → Contains (entries_in based) entry ⊎ ((entry.author ≡ author) × Contains (with_base author base o based) (entry, base))
with_base_new author base None based entry there = inl there
with_base_new author base (Some effects) based entry there = elim (first_or_rest _ entry (entries_in based) there) [
  | inl is ↦ inr (ap (λ (x : Entry). x.author) is, subst (λ (x : Entry). Contains (with_base author base (Some effects) based) (x, base)) (sym is) (contains_first _ based))
  | inr old ↦ inl old
]

recorded_new : (author : UniqueModel) (base : Counts) (actions : List Action) (based : List (Entry × Counts)) (entry : Entry) → Contains (entries_in (recorded_from author base actions based)) entry
    → Contains (entries_in based) entry ⊎ ((entry.author ≡ author) × Contains (recorded_from author base actions based) (entry, base))
recorded_new author base [] based entry there = inl there
recorded_new author base (a ∷ actions) based entry there =
    let next = with_base author base (effects_of a) based in
    elim (recorded_new author base actions next entry there) [
      | inl before ↦ elim (with_base_new author base (effects_of a) based entry before) [
        | inl old ↦ inl old
        | inr new ↦ inr (new.0, recorded_more author base actions next (entry, base) new.1)
      ]
      | inr new ↦ inr new
    ]

-- the acting node made it
record NewFrom (o : Option State) (based : List (Entry × Counts)) (entry : Entry) : Type 0 where
  node : State
  is_node : o ≡ Some node
  author : entry.author ≡ me_of node
  there : Contains based (entry, (known node).version)

basing_new : (o : Option State) (actions : List Action) (based : List (Entry × Counts)) (entry : Entry) → Contains (entries_in (basing o actions based)) entry → (Contains (entries_in based) entry → ⊥)
    → NewFrom o (basing o actions based) entry
basing_new None actions based entry there new = absurd (new there)
basing_new (Some n) actions based entry there new = elim (recorded_new (me_of n) (known n).version actions based entry there) [
  | inl old ↦ absurd (new old)
  | inr made ↦ record { node = n; is_node = refl; author = made.0; there = made.1 }
]

acting_at : (nodes : List State) (o : Option ℕ) (n : State) → option_and_then (slice_get nodes) o ≡ Some n → (index : ℕ) × (slice_get nodes index ≡ Some n)
acting_at nodes None n is = absurd (cc)
acting_at nodes (Some index) n is = (index, is)

-- ---- one event
module _ (settings : SettingsModel) (r : Remembered) (sound : IsSound r.world) (entry : Entry) (base : Counts) (author : Holds r.world entry.author base) where
  answer_new : (a : Result Done Reason) → (Contains (entries_in r.based) entry → ⊥) → Contains (entries_in (remembers_answer r a).based) entry → Contains (remembers_answer r a).based (entry, base)
  answer_new (Err why) new there = absurd (new there)
  answer_new (Ok done) new there =
      let acting = option_and_then (slice_get r.world.nodes) done.node in
      let h = basing_new acting done.actions r.based entry there new in
      let at = acting_at r.world.nodes done.node h.node h.is_node in
      let one : author.node ≡ h.node = one_node r.world sound author.index at.0 author.node h.node author.at at.1 (author.is_who ∙ h.author) in
      subst (λ v. Contains (basing acting done.actions r.based) (entry, v)) (ap (λ (n : State). (known n).version) (sym one) ∙ author.version_is) h.there

-- ---- a run
pub remembered_closing : (settings : SettingsModel) (events : List Event) → Closing (remembered settings events)
remembered_closing settings events = run_closing settings nothing_remembered events (record {
  sound = empty_sound;
  entries = refl;
  at_nodes = λ index n at. absurd (cc);
  at_packets = λ index p g at carries. absurd (cc);
  at_bases = λ e base there. absurd (contains_nothing (e, base) there);
})

remembered-is_run : (settings : SettingsModel) (events : List Event) → (remembered settings events).world ≡ run settings events
remembered-is_run settings events = remembered-world settings nothing_remembered events

entries-is_history : (settings : SettingsModel) (events : List Event) → entries_in (remembered settings events).based ≡ (run settings events).history
entries-is_history settings events = (remembered_closing settings events).entries ∙ ap (λ (w : WorldState). w.history) (remembered-is_run settings events)

-- a list up to one more event is the same list, or has the event
take_next : (time : ℕ) (events : List Event) → (take (suc time) events ≡ take time events) ⊎ ((e : Event) × (more : List Event) × (take (suc time) events ≡ take time events ++ e ∷ []) × (events ≡ take time events ++ e ∷ more))
take_next zero [] = inl refl
take_next (suc time) [] = inl refl
take_next zero (e ∷ events) = inr (e, events, refl, refl)
take_next (suc time) (e ∷ events) = elim (take_next time events) [
  | inl same ↦ inl (ap (λ (l : List Event). e ∷ l) same)
  | inr next ↦ inr (next.0, next.1, ap (λ (l : List Event). e ∷ l) next.2, ap (λ (l : List Event). e ∷ l) next.3)
]

-- an entry that an event made is remembered with the version that its author held
pub made_based : (settings : SettingsModel) (events : List Event) (entry : Entry) (base : Counts) → Made settings events entry base → Contains (remembered settings events).based (entry, base)
made_based settings events entry base m = elim (take_next m.time events) [
  | inl same ↦ absurd (m.enters.new (subst (λ (l : List Event). Contains (run settings l).history entry) same there))
  | inr next ↦ by_parts (take m.time events) next.0 next.1 next.3 m.author m.enters.new (subst (λ (l : List Event). Contains (run settings l).history entry) next.2 there)
]
  where
    there : Contains (run settings (take (suc m.time) events)).history entry
    there = subst (λ k. Contains (run settings (take k events)).history entry) (add-one m.time) m.enters.there

    by_parts : (first : List Event) (e : Event) (more : List Event) → events ≡ first ++ e ∷ more → Holds (run settings first) entry.author base → (Contains (run settings first).history entry → ⊥) → Contains (run settings (first ++ e ∷ [])).history entry
        → Contains (remembered settings events).based (entry, base)
    by_parts first e more parts author new there =
        let r = remembered settings first in
        let a = happens settings e r.world in
        let author_here : Holds r.world entry.author base = subst (λ (w : WorldState). Holds w entry.author base) (sym (remembered-is_run settings first)) author in
        let new_here : Contains (entries_in r.based) entry → ⊥ = λ old. new (subst (λ h. Contains h entry) (entries-is_history settings first) old) in
        let next : remembered settings (first ++ e ∷ []) ≡ remembers_answer r a = remembered-append settings nothing_remembered first (e ∷ []) in
        let there_here : Contains (entries_in (remembers_answer r a).based) entry =
        subst (λ (q : Remembered). Contains (entries_in q.based) entry) next (subst (λ h. Contains h entry) (sym (entries-is_history settings (first ++ e ∷ []))) there) in
        let sound : IsSound r.world = (remembered_closing settings first).sound in
        let here = answer_new settings r sound entry base author_here a new_here there_here in
        let whole : remembered settings events ≡ remembered_from settings (remembers_answer r a) more = ap (remembered settings) parts ∙ remembered-append settings nothing_remembered first (e ∷ more) in
        subst (λ (q : Remembered). Contains q.based (entry, base)) (sym whole) (remembered_more settings (remembers_answer r a) more (entry, base) here)

-- ---- each entry was made
-- an entry is new among those that came, or was there
new_or_old : (added history : List Entry) (entry : Entry) → IsNumbered (added ++ history) → Contains (added ++ history) entry → Contains history entry ⊎ (entries_of entry.author history < entry.number)
new_or_old [] history entry numbered there = inl there
new_or_old (e ∷ added) history entry numbered there = elim (first_or_rest e entry (added ++ history) there) [
  | inl is ↦
      let number : e.number ≡ entries_of e.author (added ++ history) + 1 = numbered.0 in
      let more = entries-prefix added history e.author in
      inr (subst (λ (x : Entry). entries_of x.author history < x.number) (sym is) (omega arith))
  | inr before ↦ new_or_old added history entry numbered.1 before
]

not_above : (history : List Entry) (entry : Entry) → IsNumbered history → entries_of entry.author history < entry.number → Contains history entry → ⊥
not_above history entry numbered above there = let range = number_range history entry numbered there in let most = range.most in omega arith

-- after one more event an entry was there, or the event made it
module _ (settings : SettingsModel) (events : List Event) (entry : Entry) (time : ℕ) (there : Contains (run settings (take (suc time) events)).history entry) where
  abbrev IsThere : Type 0
  IsThere = Contains (run settings (take time events)).history entry

  abbrev WasMade : Type 0
  WasMade = (base : Counts) × Made settings events entry base

  by_answer : (IsThere → ⊥) → (a : Result Done Reason) → Contains (entries_in (remembers_answer (remembered settings (take time events)) a).based) entry → WasMade
  by_answer new (Err why) old = absurd (new (subst (λ h. Contains h entry) (entries-is_history settings (take time events)) old))
  by_answer new (Ok done) made =
      let r : Remembered = remembered settings (take time events) in
      let acting = option_and_then (slice_get r.world.nodes) done.node in
      let h = basing_new acting done.actions r.based entry made (λ old. new (subst (λ h. Contains h entry) (entries-is_history settings (take time events)) old)) in
      let at = acting_at r.world.nodes done.node h.node h.is_node in
      let base : Counts = (known h.node).version in (
        base,
        record {
          time = time;
          enters = record { new = new; there = subst (λ k. Contains (run settings (take k events)).history entry) (sym (add-one time)) there };
          author = subst (λ (w : WorldState). Holds w entry.author base) (remembered-is_run settings (take time events)) (record { index = at.0; node = h.node; at = at.1; is_who = sym h.author; version_is = refl });
        },
      )

  made_next : IsThere ⊎ WasMade
  made_next = elim (take_next time events) [
    | inl same ↦ inl (subst (λ (l : List Event). Contains (run settings l).history entry) same there)
    | inr next ↦ by_event next.0 (subst (λ (l : List Event). Contains (run settings l).history entry) next.2 there)
  ]
    where
      by_event : (e : Event) → Contains (run settings (take time events ++ e ∷ [])).history entry → IsThere ⊎ WasMade
      by_event e there_then =
          let past = take time events in
          let r : Remembered = remembered settings past in
          let next = happens_next settings e (run settings past) (run_sound settings past) in
          let grown : (run settings (past ++ e ∷ [])).history ≡ next.added ++ (run settings past).history = ap (λ (w : WorldState). w.history) (run-push settings empty_world past e) ∙ next.grown in
          elim (new_or_old next.added (run settings past).history entry (subst IsNumbered grown (run_sound settings (past ++ e ∷ [])).is_numbered) (subst (λ h. Contains h entry) grown there_then)) [
            | inl old ↦ inl old
            | inr above ↦ inr (by_answer (not_above (run settings past).history entry (run_sound settings past).is_numbered above) (happens settings e r.world)
                (subst (λ (q : Remembered). Contains (entries_in q.based) entry) (remembered-append settings nothing_remembered past (e ∷ [])) (subst (λ h. Contains h entry) (sym (entries-is_history settings (past ++ e ∷ []))) there_then)))
          ]

made_by_time : (settings : SettingsModel) (events : List Event) (entry : Entry) (time : ℕ) → Contains (run settings (take time events)).history entry → (base : Counts) × Made settings events entry base
made_by_time settings events entry zero there = absurd (contains_nothing entry there)
made_by_time settings events entry (suc time) there = elim (made_next settings events entry time there) [
  | inl old ↦ made_by_time settings events entry time old
  | inr made ↦ made
]

take_all : (events : List Event) → take (length events) events ≡ events
take_all [] = refl
take_all (e ∷ events) = ap (λ (l : List Event). e ∷ l) (take_all events)

pub each_made : (settings : SettingsModel) (events : List Event) (entry : Entry) → Contains (run settings events).history entry → (base : Counts) × Made settings events entry base
each_made settings events entry there = made_by_time settings events entry (length events) (subst (λ (l : List Event). Contains (run settings l).history entry) (sym (take_all events)) there)

-- ---- in the words of the run
known_closed : (r : Remembered) → Closing r → (g : GossipState) → IsIn g r.world → IsClosed r.based g.version
known_closed r s g (inl there) = subst (λ (x : GossipState). IsClosed r.based x.version) there.3 (s.at_nodes there.0 there.1 there.2)
known_closed r s g (inr there) = s.at_packets there.0 there.1 g there.2 there.3

-- whoever knows an entry knows all that its author knew when it made it
pub known_is_closed : (settings : SettingsModel) (events : List Event) (g : GossipState) → IsIn g (run settings events) → (entry : Entry) (base : Counts) → Made settings events entry base → IsTrue (is_covered g.version entry) → Covers g.version base
known_is_closed settings events g is_in entry base made covered =
    known_closed (remembered settings events) (remembered_closing settings events) g (subst (IsIn g) (sym (remembered-is_run settings events)) is_in) entry base (made_based settings events entry base made) covered

pub closed-of_run : (settings : SettingsModel) (events : List Event) (w : WorldState) → w ≡ run settings events → (g : GossipState) → IsIn g w → (entry : Entry) (base : Counts) → Made settings events entry base → IsTrue (is_covered g.version entry) → Covers g.version base
closed-of_run settings events w is_run g is_in = known_is_closed settings events g (subst (IsIn g) is_run is_in)
