-- In each world of a run every version that is held or carried is closed, and so is every version from which an entry was made.
use Rattle.std.proofs.Common.{◌≡◌, ℕ, ◌+◌, Bool, true, false, inl, inr, if◌then◌else◌, List, [], ◌∷◌, length, Option, Some, None, Result, Ok, Err, slice_get, Contains, IsTrue, refl, sym, ap, ◌∙◌, subst}
use Rattle.ak_address.specs.Unique.{UniqueModel}
use Rattle.ak_clock.specs.Version.{Counts, count, covers, relation_by}
use Rattle.ak_member.specs.Standing.{is_member}
use Rattle.ak_member.specs.declared.effect.Effect.{Effect}
use Rattle.ak_address.specs.Uniques.{with_one}
use Rattle.ak_gossip.specs.Gossip.{GossipState, same, both, accepted, marked_seen, seen_by}
use Rattle.ak_history.specs.declared.entry.Entry.{Entry}
use Rattle.ak_history.specs.History.{entries_of, IsNumbered, IsBounded}
use Rattle.ak_address.proofs.Elements.{first_or_rest, contains_nothing}
use Rattle.ak_history.proofs.HistoryLemmas.{bounded-prefix}
use Rattle.ak_settings.specs.Settings.{SettingsModel}
use Rattle.ak_schedule.specs.declared.event.Event.{Event}
use Rattle.ak_wire.specs.declared.envelope.Envelope.{Envelope}
use Rattle.ak_wire.specs.declared.action.Action.{Action}
use Rattle.ak_wire.specs.Wire.{sent, effects_of, put, updates_of, gossip_of}
use Rattle.ak_node.specs.declared.node.State.{State}
use Rattle.ak_node.specs.declared.node.NodeEvent.{NodeEvent}
use Rattle.ak_node.specs.Node.{Outcome, known, me_of, started, step}
use Rattle.ak_world.specs.declared.world.Reason.{Reason}
use Rattle.ak_world.specs.World.{Done, recorded, stepped, starts, happens, after}
use Rattle.ak_world.specs.Remembered.{Remembered, IsClosed, entries_in, with_base, recorded_from, basing, remembers, remembers_answer, remembered_from}
use Rattle.ak_membership.specs.Knowledge.{Knowledge, Keeps, Updates, Accepts, learnt, made_by}
use Rattle.ak_node.specs.Change.{given_by}
use Rattle.ak_world.proofs.RememberedLemmas.{recorded-entries}
use Rattle.ak_world.proofs.Closed.{closed_empty, closed_merged, closed_later, closed_update}
use Rattle.ak_world.proofs.FoldRuns.{IsSound, happens_next}
use Rattle.ak_node.proofs.StepChanges.{step_changes}
use Rattle.ak_world.proofs.IndexLemmas.{set_or, last_or}
use Rattle.ak_world.proofs.WhatHappened.{WasSent, brought, accepts_from, begins, steps, nobody, IsAnswer, happened}

-- ---- the entries after a list of updates
abbrev pub entry_of : UniqueModel → List Effect → List (Entry × Counts) → Entry
entry_of me effects based = record { author = me; number = entries_of me (entries_in based) + 1; effects = effects }

abbrev pub by_updates : UniqueModel → Counts → List (List Effect) → List (Entry × Counts) → List (Entry × Counts)
by_updates me base [] based = based
by_updates me base (effects ∷ more) based = by_updates me base more ((entry_of me effects based, base) ∷ based)

pub from-updates : (me : UniqueModel) (base : Counts) (actions : List Action) (based : List (Entry × Counts)) → recorded_from me base actions based ≡ by_updates me base (updates_of actions) based
from-updates me base [] based = refl
from-updates me base (a ∷ actions) based = from-updates me base actions (with_base me base (effects_of a) based) ∙ by_case (effects_of a)
  where
    by_case : (o : Option (List Effect)) → by_updates me base (updates_of actions) (with_base me base o based) ≡ by_updates me base (put o (updates_of actions)) based
    by_case None = refl
    by_case (Some effects) = refl

-- ---- one change
module _ (based : List (Entry × Counts)) (numbered : IsNumbered (entries_in based)) (me : UniqueModel) (own : GossipState) (mine : count own.version me ≡ entries_of me (entries_in based)) where
  abbrev pub after_change : Knowledge → List (Entry × Counts)
  after_change c = by_updates me own.version (made_by c) based

  pub keeps_closed : (c : Knowledge) (v : Counts) → IsBounded (entries_in based) v → IsClosed based v → IsClosed (after_change c) v
  keeps_closed Keeps v bounded closed = closed
  keeps_closed (Updates effects) v bounded closed = closed_later based (entry_of me effects based) own.version v (refl, numbered) bounded closed
  keeps_closed (Accepts g) v bounded closed = closed

  seen_closed : (g : GossipState) → IsClosed based g.version → IsClosed based (seen_by me g).version
  seen_closed g closed = by_case (is_member g.view.standings me)
    where
      by_case : (b : Bool) → IsClosed based (if b then record g { seen = with_one g.seen me } else g).version
      by_case true = closed
      by_case false = closed

  accepted_closed : (g : GossipState) (a b : Bool) → IsClosed based own.version → IsClosed based g.version → IsClosed based (marked_seen me (accepted (relation_by a b) own g)).1.version
  accepted_closed g true true p q = seen_closed (same own g) p
  accepted_closed g true false p q = p
  accepted_closed g false true p q = seen_closed g q
  accepted_closed g false false p q = seen_closed (both own g) (closed_merged based own.version g.version p q)

  learnt_closed : (c : Knowledge) → IsClosed based own.version → ((g : GossipState) → c ≡ Accepts g → IsClosed based g.version) → IsClosed (after_change c) (learnt me c own).version
  learnt_closed Keeps closed brings = closed
  learnt_closed (Updates effects) closed brings = closed_update based (entry_of me effects based) own.version (refl, numbered) mine closed
  learnt_closed (Accepts g) closed brings = accepted_closed g (covers own.version g.version) (covers g.version own.version) closed (brings g refl)

  -- what each entry was made from
  bases_closed : (c : Knowledge) → IsBounded (entries_in based) own.version → IsClosed based own.version → ((e : Entry) (base : Counts) → Contains based (e, base) → IsBounded (entries_in based) base × IsClosed based base × (count base e.author + 1 ≡ e.number))
      → (e : Entry) (base : Counts) → Contains (after_change c) (e, base) → IsBounded (entries_in (after_change c)) base × IsClosed (after_change c) base × (count base e.author + 1 ≡ e.number)
  bases_closed Keeps bounded closed old e base there = old e base there
  bases_closed (Accepts g) bounded closed old e base there = old e base there
  bases_closed (Updates effects) bounded closed old e base there =
      let new = entry_of me effects based in
      elim (first_or_rest (new, own.version) (e, base) based there) [
        | inl is ↦ subst (λ (r : Entry × Counts). IsBounded (new ∷ entries_in based) r.1 × IsClosed ((new, own.version) ∷ based) r.1 × (count r.1 r.0.author + 1 ≡ r.0.number)) (sym is) (
          bounded-prefix (new ∷ []) (entries_in based) own.version bounded,
          closed_later based new own.version own.version (refl, numbered) bounded closed,
          ap (λ k. k + 1) mine,
        )
        | inr before ↦
            let h = old e base before in (
              bounded-prefix (new ∷ []) (entries_in based) base h.0,
              closed_later based new own.version base (refl, numbered) h.0 h.1,
              h.2,
            )
      ]

-- ---- a world
pub record Closing (r : Remembered) : Type 0 where
  pub sound : IsSound r.world
  pub entries : entries_in r.based ≡ r.world.history
  pub at_nodes : (index : ℕ) (n : State) → slice_get r.world.nodes index ≡ Some n → IsClosed r.based (known n).version
  pub at_packets : (index : ℕ) (p : Envelope) (g : GossipState) → slice_get r.world.packets index ≡ Some p → gossip_of p.message ≡ Some g → IsClosed r.based g.version
  pub at_bases : (e : Entry) (base : Counts) → Contains r.based (e, base) → IsBounded (entries_in r.based) base × IsClosed r.based base × (count base e.author + 1 ≡ e.number)

module _ (r : Remembered) (s : Closing r) where
  -- the history is that of the entries
  numbered : IsNumbered (entries_in r.based)
  numbered = subst IsNumbered (sym s.entries) s.sound.is_numbered

  bounded_node : (index : ℕ) (n : State) → slice_get r.world.nodes index ≡ Some n → IsBounded (entries_in r.based) (known n).version
  bounded_node index n at = subst (λ h. IsBounded h (known n).version) (sym s.entries) (s.sound.each index n at).fold.bounded

  bounded_packet : (index : ℕ) (p : Envelope) (g : GossipState) → slice_get r.world.packets index ≡ Some p → gossip_of p.message ≡ Some g → IsBounded (entries_in r.based) g.version
  bounded_packet index p g at carries = subst (λ h. IsBounded h g.version) (sym s.entries) (s.sound.carried.at index p at g carries).bounded

  begun : (settings : SettingsModel) (u : UniqueModel) → IsSound (starts settings u r.world).world → Closing (remembers (starts settings u r.world) r)
  begun settings u sound =
      let n : State = started u settings in
      let based : basing (slice_get r.world.nodes (length r.world.nodes)) [] r.based ≡ r.based = none (slice_get r.world.nodes (length r.world.nodes)) in
      record {
        sound = sound;
        entries = ap entries_in based ∙ s.entries;
        at_nodes = λ j m is. subst (λ b. IsClosed b (known m).version) (sym based) (elim (last_or r.world.nodes (n ∷ []) j m is) [
          | inl new ↦ elim (first_or_rest n m [] new) [ inl same ↦ subst (λ (x : State). IsClosed r.based (known x).version) (sym same) (closed_empty r.based numbered) | inr other ↦ absurd (contains_nothing m other) ]
          | inr old ↦ s.at_nodes j m old
        ]);
        at_packets = λ j p g is carries. subst (λ b. IsClosed b g.version) (sym based) (s.at_packets j p g is carries);
        at_bases = subst (λ b. (e : Entry) (base : Counts) → Contains b (e, base) → IsBounded (entries_in b) base × IsClosed b base × (count base e.author + 1 ≡ e.number)) (sym based) s.at_bases;
      }
    where
      none : (o : Option State) → basing o [] r.based ≡ r.based
      none None = refl
      none (Some m) = refl

  module _ (e : NodeEvent) (index : ℕ) (n : State) (founded : Bool) (at : slice_get r.world.nodes index ≡ Some n) (runs : IsTrue n.runs) (was_sent : WasSent r.world e) where
    mine : count (known n).version (me_of n) ≡ entries_of (me_of n) (entries_in r.based)
    mine = (s.sound.each index n at).own ∙ ap (entries_of (me_of n)) (sym s.entries)

    brought_closed : (g : GossipState) → (given_by e).brings ≡ Some g → IsClosed r.based g.version
    brought_closed g brings = let from = brought r.world e was_sent g brings in s.at_packets from.0 from.1 g from.2 from.3

    given : IsSound (stepped index (step e n) (record r.world { founded = founded })).world → Closing (remembers (stepped index (step e n) (record r.world { founded = founded })) r)
    given sound =
        let o : Outcome = step e n in
        let c = step_changes e n runs in
        let after_based : List (Entry × Counts) = after_change r.based numbered (me_of n) (known n) mine c.knowledge in
        let based : basing (slice_get r.world.nodes index) o.1 r.based ≡ after_based =
        ap (λ (x : Option State). basing x o.1 r.based) at ∙ from-updates (me_of n) (known n).version o.1 r.based ∙ ap (λ l. by_updates (me_of n) (known n).version l r.based) c.made in
        let own_closed = s.at_nodes index n at in
        let closed : IsClosed after_based (known o.0).version =
        subst (λ (g : GossipState). IsClosed after_based g.version) (sym c.knows)
        (learnt_closed r.based numbered (me_of n) (known n) mine c.knowledge own_closed (λ g is. brought_closed g (accepts_from (given_by e) n.membership c.knowledge g is c.lawful))) in
        record {
          sound = sound;
          entries =
              ap (λ (x : Option State). entries_in (basing x o.1 r.based)) at
              ∙ recorded-entries (me_of n) (known n).version o.1 r.based
              ∙ ap (recorded (me_of n) o.1) s.entries
              ∙ ap (λ u. recorded u o.1 r.world.history) (sym c.same_me);
          at_nodes = λ j m is. subst (λ b. IsClosed b (known m).version) (sym based) (elim (set_or r.world.nodes index j o.0 m is) [
            | inl same ↦ subst (λ (x : State). IsClosed after_based (known x).version) (sym same) closed
            | inr old ↦ keeps_closed r.based numbered (me_of n) (known n) mine c.knowledge (known m).version (bounded_node j m old) (s.at_nodes j m old)
          ]);
          at_packets = λ j p g is carries. subst (λ b. IsClosed b g.version) (sym based) (elim (last_or r.world.packets (sent o.1) j p is) [
            | inl new ↦ subst (λ (x : GossipState). IsClosed after_based x.version) (sym (c.carried p g new carries)) closed
            | inr old ↦ keeps_closed r.based numbered (me_of n) (known n) mine c.knowledge g.version (bounded_packet j p g old carries) (s.at_packets j p g old carries)
          ]);
          at_bases = subst (λ b. (d : Entry) (base : Counts) → Contains b (d, base) → IsBounded (entries_in b) base × IsClosed b base × (count base d.author + 1 ≡ d.number)) (sym based)
              (bases_closed r.based numbered (me_of n) (known n) mine c.knowledge (bounded_node index n at) own_closed s.at_bases);
        }

  pub answered_closing : (settings : SettingsModel) (a : Result Done Reason) → IsAnswer settings r.world a → IsSound (after r.world a) → Closing (remembers_answer r a)
  answered_closing settings (Err why) is sound = s
  answered_closing settings (Ok done) is sound = elim is as (λ d h. IsSound d.world → Closing (remembers d r)) [
    | begins u unknown free listed few ↦ begun settings u
    | steps e index n founded at runs was_sent ↦ given e index n founded at runs was_sent
    | nobody ↦ λ same. s
  ] sound

pub run_closing : (settings : SettingsModel) (r : Remembered) (events : List Event) → Closing r → Closing (remembered_from settings r events)
run_closing settings r [] s = s
run_closing settings r (e ∷ events) s =
    run_closing settings (remembers_answer r (happens settings e r.world)) events
    (answered_closing r s settings (happens settings e r.world) (happened settings r.world e) (happens_next settings e r.world s.sound).sound)
