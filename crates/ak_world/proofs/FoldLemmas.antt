-- What a step of a node does keeps what it knows the fold of the history.
use Rattle.std.proofs.Common.{◌≡◌, ◌≢◌, ℕ, zero, suc, ◌+◌, ◌≤◌, Bool, true, false, if◌then◌else◌, List, [], ◌∷◌, ◌++◌, slice_get, Option, Some, None, refl, sym, ap, ◌∙◌, subst, arith}
use Rattle.ak_address.specs.Unique.{UniqueModel}
use Rattle.ak_address.specs.Uniques.{UniqueSet, with_one}
use Rattle.ak_address.proofs.Elements.{contains_at}
use Rattle.ak_member.specs.Standing as standing
use Rattle.ak_member.specs.View.{View, after_entry, merged_views}
use Rattle.ak_clock.specs.Version.{count, covers, relation, relation_by}
use Rattle.ak_clock.proofs.VersionLaws.{count-merged, count-bumped_author, covers_from_test}
use Rattle.ak_history.specs.declared.entry.Entry.{Entry}
use Rattle.ak_member.specs.declared.effect.Effect.{Effect}
use Rattle.ak_wire.specs.declared.envelope.Envelope.{Envelope}
use Rattle.ak_wire.specs.declared.envelope.Message.{Message}
use Rattle.ak_wire.specs.declared.action.Action.{Action}
use Rattle.ak_wire.specs.Wire.{sent, effects_of, put, updates_of, gossip_of}
use Rattle.ak_history.specs.History.{entries_of, IsNumbered, view}
use Rattle.ak_gossip.specs.Gossip.{GossipState, seen_by, same, both, accepted, marked_seen}
use Rattle.ak_node.specs.declared.node.State.{State}
use Rattle.ak_node.specs.declared.node.NodeEvent.{NodeEvent}
use Rattle.ak_node.specs.Node.{Outcome, known, me_of}
use Rattle.ak_membership.specs.Knowledge.{Knowledge, Keeps, Updates, Accepts, learnt, made_by}
use Rattle.ak_node.specs.Change.{Changes, given_by}
use Rattle.ak_world.specs.World.{with_update, recorded}
use Rattle.ak_world.specs.Fold.{IsFold}
use Rattle.ak_history.proofs.HistoryLemmas.{bounded-prefix, bounded-update, entries-author, entries-others}
use Rattle.ak_world.proofs.WhatHappened.{accepts_from}
use Rattle.ak_history.proofs.ViewsMerged.{view-merged, view-later, view-update}

-- ---- what a message carries
abbrev pub CarriesFold : List Entry → Message → Type 0
CarriesFold history m = (g : GossipState) → gossip_of m ≡ Some g → IsFold history g

pub record Packets (history : List Entry) (packets : List Envelope) : Type 0 where
  pub at : (index : ℕ) (e : Envelope) → slice_get packets index ≡ Some e → CarriesFold history e.message

pub no_packets : (history : List Entry) → Packets history []
no_packets history = record { at = λ index e is. absurd (cc) }

pub more_packets : (history : List Entry) (a b : List Envelope) → Packets history a → Packets history b → Packets history (a ++ b)
more_packets history [] b p q = q
more_packets history (e ∷ a) b p q = record { at = first_or (p.at 0) (more_packets history a b (record { at = λ i. p.at (suc i) }) q) }
  where
    first_or : ((x : Envelope) → Some e ≡ Some x → CarriesFold history x.message) → Packets history (a ++ b) → (index : ℕ) (x : Envelope) → slice_get (e ∷ (a ++ b)) index ≡ Some x → CarriesFold history x.message
    first_or here rest zero x is = here x is
    first_or here rest (suc index) x is = rest.at index x is

-- ---- one step of a node
-- a node counts each of its own updates, and what it knows is the fold
pub record Knows (history : List Entry) (me : UniqueModel) (g : GossipState) : Type 0 where
  pub own : count g.version me ≡ entries_of me history
  pub fold : IsFold history g

-- The history after what a node did is numbered, has new entries of this node alone, and what was a fold is one still.
-- What the node knows then, and what it sends, are folds of it.
pub record Good (history : List Entry) (me : UniqueModel) (o : Outcome) : Type 0 where
  pub later : List Entry
  pub made : recorded me o.1 history ≡ later
  pub numbered : IsNumbered later
  pub same_me : me_of o.0 ≡ me
  pub knows : Knows later me (known o.0)
  pub others : (u : UniqueModel) → u ≢ me → entries_of u later ≡ entries_of u history
  pub kept : (g : GossipState) → IsFold history g → IsFold later g
  pub packets : Packets later (sent o.1)

-- ---- a gossip that comes
seen_knows : (history : List Entry) (me : UniqueModel) (b : Bool) (g : GossipState) (seen : UniqueSet) → Knows history me g → Knows history me (if b then record g { seen = seen } else g)
seen_knows history me true g seen k = record { own = k.own; fold = record { shown = k.fold.shown; bounded = k.fold.bounded } }
seen_knows history me false g seen k = k

module _ (history : List Entry) (is_numbered : IsNumbered history) (me : UniqueModel) (own incoming : GossipState) (k : Knows history me own) (fold : IsFold history incoming) where
  noted_knows : (g : GossipState) → Knows history me g → Knows history me (seen_by me g)
  noted_knows g h = seen_knows history me (standing.is_member g.view.standings me) g (with_one g.seen me) h

  -- nobody else counts more of the node's updates
  not_above : count incoming.version me ≤ count own.version me
  not_above = let below : count incoming.version me ≤ entries_of me history = fold.bounded me in let mine = k.own in omega arith

  by_relation : (a b : Bool) → covers own.version incoming.version ≡ a → covers incoming.version own.version ≡ b → Knows history me (marked_seen me (accepted (relation_by a b) own incoming)).1
  by_relation true true p q = noted_knows (same own incoming) (record { own = k.own; fold = record { shown = k.fold.shown; bounded = k.fold.bounded } })
  by_relation true false p q = k
  by_relation false true p q = noted_knows incoming (record {
    own =
        let over : count own.version me ≤ count incoming.version me = covers_from_test incoming.version own.version q me in
        let under = not_above in
        let mine = k.own in
        omega arith;
    fold = fold;
  })
  by_relation false false p q = noted_knows (both own incoming) (record {
    own =
        let is = count-merged own.version incoming.version me in
        let under = not_above in
        let mine = k.own in
        omega arith;
    fold = record {
      shown =
          ap (λ (v : View). merged_views v incoming.view) k.fold.shown
          ∙ ap (λ (v : View). merged_views (view history own.version) v) fold.shown
          ∙ view-merged history own.version incoming.version is_numbered;
      bounded = λ u.
          let is = count-merged own.version incoming.version u in
          let first : count own.version u ≤ entries_of u history = k.fold.bounded u in
          let second : count incoming.version u ≤ entries_of u history = fold.bounded u in
          omega arith;
    };
  })

  noted_is : Knows history me (marked_seen me (accepted (relation own.version incoming.version) own incoming)).1
  noted_is = by_relation (covers own.version incoming.version) (covers incoming.version own.version) refl refl

-- ---- the history after updates
abbrev pub after_updates : UniqueModel → List (List Effect) → List Entry → List Entry
after_updates author [] history = history
after_updates author (effects ∷ more) history = after_updates author more (with_update author (Some effects) history)

pub from_updates : (author : UniqueModel) (actions : List Action) (history : List Entry) → recorded author actions history ≡ after_updates author (updates_of actions) history
from_updates author [] history = refl
from_updates author (a ∷ actions) history = from_updates author actions (with_update author (effects_of a) history) ∙ by_case (effects_of a)
  where
    by_case : (o : Option (List Effect)) → after_updates author (updates_of actions) (with_update author o history) ≡ after_updates author (put o (updates_of actions)) history
    by_case None = refl
    by_case (Some effects) = refl

-- ---- one change
module _ (history : List Entry) (is_numbered : IsNumbered history) (me : UniqueModel) (own : GossipState) (k : Knows history me own) where
  abbrev pub later_history : Knowledge → List Entry
  later_history c = after_updates me (made_by c) history

  change_numbered : (c : Knowledge) → IsNumbered (later_history c)
  change_numbered Keeps = is_numbered
  change_numbered (Updates effects) = (refl, is_numbered)
  change_numbered (Accepts g) = is_numbered

  change_knows : (c : Knowledge) → ((g : GossipState) → c ≡ Accepts g → IsFold history g) → Knows (later_history c) me (learnt me c own)
  change_knows Keeps brings = k
  change_knows (Updates effects) brings =
      let entry : Entry = record { author = me; number = entries_of me history + 1; effects = effects } in
      let grown = entries-author entry history in
      let bump = count-bumped_author own.version me in
      record {
        own = bump ∙ ap (λ c. c + 1) k.own ∙ sym grown;
        fold = record {
          shown =
              ap (λ c. after_entry me (c + 1) effects own.view) k.own
              ∙ ap (after_entry me (entries_of me history + 1) effects) k.fold.shown
              ∙ sym (view-update entry history own.version (refl, is_numbered) k.own);
          bounded = bounded-update entry history own.version k.fold.bounded;
        };
      }
  change_knows (Accepts g) brings = noted_is history is_numbered me own g k (brings g refl)

  change_others : (c : Knowledge) (u : UniqueModel) → u ≢ me → entries_of u (later_history c) ≡ entries_of u history
  change_others Keeps u apart = refl
  change_others (Updates effects) u apart = entries-others (record { author = me; number = entries_of me history + 1; effects = effects }) history u apart
  change_others (Accepts g) u apart = refl

  change_kept : (c : Knowledge) (g : GossipState) → IsFold history g → IsFold (later_history c) g
  change_kept Keeps g fold = fold
  change_kept (Updates effects) g fold =
      let entry : Entry = record { author = me; number = entries_of me history + 1; effects = effects } in
      record {
        shown = fold.shown ∙ sym (view-later entry history g.version (refl, is_numbered) fold.bounded);
        bounded = bounded-prefix (entry ∷ []) history g.version fold.bounded;
      }
  change_kept (Accepts h) g fold = fold

-- a packet brings the fold
abbrev pub BringsFold : List Entry → NodeEvent → Type 0
BringsFold history e = (g : GossipState) → (given_by e).brings ≡ Some g → IsFold history g

pub change_good : (history : List Entry) (is_numbered : IsNumbered history) (e : NodeEvent) (n : State) (o : Outcome) → BringsFold history e → Knows history (me_of n) (known n) → Changes e n o → Good history (me_of n) o
change_good history is_numbered e n o brings k c =
    let later = later_history history is_numbered (me_of n) (known n) k c.knowledge in
    let knows : Knows later (me_of n) (known o.0) = subst (Knows later (me_of n)) (sym c.knows) (change_knows history is_numbered (me_of n) (known n) k c.knowledge (λ g is. brings g (accepts_from (given_by e) n.membership c.knowledge g is c.lawful))) in
    record {
      later = later;
      made = from_updates (me_of n) o.1 history ∙ ap (λ l. after_updates (me_of n) l history) c.made;
      numbered = change_numbered history is_numbered (me_of n) (known n) k c.knowledge;
      same_me = c.same_me;
      knows = knows;
      others = change_others history is_numbered (me_of n) (known n) k c.knowledge;
      kept = change_kept history is_numbered (me_of n) (known n) k c.knowledge;
      packets = record { at = λ index p is g carries. subst (IsFold later) (sym (c.carried p g (contains_at (sent o.1) index p is) carries)) knows.fold };
    }
