-- Each process in a seen set held exactly that version.
use Rattle.std.proofs.Common.{◌≡◌, ◌≢◌, ℕ, ◌+◌, max, Bool, true, false, ◌||◌, if◌then◌else◌, inl, inr, List, [], ◌∷◌, ◌++◌, length, take, Option, Some, None, is_some, option_and_then, Result, Ok, Err, slice_get, slice_set, Contains, IsTrue, refl, sym, ap, ◌∙◌, subst, arith, true≢false, append_assoc}
use Rattle.std.proofs.lemmas.Option.{same_Some}
use Rattle.std.specs.FinMap as map
use Rattle.ak_address.specs.Unique.{UniqueModel, unique_cmp}
use Rattle.ak_address.specs.Uniques.{has, with_one, no_one}
use Rattle.ak_address.proofs.TableLaws.{same_table, same_or_apart, same_key, get-empty, get-insert_here, get-insert_elsewhere, get-merged_tables}
use Rattle.ak_address.proofs.UniquesLaws.{has-no_one, has-with_one}
use Rattle.std.specs.Ordering.{eq_by_cmp}
use Rattle.ak_clock.specs.Version.{Counts, count, covers, relation_by, bumped, Covers}
use Rattle.ak_clock.proofs.VersionLaws.{covers_from_test, no_zero_at, same_at}
use Rattle.ak_member.specs.Standing.{is_member}
use Rattle.ak_gossip.specs.Gossip.{GossipState, nothing_known, accepted, marked_seen, same, both, seen_by}
use Rattle.ak_gossip.proofs.GossipLaws.{same_seen}
use Rattle.ak_address.proofs.Elements.{contains_rest, first_or_rest, contains_nothing, contains_first}
use Rattle.ak_settings.specs.Settings.{SettingsModel}
use Rattle.ak_schedule.specs.declared.event.Event.{Event}
use Rattle.ak_wire.specs.declared.envelope.Envelope.{Envelope}
use Rattle.ak_wire.specs.Wire.{sent, gossip_of}
use Rattle.ak_node.specs.declared.node.State.{State}
use Rattle.ak_node.specs.declared.node.NodeEvent.{NodeEvent}
use Rattle.ak_node.specs.Node.{Outcome, known, me_of, started, step}
use Rattle.ak_world.specs.declared.world.Reason.{Reason}
use Rattle.ak_world.specs.World.{WorldState, Done, empty_world, stepped, starts, happens, after, run}
use Rattle.ak_world.specs.Held.{Holds, Held}
use Rattle.ak_world.specs.Remembered.{Remembered, holding, remembers, remembers_answer, remembered_from, nothing_remembered, remembered}
use Rattle.ak_membership.specs.Knowledge.{Knowledge, Keeps, Updates, Accepts, learnt}
use Rattle.ak_node.specs.Change.{given_by}
use Rattle.ak_world.specs.Fold.{IsIn}
use Rattle.ak_world.proofs.RememberedLemmas.{answer-world, remembered-world}
use Rattle.ak_world.proofs.WorldLemmas.{run-push}
use Rattle.ak_world.proofs.IndexLemmas.{set_here, set_or, last_or, push_here}
use Rattle.ak_node.proofs.StepChanges.{step_changes}
use Rattle.ak_world.proofs.WhatHappened.{WasSent, brought, accepts_from, begins, steps, nobody, IsAnswer, happened}

-- ---- what is held of a gossip
pub record Knew (held : List (UniqueModel × Counts)) (g : GossipState) : Type 0 where
  pub each : (u : UniqueModel) → IsTrue (has g.seen u) → Contains held (u, g.version)
  pub no_zero : (u : UniqueModel) → map.get g.version u ≢ Some 0

longer : (held : List (UniqueModel × Counts)) (x : UniqueModel × Counts) (g : GossipState) → Knew held g → Knew (x ∷ held) g
longer held x g k = record { each = λ u seen. contains_rest x (u, g.version) held (k.each u seen); no_zero = k.no_zero }

one_version : (v w : Counts) → ((u : UniqueModel) → map.get v u ≢ Some 0) → ((u : UniqueModel) → map.get w u ≢ Some 0) → Covers v w → Covers w v → v ≡ w
one_version v w p q over under = same_table v w (λ u. same_at (map.get v u) (map.get w u) (p u) (q u) (let a : count w u ≡ count w u = refl in omega (arith, over u, under u)))

bumped_no_zero : (v : Counts) (a u : UniqueModel) → ((q : UniqueModel) → map.get v q ≢ Some 0) → map.get (bumped v a) u ≢ Some 0
bumped_no_zero v a u p e = elim (same_or_apart u a) [
  | inl same ↦ let is : count v a + 1 ≡ 0 = same_Some (count v a + 1) 0 (sym (get-insert_here v a (count v a + 1)) ∙ ap (map.get (bumped v a)) (sym same) ∙ e) in omega arith
  | inr apart ↦ p u (sym (get-insert_elsewhere v a (count v a + 1) u apart) ∙ e)
]

one_alone : (me u : UniqueModel) → IsTrue (has (with_one no_one me) u) → u ≡ me
one_alone me u h = by_case (eq_by_cmp unique_cmp u me) refl (sym (has-with_one no_one me u) ∙ h)
  where
    by_case : (b : Bool) → eq_by_cmp unique_cmp u me ≡ b → (b || has no_one u) ≡ true → u ≡ me
    by_case true is h = same_key u me is
    by_case false is h = absurd (true≢false (sym h ∙ has-no_one u))

-- ---- what one change makes of it, where the process holds then what it knows
module _ (held : List (UniqueModel × Counts)) (me : UniqueModel) (own : GossipState) (k : Knew held own) where
  seen_by_knew : (g : GossipState) → Knew held g → Contains held (me, (seen_by me g).version) → Knew held (seen_by me g)
  seen_by_knew g h now = by_case (is_member g.view.standings me) now
    where
      by_case : (b : Bool) → Contains held (me, (if b then record g { seen = with_one g.seen me } else g).version) → Knew held (if b then record g { seen = with_one g.seen me } else g)
      by_case false here = h
      by_case true here = record {
        each = λ u seen. by_tie u (eq_by_cmp unique_cmp u me) refl (sym (has-with_one g.seen me u) ∙ seen);
        no_zero = h.no_zero;
      }
        where
          by_tie : (u : UniqueModel) (b : Bool) → eq_by_cmp unique_cmp u me ≡ b → (b || has g.seen u) ≡ true → Contains held (u, g.version)
          by_tie u true is seen = subst (λ q. Contains held (q, g.version)) (sym (same_key u me is)) here
          by_tie u false is seen = h.each u seen

  taking : (incoming : GossipState) (a b : Bool) → covers own.version incoming.version ≡ a → covers incoming.version own.version ≡ b → Knew held incoming
      → Contains held (me, (marked_seen me (accepted (relation_by a b) own incoming)).1.version) → Knew held (marked_seen me (accepted (relation_by a b) own incoming)).1
  taking incoming true true p q h now =
      let is : own.version ≡ incoming.version = one_version own.version incoming.version k.no_zero h.no_zero (covers_from_test own.version incoming.version p) (covers_from_test incoming.version own.version q) in
      seen_by_knew (same own incoming) (record {
        each = λ u seen. elim ((same_seen me own incoming u).0 (still u seen)) [
          | inl here ↦ k.each u here
          | inr rest ↦ elim rest [
            | inl there ↦ subst (λ v. Contains held (u, v)) (sym is) (h.each u there.0)
            | inr itself ↦ subst (λ q. Contains held (q, own.version)) (sym itself.0) (subst (λ v. Contains held (me, v)) (version_same (is_member (same own incoming).view.standings me)) now)
          ]
        ];
        no_zero = k.no_zero;
      }) now
    where
      version_same : (b : Bool) → (if b then record (same own incoming) { seen = with_one (same own incoming).seen me } else same own incoming).version ≡ own.version
      version_same true = refl
      version_same false = refl

      still : (u : UniqueModel) → IsTrue (has (same own incoming).seen u) → IsTrue (has (seen_by me (same own incoming)).seen u)
      still u seen = by_case (is_member (same own incoming).view.standings me)
        where
          by_case : (b : Bool) → IsTrue (has (if b then record (same own incoming) { seen = with_one (same own incoming).seen me } else same own incoming).seen u)
          by_case true = has-with_one (same own incoming).seen me u ∙ or_second (eq_by_cmp unique_cmp u me) (has (same own incoming).seen u) seen
            where
              or_second : (a b : Bool) → b ≡ true → (a || b) ≡ true
              or_second true b h = refl
              or_second false b h = h
          by_case false = seen
  taking incoming true false p q h now = k
  taking incoming false true p q h now = seen_by_knew incoming h now
  taking incoming false false p q h now = seen_by_knew (both own incoming) (record {
    each = λ u seen. absurd (true≢false (sym seen ∙ has-no_one u));
    no_zero = λ u e. no_zero_at (map.get own.version u) (map.get incoming.version u) (k.no_zero u) (h.no_zero u) (sym (get-merged_tables max own.version incoming.version u) ∙ e);
  }) now

  pub learnt_knew : (c : Knowledge) → ((g : GossipState) → c ≡ Accepts g → Knew held g) → Contains held (me, (learnt me c own).version) → Knew held (learnt me c own)
  learnt_knew Keeps brings now = k
  learnt_knew (Updates effects) brings now = record {
    each = λ u seen. subst (λ q. Contains held (q, bumped own.version me)) (sym (one_alone me u seen)) now;
    no_zero = λ u. bumped_no_zero own.version me u k.no_zero;
  }
  learnt_knew (Accepts g) brings now = taking g (covers own.version g.version) (covers g.version own.version) refl refl (brings g refl) now

-- ---- a world
pub record Seeing (held : List (UniqueModel × Counts)) (nodes : List State) (packets : List Envelope) : Type 0 where
  pub at_nodes : (index : ℕ) (n : State) → slice_get nodes index ≡ Some n → Knew held (known n)
  pub at_packets : (index : ℕ) (p : Envelope) (g : GossipState) → slice_get packets index ≡ Some p → gossip_of p.message ≡ Some g → Knew held g

abbrev pub IsSeeing : Remembered → Type 0
IsSeeing r = Seeing r.held r.world.nodes r.world.packets

nothing_knew : (held : List (UniqueModel × Counts)) → Knew held nothing_known
nothing_knew held = record { each = λ u seen. absurd (true≢false (sym seen ∙ has-no_one u)); no_zero = λ u e. absurd (true≢false (sym (ap is_some (sym (get-empty u) ∙ e)))) }

module _ (r : Remembered) (s : IsSeeing r) where
  begun : (settings : SettingsModel) (u : UniqueModel) → IsSeeing (remembers (starts settings u r.world) r)
  begun settings u =
      let n = started u settings in
      let now : holding (option_and_then (slice_get (r.world.nodes ++ n ∷ [])) (Some (length r.world.nodes))) r.held ≡ (u, map.empty) ∷ r.held = ap (λ o. holding o r.held) (push_here r.world.nodes n) in
      subst (λ held. Seeing held (r.world.nodes ++ n ∷ []) r.world.packets) (sym now) (record {
        at_nodes = λ j m is. elim (last_or r.world.nodes (n ∷ []) j m is) [
          | inl new ↦ elim (first_or_rest n m [] new) [ inl same ↦ subst (λ (x : State). Knew ((u, map.empty) ∷ r.held) (known x)) (sym same) (nothing_knew _) | inr none ↦ absurd (contains_nothing m none) ]
          | inr old ↦ longer r.held _ (known m) (s.at_nodes j m old)
        ];
        at_packets = λ j p g is carries. longer r.held _ g (s.at_packets j p g is carries);
      })

  module _ (e : NodeEvent) (index : ℕ) (n : State) (founded : Bool) (at : slice_get r.world.nodes index ≡ Some n) (runs : IsTrue n.runs) (was_sent : WasSent r.world e) where
    brought_knew : (g : GossipState) → (given_by e).brings ≡ Some g → Knew r.held g
    brought_knew g brings = let from = brought r.world e was_sent g brings in s.at_packets from.0 from.1 g from.2 from.3

    given : IsSeeing (remembers (stepped index (step e n) (record r.world { founded = founded })) r)
    given =
        let o : Outcome = step e n in
        let c = step_changes e n runs in
        let held : List (UniqueModel × Counts) = (me_of o.0, (known o.0).version) ∷ r.held in
        let here : Contains held (me_of n, (learnt (me_of n) c.knowledge (known n)).version) =
        subst (λ q. Contains held (q, (learnt (me_of n) c.knowledge (known n)).version)) c.same_me (subst (λ (g : GossipState). Contains held (me_of o.0, g.version)) c.knows (contains_first _ r.held)) in
        let knew : Knew held (known o.0) =
        subst (Knew held) (sym c.knows)
        (learnt_knew held (me_of n) (known n) (longer r.held _ (known n) (s.at_nodes index n at)) c.knowledge (λ g is. longer r.held _ g (brought_knew g (accepts_from (given_by e) n.membership c.knowledge g is c.lawful))) here) in
        subst (λ h. Seeing h (slice_set r.world.nodes index o.0) (r.world.packets ++ sent o.1)) (sym (ap (λ x. holding x r.held) (set_here r.world.nodes index n o.0 at))) (record {
          at_nodes = λ j m is. elim (set_or r.world.nodes index j o.0 m is) [ inl same ↦ subst (λ (x : State). Knew held (known x)) (sym same) knew | inr old ↦ longer r.held _ (known m) (s.at_nodes j m old) ];
          at_packets = λ j p g is carries. elim (last_or r.world.packets (sent o.1) j p is) [
            | inl new ↦ subst (Knew held) (sym (c.carried p g new carries)) knew
            | inr old ↦ longer r.held _ g (s.at_packets j p g old carries)
          ];
        })

  pub answered_seeing : (settings : SettingsModel) (a : Result Done Reason) → IsAnswer settings r.world a → IsSeeing (remembers_answer r a)
  answered_seeing settings (Err why) is = s
  answered_seeing settings (Ok done) is = elim is as (λ d h. IsSeeing (remembers d r)) [
    | begins u unknown free listed few ↦ begun settings u
    | steps e index n founded at runs was_sent ↦ given e index n founded at runs was_sent
    | nobody ↦ s
  ]

pub run_seeing : (settings : SettingsModel) (r : Remembered) (events : List Event) → IsSeeing r → IsSeeing (remembered_from settings r events)
run_seeing settings r [] s = s
run_seeing settings r (e ∷ events) s = run_seeing settings (remembers_answer r (happens settings e r.world)) events (answered_seeing r s settings (happens settings e r.world) (happened settings r.world e))

-- ---- in the words of the run
-- a process held this version after some events with which the past begins
record WasHeld (settings : SettingsModel) (past : List Event) (who : UniqueModel) (version : Counts) : Type 0 where
  first : List Event
  more : List Event
  parts : past ≡ first ++ more
  holds : Holds (run settings first) who version

one_more : (settings : SettingsModel) (past : List Event) (e : Event) (u : UniqueModel) (v : Counts) → WasHeld settings past u v → WasHeld settings (past ++ e ∷ []) u v
one_more settings past e u v h = record {
  first = h.first;
  more = h.more ++ e ∷ [];
  parts = ap (λ (l : List Event). l ++ e ∷ []) h.parts ∙ append_assoc h.first h.more (e ∷ []);
  holds = h.holds;
}

abbrev AllHeld : SettingsModel → List Event → Remembered → Type 0
AllHeld settings past r = (u : UniqueModel) (v : Counts) → Contains r.held (u, v) → WasHeld settings past u v

pub no_more : (l : List Event) → l ++ [] ≡ l
no_more [] = refl
no_more (x ∷ l) = ap (λ (m : List Event). x ∷ m) (no_more l)

module _ (settings : SettingsModel) (past : List Event) (e : Event) (r : Remembered) (is_run : r.world ≡ run settings past) (all : AllHeld settings past r) where
  newest : (w : WorldState) → w ≡ run settings (past ++ e ∷ []) → (o : Option ℕ) → AllHeld settings (past ++ e ∷ []) (record { world = w; held = holding (option_and_then (slice_get w.nodes) o) r.held; based = [] })
  newest w is None u v there = one_more settings past e u v (all u v there)
  newest w is (Some index) u v there = by_node (slice_get w.nodes index) refl there
    where
      by_node : (o : Option State) → slice_get w.nodes index ≡ o → Contains (holding o r.held) (u, v) → WasHeld settings (past ++ e ∷ []) u v
      by_node None at there = one_more settings past e u v (all u v there)
      by_node (Some n) at there = elim (first_or_rest (me_of n, (known n).version) (u, v) r.held there) [
        | inl same ↦ record {
          first = past ++ e ∷ [];
          more = [];
          parts = sym (no_more (past ++ e ∷ []));
          holds = record {
            index = index;
            node = n;
            at = subst (λ (x : WorldState). slice_get x.nodes index ≡ Some n) is at;
            is_who = sym (ap (λ (x : UniqueModel × Counts). x.0) same);
            version_is = sym (ap (λ (x : UniqueModel × Counts). x.1) same);
          };
        }
        | inr old ↦ one_more settings past e u v (all u v old)
      ]

  pushed : run settings (past ++ e ∷ []) ≡ after (run settings past) (happens settings e (run settings past))
  pushed = run-push settings empty_world past e

  answer_held : (a : Result Done Reason) → after r.world a ≡ run settings (past ++ e ∷ []) → AllHeld settings (past ++ e ∷ []) (remembers_answer r a)
  answer_held (Ok done) is = newest done.world is done.node
  answer_held (Err why) is = λ u v there. one_more settings past e u v (all u v there)

  next_held : AllHeld settings (past ++ e ∷ []) (remembers_answer r (happens settings e r.world))
  next_held = answer_held (happens settings e r.world) (ap (λ (w : WorldState). after w (happens settings e w)) is_run ∙ sym pushed)

  next_world : (remembers_answer r (happens settings e r.world)).world ≡ run settings (past ++ e ∷ [])
  next_world = answer-world r (happens settings e r.world) ∙ ap (λ (w : WorldState). after w (happens settings e w)) is_run ∙ sym pushed

all_held : (settings : SettingsModel) (past : List Event) (r : Remembered) (events : List Event) → r.world ≡ run settings past → AllHeld settings past r → AllHeld settings (past ++ events) (remembered_from settings r events)
all_held settings past r [] is_run all = subst (λ (l : List Event). AllHeld settings l r) (sym (no_more past)) all
all_held settings past r (e ∷ events) is_run all =
    subst (λ (l : List Event). AllHeld settings l (remembered_from settings (remembers_answer r (happens settings e r.world)) events)) (append_assoc past (e ∷ []) events)
    (all_held settings (past ++ e ∷ []) (remembers_answer r (happens settings e r.world)) events (next_world settings past e r is_run all) (next_held settings past e r is_run all))

pub take_first : (first more : List Event) → take (length first) (first ++ more) ≡ first
take_first [] more = refl
take_first (x ∷ first) more = ap (λ (l : List Event). x ∷ l) (take_first first more)

pub remembered_held : (settings : SettingsModel) (events : List Event) (u : UniqueModel) (v : Counts) → Contains (remembered settings events).held (u, v) → Held settings events u v
remembered_held settings events u v there =
    let h = all_held settings [] nothing_remembered events refl (λ w x none. absurd (contains_nothing (w, x) none)) u v there in
    record {
      time = length h.first;
      holds = subst (λ (l : List Event). Holds (run settings l) u v) (sym (ap (take (length h.first)) h.parts ∙ take_first h.first h.more)) h.holds;
    }

known_seen : (r : Remembered) → IsSeeing r → (g : GossipState) → IsIn g r.world → Knew r.held g
known_seen r s g (inl there) = subst (Knew r.held) there.3 (s.at_nodes there.0 there.1 there.2)
known_seen r s g (inr there) = s.at_packets there.0 there.1 g there.2 there.3

pub remembered_seeing : (settings : SettingsModel) (events : List Event) → IsSeeing (remembered settings events)
remembered_seeing settings events = run_seeing settings nothing_remembered events (record { at_nodes = λ index n at. absurd (cc); at_packets = λ index p h at carries. absurd (cc) })

-- each process in a seen set held exactly that version
pub seen_held : (settings : SettingsModel) (events : List Event) (g : GossipState) → IsIn g (run settings events) → (u : UniqueModel) → IsTrue (has g.seen u) → Held settings events u g.version
seen_held settings events g is_in u seen =
    let r : Remembered = remembered settings events in
    remembered_held settings events u g.version ((known_seen r (remembered_seeing settings events) g (subst (IsIn g) (sym (remembered-world settings nothing_remembered events)) is_in)).each u seen)

pub seen-of_run : (settings : SettingsModel) (events : List Event) (w : WorldState) → w ≡ run settings events → (g : GossipState) → IsIn g w → (u : UniqueModel) → IsTrue (has g.seen u) → Held settings events u g.version
seen-of_run settings events w is_run g is_in = seen_held settings events g (subst (IsIn g) is_run is_in)
