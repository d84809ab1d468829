-- What one process held stands in the order of time: a node covers all that it held before.
use Rattle.std.proofs.Common.{◌≡◌, ℕ, zero, suc, Bool, false, ◌⊎◌, inl, inr, List, [], ◌∷◌, ◌++◌, length, take, Some, Result, Ok, Err, slice_get, slice_set, Contains, IsTrue, ◌≤◌, refl, sym, ap, ◌∙◌, subst, arith}
use Rattle.std.proofs.lemmas.Option.{same_Some}
use Rattle.ak_address.specs.Unique.{UniqueModel}
use Rattle.ak_clock.specs.Version.{Counts, Covers}
use Rattle.ak_clock.proofs.VersionLaws.{covers_itself, covers_along, covers_equal}
use Rattle.ak_gossip.specs.Gossip.{GossipState}
use Rattle.ak_address.proofs.Elements.{first_or_rest}
use Rattle.ak_settings.specs.Settings.{SettingsModel}
use Rattle.ak_schedule.specs.declared.event.Event.{Event}
use Rattle.ak_node.specs.declared.node.State.{State}
use Rattle.ak_node.specs.declared.node.NodeEvent.{NodeEvent}
use Rattle.ak_node.specs.Node.{Outcome, known, me_of, started, step}
use Rattle.ak_world.specs.declared.world.Reason.{Reason}
use Rattle.std.specs.List.{list_any}
use Rattle.ak_world.proofs.RememberedLemmas.{answer-world}
use Rattle.ak_world.specs.World.{WorldState, Done, empty_world, is_process, stepped, starts, happens, after, run_from, run}
use Rattle.ak_world.specs.Remembered.{Remembered, holding, remembers, remembers_answer, remembered_from}
use Rattle.ak_world.specs.Held.{Holds}
use Rattle.ak_world.proofs.FoldRuns.{IsSound, happens_next, run_sound, run-append, unlike, one_node}
use Rattle.ak_membership.proofs.MembershipLemmas.{learnt_covers}
use Rattle.ak_node.proofs.StepChanges.{step_changes}
use Rattle.ak_world.proofs.IndexLemmas.{set_here, set_elsewhere, push_here, prefix_at}
use Rattle.ak_world.proofs.WhatHappened.{begins, steps, nobody, IsAnswer, happened}

-- the node that is this process covers this version
pub record Over (nodes : List State) (who : UniqueModel) (v : Counts) : Type 0 where
  pub index : ℕ
  pub node : State
  pub at : slice_get nodes index ≡ Some node
  pub is_who : me_of node ≡ who
  pub over : Covers (known node).version v

-- ---- each event keeps what nodes cover
pub step_covers : (e : NodeEvent) (n : State) → IsTrue n.runs → Covers (known (step e n).0).version (known n).version
step_covers e n runs = let c = step_changes e n runs in subst (λ (g : GossipState). Covers g.version (known n).version) (sym c.knows) (learnt_covers (me_of n) c.knowledge (known n))

module _ (nodes : List State) (e : NodeEvent) (index : ℕ) (n : State) (at : slice_get nodes index ≡ Some n) (runs : IsTrue n.runs) where
  stepped_over : (who : UniqueModel) (v : Counts) → Over nodes who v → Over (slice_set nodes index (step e n).0) who v
  stepped_over who v h = elim (set_elsewhere nodes index h.index (step e n).0 h.node h.at) [
    | inl is ↦
        let node_is : h.node ≡ n = same_Some h.node n (sym h.at ∙ ap (slice_get nodes) is ∙ at) in
        record {
          index = index;
          node = (step e n).0;
          at = set_here nodes index n (step e n).0 at;
          is_who = (step_changes e n runs).same_me ∙ ap me_of (sym node_is) ∙ h.is_who;
          over = covers_along (known (step e n).0).version (known n).version v (step_covers e n runs) (subst (λ (x : State). Covers (known x).version v) node_is h.over);
        }
    | inr there ↦ record { index = h.index; node = h.node; at = there; is_who = h.is_who; over = h.over }
  ]

begun_over : (nodes : List State) (n : State) (who : UniqueModel) (v : Counts) → Over nodes who v → Over (nodes ++ n ∷ []) who v
begun_over nodes n who v h = record { index = h.index; node = h.node; at = prefix_at nodes (n ∷ []) h.index h.node h.at; is_who = h.is_who; over = h.over }

answered_over : (settings : SettingsModel) (w : WorldState) (a : Result Done Reason) → IsAnswer settings w a → (who : UniqueModel) (v : Counts) → Over w.nodes who v → Over (after w a).nodes who v
answered_over settings w (Err why) is who v h = h
answered_over settings w (Ok done) is who v h = elim is as (λ d k. Over d.world.nodes who v) [
  | begins u unknown free listed few ↦ begun_over w.nodes (started u settings) who v h
  | steps e index n founded at runs was_sent ↦ stepped_over w.nodes e index n at runs who v h
  | nobody ↦ h
]

pub run_over : (settings : SettingsModel) (w : WorldState) (events : List Event) (who : UniqueModel) (v : Counts) → Over w.nodes who v → Over (run_from settings w events).nodes who v
run_over settings w [] who v h = h
run_over settings w (e ∷ events) who v h = run_over settings (after w (happens settings e w)) events who v (answered_over settings w (happens settings e w) (happened settings w e) who v h)

-- ---- in the words of the run
pub later_take : (i j : ℕ) (events : List Event) → i ≤ j → (more : List Event) × (take j events ≡ take i events ++ more)
later_take zero j events le = (take j events, refl)
later_take (suc i) zero events le = absurd (omega arith)
later_take (suc i) (suc j) [] le = ([], refl)
later_take (suc i) (suc j) (e ∷ events) le = let h = later_take i j events (omega arith) in (h.0, ap (λ (l : List Event). e ∷ l) h.1)

-- of two versions that one process held, the later covers the earlier
pub held_in_order : (settings : SettingsModel) (events : List Event) (i j : ℕ) (who : UniqueModel) (earlier later : Counts) → i ≤ j
    → Holds (run settings (take i events)) who earlier → Holds (run settings (take j events)) who later → Covers later earlier
held_in_order settings events i j who earlier later le first second =
    let more = later_take i j events le in
    let then_world : run settings (take j events) ≡ run_from settings (run settings (take i events)) more.0 = ap (run settings) more.1 ∙ run-append settings empty_world (take i events) more.0 in
    let start : Over (run settings (take i events)).nodes who earlier = record { index = first.index; node = first.node; at = first.at; is_who = first.is_who; over = covers_equal (known first.node).version earlier first.version_is } in
    let end : Over (run settings (take j events)).nodes who earlier = subst (λ (w : WorldState). Over w.nodes who earlier) (sym then_world) (run_over settings (run settings (take i events)) more.0 who earlier start) in
    let one : end.node ≡ second.node = one_node (run settings (take j events)) (run_sound settings (take j events)) end.index second.index end.node second.node end.at second.at (end.is_who ∙ sym second.is_who) in
    subst (λ v. Covers v earlier) (ap (λ (x : State). (known x).version) one ∙ second.version_is) end.over

-- ---- beside a world
pub record InOrder (held : List (UniqueModel × Counts)) (nodes : List State) : Type 0 where
  pub below : (who : UniqueModel) (v : Counts) → Contains held (who, v) → Over nodes who v
  pub comparable : (who : UniqueModel) (v w : Counts) → Contains held (who, v) → Contains held (who, w) → Covers v w ⊎ Covers w v

-- one more version, of a node that covers all that its process held
pushed : (held : List (UniqueModel × Counts)) (nodes : List State) (index : ℕ) (n : State) → slice_get nodes index ≡ Some n
    → ((who : UniqueModel) (v : Counts) → Contains held (who, v) → Over nodes who v)
    → ((v : Counts) → Contains held (me_of n, v) → Covers (known n).version v)
    → ((who : UniqueModel) (v w : Counts) → Contains held (who, v) → Contains held (who, w) → Covers v w ⊎ Covers w v)
    → InOrder ((me_of n, (known n).version) ∷ held) nodes
pushed held nodes index n at below over comparable = record {
  below = λ who v there. elim (first_or_rest (me_of n, (known n).version) (who, v) held there) [
    | inl is ↦ record { index = index; node = n; at = at; is_who = sym (ap (λ (x : UniqueModel × Counts). x.0) is); over = subst (Covers (known n).version) (sym (ap (λ (x : UniqueModel × Counts). x.1) is)) (covers_itself (known n).version) }
    | inr old ↦ below who v old
  ];
  comparable = λ who v w first second. elim (first_or_rest (me_of n, (known n).version) (who, v) held first) [
    | inl is ↦ elim (first_or_rest (me_of n, (known n).version) (who, w) held second) [
      | inl js ↦ inl (subst (λ x. Covers x w) (sym (ap (λ (x : UniqueModel × Counts). x.1) is)) (subst (Covers (known n).version) (sym (ap (λ (x : UniqueModel × Counts). x.1) js)) (covers_itself (known n).version)))
      | inr old ↦ inl (subst (λ x. Covers x w) (sym (ap (λ (x : UniqueModel × Counts). x.1) is)) (over w (subst (λ q. Contains held (q, w)) (ap (λ (x : UniqueModel × Counts). x.0) is) old)))
    ]
    | inr before ↦ elim (first_or_rest (me_of n, (known n).version) (who, w) held second) [
      | inl js ↦ inr (subst (λ x. Covers x v) (sym (ap (λ (x : UniqueModel × Counts). x.1) js)) (over v (subst (λ q. Contains held (q, v)) (ap (λ (x : UniqueModel × Counts). x.0) js) before)))
      | inr old ↦ comparable who v w before old
    ]
  ];
}

module _ (r : Remembered) (sound : IsSound r.world) (s : InOrder r.held r.world.nodes) where
  given : (e : NodeEvent) (index : ℕ) (n : State) (founded : Bool) → slice_get r.world.nodes index ≡ Some n → IsTrue n.runs
      → InOrder (remembers (stepped index (step e n) (record r.world { founded = founded })) r).held (slice_set r.world.nodes index (step e n).0)
  given e index n founded at runs =
      let o : Outcome = step e n in
      let here = set_here r.world.nodes index n o.0 at in
      subst (λ h. InOrder h (slice_set r.world.nodes index o.0)) (sym (ap (λ x. holding x r.held) here))
      (pushed r.held (slice_set r.world.nodes index o.0) index o.0 here
      (λ who v there. stepped_over r.world.nodes e index n at runs who v (s.below who v there))
      (λ v there. covers_along (known o.0).version (known n).version v (step_covers e n runs) (own_over v (subst (λ q. Contains r.held (q, v)) (step_changes e n runs).same_me there)))
      s.comparable)
    where
      own_over : (v : Counts) → Contains r.held (me_of n, v) → Covers (known n).version v
      own_over v there =
          let h = s.below (me_of n) v there in
          subst (λ (x : State). Covers (known x).version v) (one_node r.world sound h.index index h.node n h.at at h.is_who) h.over

  begun : (settings : SettingsModel) (u : UniqueModel) → list_any (is_process u) r.world.nodes ≡ false → InOrder (remembers (starts settings u r.world) r).held (r.world.nodes ++ started u settings ∷ [])
  begun settings u unknown =
      let n : State = started u settings in
      let here = push_here r.world.nodes n in
      subst (λ h. InOrder h (r.world.nodes ++ n ∷ [])) (sym (ap (λ x. holding x r.held) here))
      (pushed r.held (r.world.nodes ++ n ∷ []) (length r.world.nodes) n here
      (λ who v there. begun_over r.world.nodes n who v (s.below who v there))
      (λ v there. let h = s.below u v there in absurd (unlike u r.world.nodes unknown h.index h.node h.at h.is_who))
      s.comparable)

  pub answered_in_order : (settings : SettingsModel) (a : Result Done Reason) → IsAnswer settings r.world a → InOrder (remembers_answer r a).held (remembers_answer r a).world.nodes
  answered_in_order settings (Err why) is = s
  answered_in_order settings (Ok done) is = elim is as (λ d h. InOrder (remembers d r).held d.world.nodes) [
    | begins u unknown free listed few ↦ begun settings u unknown
    | steps e index n founded at runs was_sent ↦ given e index n founded at runs
    | nobody ↦ s
  ]

pub run_in_order : (settings : SettingsModel) (r : Remembered) (events : List Event) → IsSound r.world → InOrder r.held r.world.nodes → InOrder (remembered_from settings r events).held (remembered_from settings r events).world.nodes
run_in_order settings r [] sound s = s
run_in_order settings r (e ∷ events) sound s =
    run_in_order settings (remembers_answer r (happens settings e r.world)) events
    (subst IsSound (sym (answer-world r (happens settings e r.world))) (happens_next settings e r.world sound).sound)
    (answered_in_order r sound s settings (happens settings e r.world) (happened settings r.world e))
