-- Which answers an event has: what an accepted one did, and that an event which may happen is refused for packets alone.
use Rattle.std.proofs.Common.{◌≡◌, inl, inr, ℕ, zero, suc, ◌-◌, ◌==◌, ◌<◌, ◌≤◌, Bool, true, false, not, leb, List, [], ◌∷◌, map, reverse, length, slice_get, Contains, Option, Some, None, is_some, Result, Ok, Err, IsTrue, if◌then◌else◌, refl, sym, ap, ◌∙◌, subst, arith, true≢false}
use Rattle.std.specs.List.{list_any}
use Rattle.std.specs.Ordering.{is_eq}
use Rattle.std.specs.declared.cmp.Ordering.{Ordering}
use Rattle.std.specs.declared.cmp.Ordering.TheVariants.{Less, Equal, Greater}
use Rattle.std.specs.Cmp.{first_so, second_so}
use Rattle.std.proofs.lemmas.Cmp.{tied_itself}
use Rattle.std.proofs.lemmas.List.{reverse-append, length-reverse, length-map}
use Rattle.std.proofs.lemmas.Option.{same_Some}
use Rattle.std.proofs.lemmas.Bool.{eqb-true, leb-true, leb-false, false_from_ne_true, not_from_true}
use Rattle.ak_address.specs.Unique.{AddressModel, UniqueModel, address_cmp, unique_cmp}
use Rattle.ak_address.proofs.Elements.{any_there, any_found, map_in, contains_at, index_of, contains_left, contains_right, contains_first, first_or_rest, contains_nothing}
use Rattle.ak_address.proofs.OrderLemmas.{address_total, address_exact}
use Rattle.ak_address.proofs.TableLaws.{key_itself}
use Rattle.ak_address.proofs.BoolLemmas.{not_false}
use Rattle.ak_settings.specs.Settings.{is_entity_in, is_listed}
use Rattle.ak_schedule.specs.declared.event.Event.{Event}
use Rattle.ak_schedule.specs.declared.event.Event.TheVariants.{Start, Found, Join, Tick, Deliver, Leave, Down, Offer, Stop}
use Rattle.ak_wire.specs.declared.envelope.Envelope.{Envelope}
use Rattle.ak_node.specs.declared.node.State.{State}
use Rattle.ak_node.specs.declared.node.NodeEvent.{NodeEvent}
use Rattle.ak_node.specs.declared.node.NodeEvent.TheVariants as event
use Rattle.ak_node.specs.Node.{me_of, is_for, step}
use Rattle.ak_generate.specs.Fixed.{addresses, fixed}
use Rattle.ak_generate.specs.Census.{MayHappen, MayStart, started_by, founded_by, Starts, IsGiven, Follows}
use Rattle.ak_world.specs.declared.world.Reason.{Reason}
use Rattle.ak_world.specs.declared.world.Reason.TheVariants as reason
use Rattle.ak_world.specs.Margin.{Runs}
use Rattle.ak_world.specs.World.{WorldState, Done, stepped, gives, acts_at, acts, arrives, delivers, starts, packet_at, is_process, is_in_use, runs_at, is_full, node_of, receiver_of, is_reached, most_starts, unless_bad, happens}
use Rattle.ak_world.proofs.WhatHappened.{position_passes}
use Rattle.ak_world.proofs.WorldLemmas.{is_some-position, position-within}
use Rattle.ak_sweeps.proofs.Censuses.{census_of, running_there, there_running, is_who_of, step_follows, nothing_follows, start_follows}

-- ---- what an accepted event did
unless_ok : (b : Bool) (why : Reason) (r : Result Done Reason) (done : Done) → (if b then Err why else r) ≡ Ok done → (b ≡ false) × (r ≡ Ok done)
unless_ok true why r done is = absurd (cc)
unless_ok false why r done is = (refl, is)

abbrev ok : Done → Result Done Reason
ok done = Ok done

not_bad_ok : (b : Bool) (r : Result Done Reason) (done : Done) → unless_bad b r ≡ Ok done → r ≡ Ok done
not_bad_ok true r done is = is
not_bad_ok false (Ok d) done is = absurd (cc)
not_bad_ok false (Err why) done is = absurd (cc)

same_done : (one done : Done) (P : Done → Type 0) → ok one ≡ ok done → P one → P done
same_done one done P is p = subst P (let e : one ≡ done = cc in e) p

module _ (w : WorldState) (happened : Event) where
  abbrev AfterIt : Done → Type 0
  AfterIt done = Follows (census_of w) happened (census_of done.world)

  module _ (keeps : (us : List UniqueModel) → started_by happened us ≡ us) (nobody : (one : UniqueModel) → Starts happened one → ⊥) where
    given_follows : (e : NodeEvent) (index : ℕ) (o : Option State) (founded : Bool) (done : Done) → slice_get w.nodes index ≡ o → ((n : State) → o ≡ Some n → IsTrue n.runs)
        → ((n : State) → o ≡ Some n → IsGiven happened (me_of n)) → founded ≡ founded_by happened w.founded → gives e index o (record w { founded = founded }) ≡ Ok done → AfterIt done
    given_follows e index (Some n) founded done at runs given founds is =
        same_done (stepped index (step e n) (record w { founded = founded })) done AfterIt is (step_follows w happened e index n founded at (runs n refl) keeps founds nobody (given n refl))
    given_follows e index None founded done at runs given founds is = absurd (cc)

    acted_follows : (e : NodeEvent) (index : ℕ) (o : Option State) (founded : Bool) (done : Done) → slice_get w.nodes index ≡ o → ((n : State) → o ≡ Some n → IsGiven happened (me_of n))
        → founded ≡ founded_by happened w.founded → acts_at e index o (record w { founded = founded }) ≡ Ok done → AfterIt done
    acted_follows e index (Some n) founded done at given founds is =
        let running = unless_ok (not n.runs) reason.NodeStopped _ done is in
        let room = unless_ok (is_full w) reason.TooManyPackets _ done running.1 in
        given_follows e index (Some n) founded done at (λ m same. subst (λ (s : State). IsTrue s.runs) (same_Some n m same) (not_false n.runs running.0)) given founds room.1
    acted_follows e index None founded done at given founds is = absurd (cc)

    acts_follows : (e : NodeEvent) (u : UniqueModel) (founded : Bool) (done : Done) → IsGiven happened u → founded ≡ founded_by happened w.founded
        → acts e (node_of u w) (record w { founded = founded }) ≡ Ok done → AfterIt done
    acts_follows e u founded done given founds is = by_index (node_of u w) refl is
      where
        by_index : (o : Option ℕ) → node_of u w ≡ o → acts e o (record w { founded = founded }) ≡ Ok done → AfterIt done
        by_index (Some index) found is =
            acted_follows e index (slice_get w.nodes index) founded done refl
            (λ n at. subst (IsGiven happened) (sym (is_who_of u n (position_passes (is_process u) w.nodes index n found at))) given) founds is
        by_index None found is = absurd (cc)

delivered_follows : (w : WorldState) (number : ℕ) (o : Option Envelope) (done : Done) → delivers o w ≡ Ok done → Follows (census_of w) (Deliver number) (census_of done.world)
delivered_follows w number (Some p) done is = by_index (receiver_of p w) refl (unless_ok (is_full w) reason.TooManyPackets _ done is).1
  where
    by_index : (o : Option ℕ) → receiver_of p w ≡ o → arrives p o w ≡ Ok done → Follows (census_of w) (Deliver number) (census_of done.world)
    by_index (Some index) found is =
        given_follows w (Deliver number) (λ us. refl) (λ one never. never) (event.Packet p) index (slice_get w.nodes index) w.founded done refl
        (λ n at. first_so n.runs (is_for (me_of n) p) (position_passes (is_reached p) w.nodes index n found at)) (λ n at. tt) refl is
    by_index None found is = same_done (record { world = w; node = None; actions = [] }) done (λ d. Follows (census_of w) (Deliver number) (census_of d.world)) is (nothing_follows w number)
delivered_follows w number None done is = absurd (cc)

-- what an accepted event made of a world follows
pub happened_follows : (w : WorldState) (e : Event) (done : Done) → happens fixed e w ≡ Ok done → Follows (census_of w) e (census_of done.world)
happened_follows w (Start u) done is =
    let listed = unless_ok (not (is_listed fixed.listed u.address)) reason.Unlisted _ done is in
    let unknown = unless_ok (list_any (is_process u) w.nodes) reason.UniqueUsed _ done listed.1 in
    let free = unless_ok (is_in_use u.address w) reason.AddressInUse _ done unknown.1 in
    let room = unless_ok (is_full w) reason.TooManyPackets _ done free.1 in
    let few = unless_ok (leb most_starts (length w.nodes)) reason.TooManyStarts _ done room.1 in
    same_done (starts fixed u w) done (λ d. Follows (census_of w) (Start u) (census_of d.world)) few.1 (start_follows w u)
happened_follows w (Found u) done is = acts_follows w (Found u) (λ us. refl) (λ one never. never) event.Found u true done refl refl (unless_ok w.founded reason.SecondFound _ done is).1
happened_follows w (Join u target) done is =
    acts_follows w (Join u target) (λ us. refl) (λ one never. never) (event.Join target) u w.founded done refl refl (unless_ok (not (is_listed fixed.listed target)) reason.Unlisted _ done is).1
happened_follows w (Tick u word) done is = acts_follows w (Tick u word) (λ us. refl) (λ one never. never) (event.Tick word) u w.founded done refl refl is
happened_follows w (Deliver number) done is = delivered_follows w number (packet_at w number) done is
happened_follows w (Leave u who) done is = acts_follows w (Leave u who) (λ us. refl) (λ one never. never) (event.Leave who) u w.founded done refl refl is
happened_follows w (Down u who) done is = acts_follows w (Down u who) (λ us. refl) (λ one never. never) (event.Down who) u w.founded done refl refl is
happened_follows w (Offer u entity payload) done is = acts_follows w (Offer u entity payload) (λ us. refl) (λ one never. never) (event.Offer entity payload) u w.founded done refl refl (not_bad_ok (is_entity_in fixed entity) _ done is)
happened_follows w (Stop u) done is = acts_follows w (Stop u) (λ us. refl) (λ one never. never) event.Stop u w.founded done refl refl is

-- where a process could start there not_false room for packets
pub start_room : (w : WorldState) (u : UniqueModel) (done : Done) → happens fixed (Start u) w ≡ Ok done → length w.packets < 200000
start_room w u done is =
    let listed = unless_ok (not (is_listed fixed.listed u.address)) reason.Unlisted _ done is in
    let unknown = unless_ok (list_any (is_process u) w.nodes) reason.UniqueUsed _ done listed.1 in
    let free = unless_ok (is_in_use u.address w) reason.AddressInUse _ done unknown.1 in
    let room = unless_ok (is_full w) reason.TooManyPackets _ done free.1 in
    leb-false 200000 (length w.packets) room.0

-- ---- an event that may happen is refused for packets alone
-- accepted, or refused because too many packets were sent
abbrev pub IsFullAtMost : Result Done Reason → Type 0
IsFullAtMost (Ok done) = Unit {0}
IsFullAtMost (Err reason.Unlisted) = ⊥
IsFullAtMost (Err reason.UniqueUsed) = ⊥
IsFullAtMost (Err reason.AddressInUse) = ⊥
IsFullAtMost (Err reason.SecondFound) = ⊥
IsFullAtMost (Err reason.UnknownNode) = ⊥
IsFullAtMost (Err reason.NodeStopped) = ⊥
IsFullAtMost (Err (reason.NoPacket sent)) = ⊥
IsFullAtMost (Err reason.TooManyPackets) = Unit {0}
IsFullAtMost (Err reason.TooManyStarts) = ⊥
IsFullAtMost (Err reason.BadEntity) = ⊥

pub full_is : (why : Reason) → IsFullAtMost (Err why) → why ≡ reason.TooManyPackets
full_is reason.Unlisted never = absurd never
full_is reason.UniqueUsed never = absurd never
full_is reason.AddressInUse never = absurd never
full_is reason.SecondFound never = absurd never
full_is reason.UnknownNode never = absurd never
full_is reason.NodeStopped never = absurd never
full_is (reason.NoPacket sent) never = absurd never
full_is reason.TooManyPackets h = refl
full_is reason.TooManyStarts never = absurd never
full_is reason.BadEntity never = absurd never

unless_not : (b : Bool) (why : Reason) (r : Result Done Reason) → b ≡ false → IsFullAtMost r → IsFullAtMost (if b then Err why else r)
unless_not true why r never h = absurd (true≢false never)
unless_not false why r is h = h

unless_full : (b : Bool) (r : Result Done Reason) → IsFullAtMost r → IsFullAtMost (if b then Err reason.TooManyPackets else r)
unless_full true r h = tt
unless_full false r h = h

element_at : {X : Type 0} (xs : List X) (i : ℕ) → i < length xs → (x : X) × (slice_get xs i ≡ Some x)
element_at [] i lt = absurd (omega arith)
element_at (x ∷ xs) zero lt = (x, refl)
element_at (x ∷ xs) (suc i) lt = element_at xs i (omega arith)

is_equal : (o : Ordering) → is_eq o ≡ true → o ≡ Equal
is_equal Less is = absurd (true≢false (sym is))
is_equal Equal is = refl
is_equal Greater is = absurd (true≢false (sym is))

contains_reversed : {X : Type 0} (xs : List X) (x : X) → Contains xs x → Contains (reverse xs) x
contains_reversed [] x there = absurd (contains_nothing x there)
contains_reversed (y ∷ xs) x there = subst (λ ys. Contains ys x) (sym (reverse-append (y ∷ []) xs)) (elim (first_or_rest y x xs there) [
  | inl same ↦ contains_right (reverse xs) (y ∷ []) x (subst (Contains (y ∷ [])) (sym same) (contains_first y []))
  | inr later ↦ contains_left (reverse xs) (y ∷ []) x (contains_reversed xs x later)
])

abbrev pub AreApart : WorldState → Type 0
AreApart w = (i j : ℕ) (n m : State) → slice_get w.nodes i ≡ Some n → slice_get w.nodes j ≡ Some m → me_of n ≡ me_of m → i ≡ j

listed_there : (a : AddressModel) → Contains addresses a → is_listed fixed.listed a ≡ true
listed_there a there = any_there (λ b. is_eq (address_cmp b a)) addresses a there (ap is_eq (tied_itself address_total a))

module _ (w : WorldState) (apart : AreApart w) where
  gives_answer : (e : NodeEvent) (index : ℕ) (founded : Bool) → index < length w.nodes → IsFullAtMost (gives e index (slice_get w.nodes index) (record w { founded = founded }))
  gives_answer e index founded lt =
      let there = element_at w.nodes index lt in
      subst (λ o. IsFullAtMost (gives e index o (record w { founded = founded }))) (sym there.1) tt

  acts_answer : (e : NodeEvent) (u : UniqueModel) (founded : Bool) → Runs w.nodes u → IsFullAtMost (acts e (node_of u w) (record w { founded = founded }))
  acts_answer e u founded r = by_index (node_of u w) refl
    where
      by_node : (index : ℕ) (n : State) → slice_get w.nodes index ≡ Some n → me_of n ≡ u → IsFullAtMost (acts_at e index (Some n) (record w { founded = founded }))
      by_node index n at who =
          let same : index ≡ r.index = apart index r.index n r.node at r.at (who ∙ sym r.is_who) in
          let one : n ≡ r.node = same_Some n r.node (sym at ∙ ap (slice_get w.nodes) same ∙ r.at) in
          unless_not (not n.runs) reason.NodeStopped _ (not_from_true n.runs (ap (λ (s : State). s.runs) one ∙ r.runs)) (unless_full (is_full w) _ tt)

      by_index : (o : Option ℕ) → node_of u w ≡ o → IsFullAtMost (acts e o (record w { founded = founded }))
      by_index (Some index) found =
          let there = element_at w.nodes index (position-within (is_process u) w.nodes index found) in
          subst (λ o. IsFullAtMost (acts_at e index o (record w { founded = founded }))) (sym there.1)
          (by_node index there.0 there.1 (is_who_of u there.0 (position_passes (is_process u) w.nodes index there.0 found there.1)))
      by_index None found =
          absurd (true≢false (sym (any_there (is_process u) w.nodes r.node (contains_at w.nodes r.index r.node r.at) (ap (λ k. is_eq (unique_cmp k u)) r.is_who ∙ key_itself u)) ∙ sym (is_some-position (is_process u) w.nodes) ∙ ap is_some found))

  deliver_answer : (number : ℕ) → 1 ≤ number → number ≤ length w.packets → IsFullAtMost (delivers (packet_at w number) w)
  deliver_answer number least most = by_packet (packet_there (number == 0) refl)
    where
      packet_there : (b : Bool) → (number == 0) ≡ b → (p : Envelope) × (packet_at w number ≡ Some p)
      packet_there true is = let none : number ≡ 0 = eqb-true number 0 is in absurd (omega arith)
      packet_there false is =
          let there = element_at w.packets (number - 1) (omega arith) in
          (there.0, ap (λ (b : Bool). if b then None else slice_get w.packets (number - 1)) is ∙ there.1)

      by_index : (p : Envelope) (o : Option ℕ) → receiver_of p w ≡ o → IsFullAtMost (arrives p o w)
      by_index p (Some index) found = gives_answer (event.Packet p) index w.founded (position-within (is_reached p) w.nodes index found)
      by_index p None found = tt

      by_packet : (p : Envelope) × (packet_at w number ≡ Some p) → IsFullAtMost (delivers (packet_at w number) w)
      by_packet there = subst (λ o. IsFullAtMost (delivers o w)) (sym there.1) (unless_full (is_full w) _ (by_index there.0 (receiver_of there.0 w) refl))

  start_answer : (u : UniqueModel) → MayStart (census_of w) u → IsFullAtMost (happens fixed (Start u) w)
  start_answer u may =
      unless_not (not (is_listed fixed.listed u.address)) reason.Unlisted _ (not_from_true _ (listed_there u.address may.listed))
      (unless_not (list_any (is_process u) w.nodes) reason.UniqueUsed _ (false_from_ne_true _ unused)
      (unless_not (is_in_use u.address w) reason.AddressInUse _ (false_from_ne_true _ in_use)
      (unless_full (is_full w) _
      (unless_not (leb most_starts (length w.nodes)) reason.TooManyStarts _ (false_from_ne_true _ many) tt))))
    where
      unused : list_any (is_process u) w.nodes ≡ true → ⊥
      unused is =
          let found = any_found (is_process u) w.nodes is in
          may.unused (contains_reversed (map me_of w.nodes) u (subst (Contains (map me_of w.nodes)) (is_who_of u found.0 found.2) (map_in me_of w.nodes found.0 found.1)))

      in_use : is_in_use u.address w ≡ true → ⊥
      in_use is =
          let found = any_found (runs_at u.address) w.nodes is in
          let at = index_of w.nodes found.0 found.1 in
          let runs = first_so found.0.runs (is_eq (address_cmp (me_of found.0).address u.address)) found.2 in
          may.alone (me_of found.0) (there_running w.nodes (me_of found.0) (record { index = at.0; node = found.0; at = at.1; is_who = refl; runs = runs }))
          (address_exact (me_of found.0).address u.address (is_equal _ (second_so found.0.runs (is_eq (address_cmp (me_of found.0).address u.address)) found.2)))

      many : leb most_starts (length w.nodes) ≡ true → ⊥
      many is =
          let le : 64 ≤ length w.nodes = leb-true 64 (length w.nodes) is in
          let same = length-reverse (map me_of w.nodes) ∙ length-map w.nodes me_of in
          let few = may.few in omega arith

  -- an event that may happen in a world whose nodes are different processes
  pub event_answer : (e : Event) → MayHappen (census_of w) e → IsFullAtMost (happens fixed e w)
  event_answer (Start u) may = start_answer u may
  event_answer (Found u) may = unless_not w.founded reason.SecondFound _ may.0 (acts_answer event.Found u true (running_there w.nodes u may.1))
  event_answer (Join u target) may = unless_not (not (is_listed fixed.listed target)) reason.Unlisted _ (not_from_true _ (listed_there target may.0)) (acts_answer (event.Join target) u w.founded (running_there w.nodes u may.1))
  event_answer (Tick u word) may = acts_answer (event.Tick word) u w.founded (running_there w.nodes u may)
  event_answer (Deliver number) may = deliver_answer number may.0 may.1
  event_answer (Leave u who) may = acts_answer (event.Leave who) u w.founded (running_there w.nodes u may)
  event_answer (Down u who) may = acts_answer (event.Down who) u w.founded (running_there w.nodes u may)
  event_answer (Offer u entity payload) may =
      let acts_so = acts (event.Offer entity payload) (node_of u w) w in
      subst (λ (b : Bool). IsFullAtMost (unless_bad b acts_so)) (sym may.1) (acts_answer (event.Offer entity payload) u w.founded (running_there w.nodes u may.0))
  event_answer (Stop u) may = acts_answer event.Stop u w.founded (running_there w.nodes u may)
