-- Lemmas of the definitions of a world: what a list of actions does by parts, how many nodes a run has and how many
-- events each was given, and which node a process is.
use Rattle.std.proofs.Common.{◌≡◌, is_ok, IfOk, IfErr, OnOk, ℕ, zero, suc, ◌+◌, ◌<◌, ◌≤◌, ◌^◌, leb, ltb, Bool, true, false, cond, not, ◌||◌, List, [], ◌∷◌, ◌++◌, set, length, Option, Some, None, is_some, option_map, position, slice_get, Result, Ok, Err, IsTrue, if◌then◌else◌, refl, sym, ap, ◌∙◌, subst, arith, append_assoc, one-add, le-leb, true≢false, length-append, take, get_or, get_or-set_same, Contains}
use Rattle.std.proofs.Math.ListN.{length-set}
use Rattle.std.proofs.lemmas.Option.{slice_get-map, slice_get-get_or, same_Some}
use Rattle.std.proofs.lemmas.Bool.{leb-false, lt-leb}
use Rattle.std.proofs.lemmas.Bool.Decides.{nat_tests}
use Rattle.std.proofs.lemmas.List.{take_more, map-set}
use Rattle.std.proofs.lemmas.List.Sums.{prefix_len-le-length}
use Rattle.std.specs.List.{list_any, prefix_len, position_or_len}
use Rattle.ak_address.specs.Unique.{AddressModel, UniqueModel}
use Rattle.ak_settings.specs.Settings.{SettingsModel, is_entity_in, is_listed}
use Rattle.ak_schedule.specs.declared.event.Event.{Event}
use Rattle.ak_schedule.specs.declared.event.Event.TheVariants.{Start, Join, Offer}
use Rattle.ak_history.specs.declared.entry.Entry.{Entry}
use Rattle.ak_member.specs.declared.effect.Effect.{Effect}
use Rattle.ak_wire.specs.declared.envelope.Envelope.{Envelope}
use Rattle.ak_node.specs.declared.node.State.{State}
use Rattle.ak_node.specs.declared.node.NodeEvent.{NodeEvent}
use Rattle.ak_node.specs.declared.node.NodeEvent as event
use Rattle.ak_wire.specs.declared.action.Action.{Action}
use Rattle.ak_wire.specs.declared.action.Action.TheVariants as action
use Rattle.ak_wire.specs.declared.action.Action.TheVariants.{Send, Update}
use Rattle.ak_world.specs.declared.world.Refused.{Refused}
use Rattle.ak_world.specs.declared.world.Reason as reason
use Rattle.ak_world.specs.declared.world.Step.{Step}
use Rattle.ak_history.specs.History.{entries_of}
use Rattle.ak_node.specs.Node.{me_of, started, step}
use Rattle.ak_node.proofs.StepChanges.{step_changes}
use Rattle.ak_node.specs.NodeContracts.{NodeModel}
use Rattle.ak_world.specs.World.{WorldState, Done, recorded, with_update, gives, acts_at, acts, arrives, delivers, starts, stepped, is_process, runs_at, is_in_use, is_full, is_reached, unless_bad, happens, after, run_from, run, empty_world, node_of, receiver_of, packet_at}
use Rattle.ak_address.proofs.Elements.{contains_first, contains_rest}
use Rattle.ak_wire.specs.Wire.{sent, effects_of, envelope_of, put}
use Rattle.ak_wire.proofs.Sending.{sent-append}
use Rattle.ak_world.proofs.IndexLemmas.{set_at, push_at}
use Rattle.ak_world.proofs.WhatHappened.{begins, steps, nobody, IsAnswer, happened}
use Rattle.ak_world.specs.WorldContracts.{states, Went, Keeps, IsAccepted, IsNoMemory, Scenes}

-- ---- what actions send and record, by parts
-- one more action
pub sent-more : (xs : List Action) (i : ℕ) (a : Action) → i < length xs → a ≡ get_or xs i a → sent (take (i + 1) xs) ≡ sent (take i xs) ++ sent (a ∷ [])
sent-more xs i a lt is =
    ap sent (take_more xs i a lt) ∙ sent-append (take i xs) (get_or xs i a ∷ []) ∙ ap (λ (x : Action). sent (take i xs) ++ sent (x ∷ [])) (sym is)

pub sent-kept : (old now new : List Envelope) (xs : List Action) (i : ℕ) (a : Action) → i < length xs → a ≡ get_or xs i a → now ≡ old ++ sent (take i xs) → new ≡ now ++ sent (a ∷ [])
    → new ≡ old ++ sent (take (i + 1) xs)
sent-kept old now new xs i a lt is before here =
    here
    ∙ ap (λ (es : List Envelope). es ++ sent (a ∷ [])) before
    ∙ append_assoc old (sent (take i xs)) (sent (a ∷ []))
    ∙ ap (λ (es : List Envelope). old ++ es) (sym (sent-more xs i a lt is))

-- what an action sends is among what they send
sent-later : (o : Option Envelope) (xs : List Envelope) (e : Envelope) → Contains xs e → Contains (put o xs) e
sent-later None xs e there = there
sent-later (Some y) xs e there = contains_rest y e xs there

pub sent-there : (xs : List Action) (i : ℕ) (a : Action) (e : Envelope) → slice_get xs i ≡ Some a → a ≡ Send e → Contains (sent xs) e
sent-there [] i a e at is = absurd (true≢false (sym (ap is_some at)))
sent-there (x ∷ xs) zero a e at is = subst (λ (y : Action). Contains (put (envelope_of y) (sent xs)) e) (sym (same_Some x a at ∙ is)) (contains_first e (sent xs))
sent-there (x ∷ xs) (suc i) a e at is = sent-later (envelope_of x) (sent xs) e (sent-there xs i a e at is)

pub sent-none : (a : Action) → ((e : Envelope) → a ≡ Send e → ⊥) → sent (a ∷ []) ≡ []
sent-none (Send e) other = absurd (other e refl)
sent-none (Update number effects) other = refl
sent-none action.View other = refl
sent-none action.Settled other = refl
sent-none (action.Active term) other = refl
sent-none (action.Ended term) other = refl
sent-none (action.Host shard number) other = refl
sent-none (action.Gone shard) other = refl
sent-none (action.Entity entity) other = refl
sent-none (action.Deliver entity payload) other = refl
sent-none (action.Forward entity payload) other = refl
sent-none (action.Buffer entity payload) other = refl
sent-none (action.Drop entity payload) other = refl
sent-none (action.MarginEnd who) other = refl
sent-none (action.Refused why) other = refl
sent-none action.Dead other = refl
sent-none action.Stopped other = refl

pub recorded-append : (author : UniqueModel) (a b : List Action) (history : List Entry) → recorded author (a ++ b) history ≡ recorded author b (recorded author a history)
recorded-append author [] b history = refl
recorded-append author (x ∷ a) b history = recorded-append author a b (with_update author (effects_of x) history)

pub recorded-more : (author : UniqueModel) (xs : List Action) (i : ℕ) (a : Action) (history : List Entry) → i < length xs → a ≡ get_or xs i a
    → recorded author (take (i + 1) xs) history ≡ recorded author (a ∷ []) (recorded author (take i xs) history)
recorded-more author xs i a history lt is =
    ap (λ (acts : List Action). recorded author acts history) (take_more xs i a lt) ∙ recorded-append author (take i xs) (get_or xs i a ∷ []) history
    ∙ ap (λ (x : Action). recorded author (x ∷ []) (recorded author (take i xs) history)) (sym is)

pub recorded-kept : (author : UniqueModel) (old now new : List Entry) (xs : List Action) (i : ℕ) (a : Action) → i < length xs → a ≡ get_or xs i a → now ≡ recorded author (take i xs) old
    → new ≡ recorded author (a ∷ []) now → new ≡ recorded author (take (i + 1) xs) old
recorded-kept author old now new xs i a lt is before here =
    here ∙ ap (recorded author (a ∷ [])) before ∙ sym (recorded-more author xs i a old lt is)

pub recorded-none : (author : UniqueModel) (now : List Entry) (a : Action) → ((n : ℕ) (es : List Effect) → a ≡ Update n es → ⊥) → recorded author (a ∷ []) now ≡ now
recorded-none author now (Send e) other = refl
recorded-none author now (Update number effects) other = absurd (other number effects refl)
recorded-none author now action.View other = refl
recorded-none author now action.Settled other = refl
recorded-none author now (action.Active term) other = refl
recorded-none author now (action.Ended term) other = refl
recorded-none author now (action.Host shard number) other = refl
recorded-none author now (action.Gone shard) other = refl
recorded-none author now (action.Entity entity) other = refl
recorded-none author now (action.Deliver entity payload) other = refl
recorded-none author now (action.Forward entity payload) other = refl
recorded-none author now (action.Buffer entity payload) other = refl
recorded-none author now (action.Drop entity payload) other = refl
recorded-none author now (action.MarginEnd who) other = refl
recorded-none author now (action.Refused why) other = refl
recorded-none author now action.Dead other = refl
recorded-none author now action.Stopped other = refl

pub recorded-pushed : (author : UniqueModel) (now new : List Entry) (a : Action) (k n : ℕ) (fs es : List Effect) → a ≡ Update n es → fs ≡ es → k ≡ entries_of author now + 1
    → new ≡ record { author = author; number = k; effects = fs } ∷ now → new ≡ recorded author (a ∷ []) now
recorded-pushed author now new a k n fs es is copied number pushed =
    let with_number : ℕ → List Entry = λ j. record { author = author; number = j; effects = fs } ∷ now in
    let with_effects : List Effect → List Entry = λ gs. record { author = author; number = entries_of author now + 1; effects = gs } ∷ now in
    pushed ∙ ap with_number number ∙ ap with_effects copied ∙ ap (λ (x : Action). recorded author (x ∷ []) now) (sym is)

-- the first node that passes, and whether one does, by the states
first_state : (p : State → Bool) (xs : List NodeModel) → prefix_len (λ n. not (p n)) (states xs) ≡ prefix_len (λ (n : NodeModel). not (p n.state)) xs
first_state p [] = refl
first_state p (x ∷ xs) = ap (λ (k : ℕ). cond (not (p x.state)) (1 + k) 0) (first_state p xs)

pub length-states : (xs : List NodeModel) → length (states xs) ≡ length xs
length-states [] = refl
length-states (x ∷ xs) = ap suc (length-states xs)

pub position-states : (p : State → Bool) (xs : List NodeModel) → position p (states xs) ≡ position (λ (n : NodeModel). p n.state) xs
position-states p xs =
    let index = λ (k n : ℕ). cond (ltb k n) (Some k) None in
    ap (λ (k : ℕ). index k (length (states xs))) (first_state p xs) ∙ ap (index (position_or_len (λ (n : NodeModel). p n.state) xs)) (length-states xs)

pub list_any-states : (p : State → Bool) (xs : List NodeModel) → list_any p (states xs) ≡ list_any (λ (n : NodeModel). p n.state) xs
list_any-states p [] = refl
list_any-states p (x ∷ xs) = ap (λ (b : Bool). p x.state || b) (list_any-states p xs)

-- an index is found where one passes
found_first : (b : Bool) (k n : ℕ) → ltb (cond (not b) (1 + k) 0) (suc n) ≡ (b || ltb k n)
found_first true k n = grind (arith, nat_tests)
found_first false k n = ap (λ (m : ℕ). ltb m (suc n)) (one-add k) ∙ grind (arith, nat_tests)

found_one : {X : Type 0} (p : X → Bool) (xs : List X) → ltb (position_or_len p xs) (length xs) ≡ list_any p xs
found_one p [] = refl
found_one p (x ∷ xs) = found_first (p x) (position_or_len p xs) (length xs) ∙ ap (λ (b : Bool). p x || b) (found_one p xs)

some_if : (b : Bool) (k : ℕ) → is_some (cond b (Some k) None) ≡ b
some_if true k = refl
some_if false k = refl

pub is_some-position : {X : Type 0} (p : X → Bool) (xs : List X) → is_some (position p xs) ≡ list_any p xs
is_some-position p xs = some_if (ltb (position_or_len p xs) (length xs)) (position_or_len p xs) ∙ found_one p xs

-- each step of a running node counts one event
step_steps : (e : NodeEvent) (n : State) → IsTrue n.runs → (step e n).0.steps ≡ n.steps + 1
step_steps e n runs = (step_changes e n runs).same_steps

-- at most 64 nodes, each with at most k events
record IsYoung (k : ℕ) (w : WorldState) : Type 0 where
  few : length w.nodes ≤ 64
  steps : (index : ℕ) (n : State) → slice_get w.nodes index ≡ Some n → n.steps ≤ k

older : (j k : ℕ) (w : WorldState) → j ≤ k → IsYoung j w → IsYoung k w
older j k w le young = record {
  few = young.few;
  steps = λ index n is. let below : n.steps ≤ j = young.steps index n is in omega arith;
}

below_64 : (n : ℕ) → leb 64 n ≡ false → n + 1 ≤ 64
below_64 n h = let below = leb-false 64 n h in omega (arith, below)

answered_young : (k : ℕ) (settings : SettingsModel) (w : WorldState) (a : Result Done reason.Reason) → IsAnswer settings w a → IsYoung k w → IsYoung (k + 1) (after w a)
answered_young k settings w (Err why) is young = older k (k + 1) w (omega arith) young
answered_young k settings w (Ok done) is young = elim is as (λ d h. IsYoung (k + 1) d.world) [
  | begins u unknown free listed few ↦ record {
    few = subst (λ n. n ≤ 64) (sym (length-append w.nodes (started u settings ∷ []))) (below_64 (length w.nodes) few);
    steps = push_at (λ j (m : State). m.steps ≤ k + 1) w.nodes (started u settings) (older k (k + 1) w (omega arith) young).steps (omega arith);
  }
  | steps e index n founded at runs was_sent ↦ record {
    few = let same = length-set w.nodes index (step e n).0 in omega (arith, same, young.few);
    steps = set_at (λ j (m : State). m.steps ≤ k + 1) w.nodes index (step e n).0 (λ j m is elsewhere. (older k (k + 1) w (omega arith) young).steps j m is)
        (let counted = step_steps e n runs in let below : n.steps ≤ k = young.steps index n at in omega (arith, counted));
  }
  | nobody ↦ older k (k + 1) w (omega arith) young
]

run_young : (k : ℕ) (settings : SettingsModel) (w : WorldState) (events : List Event) → IsYoung k w → IsYoung (k + length events) (run_from settings w events)
run_young k settings w [] young = older k (k + 0) w (omega arith) young
run_young k settings w (e ∷ events) young =
    older (k + 1 + length events) (k + suc (length events)) _ (omega arith)
    (run_young (k + 1) settings (after w (happens settings e w)) events (answered_young k settings w (happens settings e w) (happened settings w e) young))

empty_young : IsYoung 0 empty_world
empty_young = record { few = omega arith; steps = λ index n is. absurd (cc) }

-- each node was given no more events than there were
pub few_steps : (settings : SettingsModel) (events : List Event) → length events < 2 ^ 62 → (index : ℕ) (n : State) → slice_get (run settings events).nodes index ≡ Some n → n.steps < 2 ^ 62
few_steps settings events few index n is = let below : n.steps ≤ 0 + length events = (run_young 0 settings empty_world events empty_young).steps index n is in omega arith

-- however many events there were, few nodes were started
pub few_run : (settings : SettingsModel) (events : List Event) → length (run settings events).nodes ≤ 64
few_run settings events = (run_young 0 settings empty_world events empty_young).few

-- one more event
pub run-push : (settings : SettingsModel) (w : WorldState) (events : List Event) (e : Event) → run_from settings w (events ++ e ∷ []) ≡ after (run_from settings w events) (happens settings e (run_from settings w events))
run-push settings w [] e = refl
run-push settings w (x ∷ xs) e = run-push settings (after w (happens settings x w)) xs e

-- the state of the node at an index
pub state-at : (xs : List NodeModel) (i : ℕ) (n : NodeModel) → i < length xs → n ≡ get_or xs i n → slice_get (states xs) i ≡ Some n.state
state-at xs i n lt is =
    slice_get-map (λ (m : NodeModel). m.state) xs i
    ∙ ap (option_map (λ (m : NodeModel). m.state)) (slice_get-get_or xs i n lt)
    ∙ ap (λ (m : NodeModel). Some m.state) (sym is)

-- what is found is there
pub position-within : {X : Type 0} (p : X → Bool) (xs : List X) (i : ℕ) → position p xs ≡ Some i → i < length xs
position-within p xs i h = grind (arith, nat_tests, prefix_len-le-length (λ x. not (p x)) xs)

-- a node that is there is given an event, which is accepted
state-there : (xs : List State) (i : ℕ) → i < length xs → (n : State) × (slice_get xs i ≡ Some n)
state-there [] i lt = absurd (omega arith)
state-there (x ∷ xs) zero lt = (x, refl)
state-there (x ∷ xs) (suc i) lt = state-there xs i (omega arith)

pub given-accepted : (e : NodeEvent) (index : ℕ) (w : WorldState) → index < length w.nodes → IsAccepted (gives e index (slice_get w.nodes index) w)
given-accepted e index w lt = let there = state-there w.nodes index lt in (stepped index (step e there.0) w, ap (λ (o : Option State). gives e index o w) there.1)

-- an answer is accepted where an equal one is
pub accepted-too : (a b : Result Done reason.Reason) → b ≡ a → IsAccepted a → IsAccepted b
accepted-too a b same accepted = (accepted.0, same ∙ accepted.1)

-- memory ran out at an event that is accepted
pub ran-out : (w v : WorldState) (a : Result Done reason.Reason) (r : Result Step Refused) (why : Refused) → IsAccepted a → r ≡ Err why → IsNoMemory why → Scenes w a r v
ran-out w v a r why accepted is none = subst (λ x. Scenes w a x v) (sym (is ∙ ap done none.1)) accepted
  where
    done : Refused → Result Step Refused
    done f = Err f

pub given-at : (e : NodeEvent) (index : ℕ) (w : WorldState) (n : State) → slice_get w.nodes index ≡ Some n → IsAccepted (gives e index (slice_get w.nodes index) w)
given-at e index w n at = (stepped index (step e n) w, ap (λ (o : Option State). gives e index o w) at)

-- the nodes once the one at an index is another, and its state
pub set-states : (nodes : List NodeModel) (index : ℕ) (m : NodeModel) → states (set nodes index m) ≡ set (states nodes) index m.state
set-states nodes index m = map-set (λ (x : NodeModel). x.state) nodes index m

pub state-set : (nodes : List NodeModel) (index : ℕ) (m : NodeModel) → index < length nodes → slice_get (states (set nodes index m)) index ≡ Some m.state
state-set nodes index m lt =
    let same = length-set nodes index m in
    state-at (set nodes index m) index m (omega (arith, same, lt)) (sym (get_or-set_same nodes index m m lt))

-- what a node did with an event, and what its actions made of the world then, is what the world's step says
went-kept : (w u v : WorldState) (index : ℕ) (e : NodeEvent) (n m : State) (actions : List Action) (s : Step)
    → slice_get w.nodes index ≡ Some n → m ≡ (step e n).0 → actions ≡ (step e n).1 → u ≡ record w { nodes = set w.nodes index m } → Keeps index (me_of m) actions u s v
    → Went w (gives e index (slice_get w.nodes index) w) s v
went-kept w u v index e n m actions s at state_is actions_are between kept =
    let o = step e n in
    let nodes_eq : v.nodes ≡ set w.nodes index o.0 = kept.nodes ∙ ap (λ (x : WorldState). x.nodes) between ∙ ap (set w.nodes index) state_is in
    let packets_eq : v.packets ≡ w.packets ++ sent o.1 =
    kept.packets ∙ ap (λ (x : WorldState). x.packets ++ sent actions) between ∙ ap (λ (xs : List Action). w.packets ++ sent xs) actions_are in
    let history_eq : v.history ≡ recorded (me_of o.0) o.1 w.history =
    kept.history ∙ ap (λ (x : WorldState). recorded (me_of m) actions x.history) between ∙ ap (λ (x : State). recorded (me_of x) actions w.history) state_is
    ∙ ap (λ (xs : List Action). recorded (me_of o.0) xs w.history) actions_are in
    let founded_eq : v.founded ≡ w.founded = kept.founded ∙ ap (λ (x : WorldState). x.founded) between in
    record {
      done = stepped index o w;
      happened = ap (λ (x : Option State). gives e index x w) at;
      world = λ i. record { nodes = nodes_eq i; packets = packets_eq i; history = history_eq i; founded = founded_eq i };
      shown = record { node = kept.node; first_packet = kept.first_packet ∙ ap (λ (x : WorldState). length x.packets + 1) between; actions = kept.actions_shown ∙ actions_are };
      numbers =
          let long : length v.packets ≡ length u.packets + length (sent actions) = ap length kept.packets ∙ length-append u.packets (sent actions) in
          let shows : length (sent s.actions) ≡ length (sent actions) = ap (λ (xs : List Action). length (sent xs)) kept.actions_shown in
          omega (arith, long, shows, kept.few, kept.first_packet);
    }

-- the same of both answers: what is not kept ran out of memory
pub kept-scenes : (w u v : WorldState) (index : ℕ) (e : NodeEvent) (n m : State) (actions : List Action) (r : Result Step Refused)
    → slice_get w.nodes index ≡ Some n → m ≡ (step e n).0 → actions ≡ (step e n).1 → u ≡ record w { nodes = set w.nodes index m }
    → IfOk r (λ s. Keeps index (me_of m) actions u s v) → IfErr r IsNoMemory
    → Scenes w (gives e index (slice_get w.nodes index) w) r v
kept-scenes w u v index e n m actions (Ok s) at state_is actions_are between kept none = went-kept w u v index e n m actions s at state_is actions_are between kept
kept-scenes w u v index e n m actions (Err why) at state_is actions_are between kept none =
    ran-out w v (gives e index (slice_get w.nodes index) w) (Err why) why (given-at e index w n at) refl none

-- which node the code found is which the world names
pub found-node : (u : UniqueModel) (nodes : List NodeModel) (r o : Option ℕ) → r ≡ position (λ (n : NodeModel). is_process u n.state) nodes → r ≡ o → position (is_process u) (states nodes) ≡ o
found-node u nodes r o answers is = position-states (is_process u) nodes ∙ sym answers ∙ is

pub found-receiver : (e f : Envelope) (nodes all : List NodeModel) (r o : Option ℕ) → r ≡ position (λ (n : NodeModel). is_reached f n.state) all → f ≡ e → all ≡ nodes → r ≡ o → position (is_reached e) (states nodes) ≡ o
found-receiver e f nodes all r o answers same are is =
    position-states (is_reached e) nodes
    ∙ sym (answers ∙ ap (λ (f : Envelope). position (λ (n : NodeModel). is_reached f n.state) all) same ∙ ap (position (λ (n : NodeModel). is_reached e n.state)) are)
    ∙ is

-- it stands there
pub receiver-within : (e : Envelope) (nodes : List NodeModel) (index : ℕ) → position (is_reached e) (states nodes) ≡ Some index → index < length nodes
receiver-within e nodes index reached = omega (arith, position-within (is_reached e) (states nodes) index reached, length-states nodes)

-- one answer in place of another
pub same-answer : (w v : WorldState) (a b : Result Done reason.Reason) (r : Result Step Refused) → b ≡ a → Scenes w a r v → Scenes w b r v
same-answer w v a b r same scenes = subst (λ x. Scenes w x r v) (sym same) scenes

-- whether the process was started, whether its address is used, and whether many were started
pub any-process : (u : UniqueModel) (nodes : List NodeModel) (r : Option ℕ) → r ≡ position (λ (n : NodeModel). is_process u n.state) nodes → list_any (is_process u) (states nodes) ≡ is_some r
any-process u nodes r answers =
    list_any-states (is_process u) nodes ∙ sym (is_some-position (λ (n : NodeModel). is_process u n.state) nodes) ∙ ap is_some (sym answers)

pub any-address : (a : AddressModel) (nodes : List NodeModel) → list_any (runs_at a) (states nodes) ≡ list_any (λ (n : NodeModel). runs_at a n.state) nodes
any-address a nodes = list_any-states (runs_at a) nodes

-- the tests of a start, as the calls answer them: the address is listed, the process was started, a node runs there
pub start-listed : (xs : List AddressModel) (a : AddressModel) (u : UniqueModel) (b c : Bool) → a ≡ u.address → b ≡ is_listed xs a → b ≡ c → is_listed xs u.address ≡ c
start-listed xs a u b c at value is = ap (is_listed xs) (sym at) ∙ sym value ∙ is

pub start-known : (nodes kept : List NodeModel) (u : UniqueModel) (r : Option ℕ) (b c : Bool) → r ≡ position (λ (n : NodeModel). is_process u n.state) kept → kept ≡ nodes → b ≡ is_some r → b ≡ c → list_any (is_process u) (states nodes) ≡ c
start-known nodes kept u r b c answers same some is =
    any-process u nodes r (answers ∙ ap (position (λ (n : NodeModel). is_process u n.state)) same) ∙ sym some ∙ is

pub start-used : (nodes kept : List NodeModel) (a : AddressModel) (u : UniqueModel) (b c : Bool) → a ≡ u.address → b ≡ list_any (λ (n : NodeModel). runs_at a n.state) kept → kept ≡ nodes → b ≡ c
    → list_any (runs_at u.address) (states nodes) ≡ c
start-used nodes kept a u b c at answers same is =
    ap (λ (x : AddressModel). list_any (runs_at x) (states nodes)) (sym at)
    ∙ any-address a nodes ∙ sym (answers ∙ ap (list_any (λ (n : NodeModel). runs_at a n.state)) same) ∙ is

pub many-nodes : (nodes : List NodeModel) → 64 ≤ length nodes → leb 64 (length (states nodes)) ≡ true
many-nodes nodes many = ap (leb 64) (length-states nodes) ∙ le-leb 64 (length nodes) many

pub few-nodes : (nodes : List NodeModel) → length nodes < 64 → leb 64 (length (states nodes)) ≡ false
few-nodes nodes few = ap (leb 64) (length-states nodes) ∙ lt-leb 64 (length nodes) few

-- the answer to a start, by its tests
abbrev start_by : SettingsModel → UniqueModel → WorldState → Bool → Bool → Bool → Bool → Bool → Result Done reason.Reason
start_by settings u w l a b f c =
    if not l then Err reason.TheVariants.Unlisted
    else (if a then Err reason.TheVariants.UniqueUsed
    else (if b then Err reason.TheVariants.AddressInUse
    else (if f then Err reason.TheVariants.TooManyPackets
    else (if c then Err reason.TheVariants.TooManyStarts
    else Ok (starts settings u w)))))

pub start-answer : (settings : SettingsModel) (u : UniqueModel) (w : WorldState) (l a b f c : Bool) → is_listed settings.listed u.address ≡ l → list_any (is_process u) w.nodes ≡ a → is_in_use u.address w ≡ b → is_full w ≡ f → leb 64 (length w.nodes) ≡ c
    → happens settings (Start u) w ≡ start_by settings u w l a b f c
start-answer settings u w l a b f c pl pa pb pf pc =
    ap (λ x. start_by settings u w x (list_any (is_process u) w.nodes) (is_in_use u.address w) (is_full w) (leb 64 (length w.nodes))) pl
    ∙ ap (λ x. start_by settings u w l x (is_in_use u.address w) (is_full w) (leb 64 (length w.nodes))) pa
    ∙ ap (λ x. start_by settings u w l a x (is_full w) (leb 64 (length w.nodes))) pb
    ∙ ap (λ x. start_by settings u w l a b x (leb 64 (length w.nodes))) pf
    ∙ ap (start_by settings u w l a b f) pc

-- the answer to a join, by its test
pub join-answer : (settings : SettingsModel) (u : UniqueModel) (target : AddressModel) (w : WorldState) (l : Bool) → is_listed settings.listed target ≡ l
    → happens settings (Join u target) w ≡ (if not l then Err reason.TheVariants.Unlisted else acts (event.TheVariants.Join target) (node_of u w) w)
join-answer settings u target w l pl = ap (λ (x : Bool). if not x then Err reason.TheVariants.Unlisted else acts (event.TheVariants.Join target) (node_of u w) w) pl

-- an offer of an entity, and of a text that is none
pub offer-answer : (settings : SettingsModel) (u : UniqueModel) (entity : List ℕ) (payload : ℕ) (w : WorldState) → is_entity_in settings entity ≡ true
    → happens settings (Offer u entity payload) w ≡ acts (event.TheVariants.Offer entity payload) (node_of u w) w
offer-answer settings u entity payload w is = ap (λ (b : Bool). unless_bad b (acts (event.TheVariants.Offer entity payload) (node_of u w) w)) is

pub bad-answer : (settings : SettingsModel) (u : UniqueModel) (entity : List ℕ) (payload : ℕ) (w : WorldState) → is_entity_in settings entity ≡ false
    → IsAccepted (acts (event.TheVariants.Offer entity payload) (node_of u w) w) → happens settings (Offer u entity payload) w ≡ Err reason.TheVariants.BadEntity
bad-answer settings u entity payload w is accepted =
    ap (λ (b : Bool). unless_bad b (acts (event.TheVariants.Offer entity payload) (node_of u w) w)) is ∙ ap (unless_bad false) accepted.1

-- the answer to an event of a process, by its tests
abbrev act_by : NodeEvent → ℕ → Option State → WorldState → Bool → Bool → Result Done reason.Reason
act_by e index o w stopped full = if stopped then Err reason.TheVariants.NodeStopped else (if full then Err reason.TheVariants.TooManyPackets else gives e index o w)

pub act-answer : (e : NodeEvent) (index : ℕ) (n : State) (w : WorldState) (stopped full : Bool) → slice_get w.nodes index ≡ Some n → not n.runs ≡ stopped → is_full w ≡ full
    → acts e (Some index) w ≡ act_by e index (slice_get w.nodes index) w stopped full
act-answer e index n w stopped full at ps pf =
    ap (λ (o : Option State). acts_at e index o w) at
    ∙ ap (λ x. act_by e index (Some n) w x (is_full w)) ps
    ∙ ap (act_by e index (Some n) w stopped) pf
    ∙ ap (λ (o : Option State). act_by e index o w stopped full) (sym at)

-- a packet that reaches no process, and one that reaches a node
pub delivery-answer : (w : WorldState) (number : ℕ) (e : Envelope) (full : Bool) → packet_at w number ≡ Some e → is_full w ≡ full
    → delivers (packet_at w number) w ≡ (if full then Err reason.TheVariants.TooManyPackets else arrives e (receiver_of e w) w)
delivery-answer w number e full packet is =
    ap (λ (o : Option Envelope). delivers o w) packet ∙ ap (λ (b : Bool). if b then Err reason.TheVariants.TooManyPackets else arrives e (receiver_of e w) w) is

pub delivery-accepted : (w : WorldState) (number : ℕ) (e : Envelope) → packet_at w number ≡ Some e → is_full w ≡ false → IsAccepted (delivers (packet_at w number) w)
delivery-accepted w number e packet room = accepted-too _ _ (delivery-answer w number e false packet room) (arrived (receiver_of e w) refl)
  where
    arrived : (o : Option ℕ) → receiver_of e w ≡ o → IsAccepted (arrives e o w)
    arrived None is = (record { world = w; node = None; actions = [] }, refl)
    arrived (Some index) is = given-accepted (event.TheVariants.Packet e) index w (position-within (is_reached e) w.nodes index is)

pub dead-delivery : (w : WorldState) (number : ℕ) (e : Envelope) (s : Step) → packet_at w number ≡ Some e → is_full w ≡ false → receiver_of e w ≡ None → s.node ≡ None → s.first_packet ≡ length w.packets + 1 → s.first_packet < 2 ^ 64
    → s.actions ≡ [] → Went w (delivers (packet_at w number) w) s w
dead-delivery w number e s packet room unreached none first_is few no_actions = record {
  done = record { world = w; node = None; actions = [] };
  happened = delivery-answer w number e false packet room ∙ ap (λ (o : Option ℕ). arrives e o w) unreached;
  world = refl;
  shown = record { node = none; first_packet = first_is; actions = no_actions };
  numbers =
      let nothing_sent : length (sent s.actions) ≡ 0 = ap (λ (xs : List Action). length (sent xs)) no_actions in
      omega (arith, nothing_sent, few);
}

pub delivery : (w : WorldState) (number : ℕ) (e f : Envelope) (index : ℕ) → packet_at w number ≡ Some e → is_full w ≡ false → receiver_of e w ≡ Some index → f ≡ e
    → delivers (packet_at w number) w ≡ gives (event.TheVariants.Packet f) index (slice_get w.nodes index) w
delivery w number e f index packet room reached copied =
    delivery-answer w number e false packet room
    ∙ ap (λ (o : Option ℕ). arrives e o w) reached
    ∙ ap (λ (x : Envelope). gives (event.TheVariants.Packet x) index (slice_get w.nodes index) w) (sym copied)

-- an accepted event goes on the run
pub run-went : (settings new_settings : SettingsModel) (w v : WorldState) (events new_events : List Event) (e : Event) (s : Step) → w ≡ run settings events → new_settings ≡ settings → new_events ≡ events ++ e ∷ []
    → Went w (happens settings e w) s v → v ≡ run new_settings new_events
run-went settings new_settings w v events new_events e s is_run same_settings events_are went =
    went.world
    ∙ sym (ap (after w) went.happened)
    ∙ ap (λ (x : WorldState). after x (happens settings e x)) is_run
    ∙ sym (run-push settings empty_world events e)
    ∙ ap (run settings) (sym events_are)
    ∙ ap (λ (x : SettingsModel). run x new_events) (sym same_settings)

pub at-ok : {X Y : Type 0} (r : Result X Y) (P : Type 0) → is_ok r ≡ true → OnOk r P → P
at-ok (Ok x) P e p = p
at-ok (Err y) P e p = absurd (true≢false (sym e))
