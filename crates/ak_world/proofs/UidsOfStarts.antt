-- Where each process that a schedule starts has a number, each process of the run has one.
use Rattle.std.proofs.Common.{Ok, ◌≡◌, ℕ, ◌+◌, ◌≤◌, leb, Bool, true, false, not, List, [], ◌∷◌, ◌++◌, length, Option, Some, None, Result, Err, slice_get, Contains, if◌then◌else◌, refl, sym, ap, subst}
use Rattle.std.specs.List.{list_any}
use Rattle.ak_address.specs.Unique.{UniqueModel}
use Rattle.ak_address.proofs.Elements.{contains_first, contains_rest}
use Rattle.ak_settings.specs.Settings.{SettingsModel, is_listed, is_entity_in}
use Rattle.ak_schedule.specs.declared.event.Event.{Event}
use Rattle.ak_schedule.specs.declared.event.Event.TheVariants.{Start, Found, Join, Tick, Deliver, Leave, Down, Offer, Stop}
use Rattle.ak_wire.specs.declared.envelope.Envelope.{Envelope}
use Rattle.ak_node.specs.declared.node.State.{State}
use Rattle.ak_node.specs.declared.node.NodeEvent.{NodeEvent}
use Rattle.ak_node.specs.declared.node.NodeEvent.TheVariants as event
use Rattle.ak_node.specs.Node.{me_of, nothing, started, running_step, step}
use Rattle.ak_node.proofs.StepChanges.{step_changes}
use Rattle.ak_world.specs.declared.world.Reason.{Reason}
use Rattle.ak_world.specs.declared.world.Reason.TheVariants as reason
use Rattle.ak_world.specs.Uids.{HaveUids}
use Rattle.ak_world.specs.World.{WorldState, Done, empty_world, gives, acts_at, acts, arrives, delivers, starts, packet_at, is_process, is_in_use, is_full, node_of, receiver_of, most_starts, happens, after, run_from, run, unless_bad}
use Rattle.ak_world.proofs.IndexLemmas.{set_at, push_at}
use Rattle.ak_world.proofs.WorldLemmas.{run-push}

step_me : (e : NodeEvent) (n : State) → me_of (step e n).0 ≡ me_of n
step_me e n = by_runs n.runs refl
  where
    by_runs : (b : Bool) → n.runs ≡ b → me_of (step e n).0 ≡ me_of n
    by_runs true runs = (step_changes e n runs).same_me
    by_runs false stopped = ap (λ b. me_of (if b then running_step e (record n { steps = n.steps + 1 }) else nothing n).0) stopped

module _ (settings : SettingsModel) where
  module _ (w : WorldState) (all : HaveUids w) where
    abbrev After : Result Done Reason → Type 0
    After r = HaveUids (after w r)

    unless_after : (b : Bool) (why : Reason) (r : Result Done Reason) → After r → After (if b then Err why else r)
    unless_after true why r h = all
    unless_after false why r h = h

    gives_after : (e : NodeEvent) (index : ℕ) (o : Option State) (founded : Bool) → slice_get w.nodes index ≡ o → After (gives e index o (record w { founded = founded }))
    gives_after e index (Some n) founded at = set_at (λ j (m : State). 1 ≤ (me_of m).uid) w.nodes index (step e n).0 (λ j m is apart. all j m is) (subst (λ (u : UniqueModel). 1 ≤ u.uid) (sym (step_me e n)) (all index n at))
    gives_after e index None founded at = all

    acts_after : (e : NodeEvent) (o : Option ℕ) (founded : Bool) → After (acts e o (record w { founded = founded }))
    acts_after e (Some index) founded = by_node (slice_get w.nodes index) refl
      where
        by_node : (o : Option State) → slice_get w.nodes index ≡ o → After (acts_at e index o (record w { founded = founded }))
        by_node (Some n) at = unless_after (not n.runs) reason.NodeStopped _ (unless_after (is_full w) reason.TooManyPackets _ (gives_after e index (Some n) founded at))
        by_node None at = all
    acts_after e None founded = all

    arrives_after : (p : Envelope) (o : Option ℕ) → After (arrives p o w)
    arrives_after p (Some index) = gives_after (event.Packet p) index (slice_get w.nodes index) w.founded refl
    arrives_after p None = all

    delivers_after : (o : Option Envelope) → After (delivers o w)
    delivers_after (Some p) = unless_after (is_full w) reason.TooManyPackets _ (arrives_after p (receiver_of p w))
    delivers_after None = all

    not_bad : (b : Bool) (answer : Result Done Reason) → After answer → After (unless_bad b answer)
    not_bad true answer is = is
    not_bad false (Ok done) is = all
    not_bad false (Err why) is = all

    happens_after : (e : Event) → ((u : UniqueModel) → e ≡ Start u → 1 ≤ u.uid) → After (happens settings e w)
    happens_after (Start u) is =
        unless_after (not (is_listed settings.listed u.address)) reason.Unlisted _
        (unless_after (list_any (is_process u) w.nodes) reason.UniqueUsed _
        (unless_after (is_in_use u.address w) reason.AddressInUse _
        (unless_after (is_full w) reason.TooManyPackets _
        (unless_after (leb most_starts (length w.nodes)) reason.TooManyStarts _
        (push_at (λ j (m : State). 1 ≤ (me_of m).uid) w.nodes (started u settings) all (is u refl))))))
    happens_after (Found u) is = unless_after w.founded reason.SecondFound _ (acts_after event.Found (node_of u w) true)
    happens_after (Join u target) is = unless_after (not (is_listed settings.listed target)) reason.Unlisted _ (acts_after (event.Join target) (node_of u w) w.founded)
    happens_after (Deliver number) is = delivers_after (packet_at w number)
    happens_after (Tick u word) is = acts_after (event.Tick word) (node_of u w) w.founded
    happens_after (Leave u who) is = acts_after (event.Leave who) (node_of u w) w.founded
    happens_after (Down u who) is = acts_after (event.Down who) (node_of u w) w.founded
    happens_after (Offer u entity payload) is = not_bad (is_entity_in settings entity) _ (acts_after (event.Offer entity payload) (node_of u w) w.founded)
    happens_after (Stop u) is = acts_after event.Stop (node_of u w) w.founded

  uids_from : (events : List Event) (w : WorldState) → HaveUids w → ((u : UniqueModel) → Contains events (Start u) → 1 ≤ u.uid) → HaveUids (run_from settings w events)
  uids_from [] w all starts = all
  uids_from (e ∷ events) w all starts =
      uids_from events (after w (happens settings e w)) (happens_after w all e (λ u is. starts u (subst (λ x. Contains (x ∷ events) (Start u)) (sym is) (contains_first (Start u) events)))) (λ u there. starts u (contains_rest e (Start u) events there))

  pub uids_of_starts : (events : List Event) → ((u : UniqueModel) → Contains events (Start u) → 1 ≤ u.uid) → HaveUids (run settings events)
  uids_of_starts events starts = uids_from events empty_world (λ index n at. absurd (cc)) starts

  -- one event more, which starts no process without a number
  pub next_uids : (events : List Event) (e : Event) → HaveUids (run settings events) → ((u : UniqueModel) → e ≡ Start u → 1 ≤ u.uid) → HaveUids (run settings (events ++ e ∷ []))
  next_uids events e all starts = subst HaveUids (sym (run-push settings empty_world events e)) (happens_after (run settings events) all e starts)
