-- At the end of each step a node watches its ring, and else silent members; and an accepted gossip is what it knows then.
use Rattle.std.proofs.Common.{◌≡◌, ℕ, ◌+◌, Bool, true, false, not, if◌then◌else◌, List, [], ◌∷◌, Option, Some, None, is_some, Result, Ok, Err, slice_get, IsTrue, refl, sym, ap, ◌∙◌, subst, true≢false}
use Rattle.std.specs.FinMap as map
use Rattle.ak_address.specs.Unique.{UniqueModel}
use Rattle.ak_address.specs.Uniques.{has}
use Rattle.ak_address.proofs.TableLaws.{get-empty}
use Rattle.ak_detector.specs.Detector.{silent, watch_ring, watching}
use Rattle.ak_detector.proofs.DetectorLaws.{ring_watched, ring_members}
use Rattle.ak_gossip.specs.declared.gossip.GossipFault.{GossipFault}
use Rattle.ak_gossip.specs.declared.gossip.GossipFault.TheVariants as fault
use Rattle.ak_gossip.specs.declared.gossip.Received.{Received}
use Rattle.ak_gossip.specs.Gossip.{GossipState, is_known, receive}
use Rattle.ak_member.specs.Standing.{is_member, member_of}
use Rattle.ak_membership.specs.declared.state.MembershipState.{MembershipState}
use Rattle.ak_membership.specs.Membership.{Outcome, unchanged, on_received, on_gossip}
use Rattle.ak_node.specs.declared.node.NodeEvent.{NodeEvent}
use Rattle.ak_node.specs.declared.node.NodeEvent.TheVariants as event
use Rattle.ak_node.specs.declared.node.State.{State}
use Rattle.ak_node.specs.Node as node
use Rattle.ak_node.specs.Node.{known, me_of, is_for, started, and_then, rule, concludes, is_dead, running_step, step}
use Rattle.ak_node.proofs.StepChanges.{step_is}
use Rattle.ak_settings.specs.Settings.{SettingsModel}
use Rattle.ak_schedule.specs.declared.event.Event.{Event}
use Rattle.ak_wire.specs.declared.action.Action.TheVariants as action
use Rattle.ak_wire.specs.declared.envelope.Envelope.{Envelope}
use Rattle.ak_wire.specs.declared.envelope.Message.{Message}
use Rattle.ak_wire.specs.declared.envelope.Message.TheVariants as message
use Rattle.ak_wire.specs.Wire.{gossip_of}
use Rattle.ak_world.specs.World.{WorldState, Done, empty_world, happens, after, run_from, run}
use Rattle.ak_world.specs.declared.world.Reason.{Reason}
use Rattle.ak_world.proofs.IndexLemmas.{set_at, push_at}
use Rattle.ak_meaning.specs.Watching.{WatchesRing}
use Rattle.ak_meaning.proofs.MembershipOf.{allowed, told_to, rule_does}
use Rattle.ak_meaning.proofs.SilenceLaws.{watched_means}
use Rattle.ak_meaning.proofs.WhatCame.{IsAnswer, starts_now, steps, nobody, came}

-- ---- what is true of each node of a run
module _ (settings : SettingsModel) (P : State → Type 0) (begins : (u : UniqueModel) → P (started u settings)) (goes_on : (e : NodeEvent) (n : State) → IsTrue n.runs → P n → P (step e n).0) where
  abbrev Each : WorldState → Type 0
  Each w = (index : ℕ) (n : State) → slice_get w.nodes index ≡ Some n → P n

  answered : (w : WorldState) (e : Event) → Each w → (a : Result Done Reason) → IsAnswer settings w e a → Each (after w a)
  answered w e all (Err why) is = all
  answered w e all (Ok result) is = elim is as (λ d h. Each d.world) [
    | starts_now u started_is ↦ push_at (λ j m. P m) w.nodes (started u settings) all (begins u)
    | steps ev i n founded at runs gives ↦ set_at (λ j m. P m) w.nodes i (step ev n).0 (λ j m there elsewhere. all j m there) (goes_on ev n runs (all i n at))
    | nobody ↦ all
  ]

  each_from : (events : List Event) (w : WorldState) → Each w → Each (run_from settings w events)
  each_from [] w all = all
  each_from (e ∷ events) w all = each_from events (after w (happens settings e w)) (answered w e all (happens settings e w) (came settings w e))

  pub each_node : (events : List Event) → Each (run settings events)
  each_node events = each_from events empty_world (λ index n at. absurd cc)

-- ---- whom a node watches
watches_anew : (n : State) (m : MembershipState) → me_of n ≡ m.me → (known n).view.standings ≡ m.gossip.view.standings → n.membership.settings ≡ m.settings → n.membership.detector ≡ watching m.me m.gossip.view.standings m.settings.deadline m.detector → WatchesRing n
watches_anew n m same_me same_members same_settings is = record {
  ring = λ who there. ap (λ d. map.contains_key d who) is ∙ ring_watched m.me m.gossip.view.standings m.settings.deadline m.detector who (sym (λ i. has (watch_ring (same_me i) (same_members i)) who) ∙ there);
  others = λ who there off.
      let w = watched_means m.me m.gossip.view.standings m.settings.deadline m.detector who (sym (ap (λ d. map.contains_key d who) is) ∙ there) (sym (λ i. has (watch_ring (same_me i) (same_members i)) who) ∙ off) in
      ((λ i. has (silent (same_settings i).deadline (is i)) who) ∙ w.0, ap (λ s. is_member s who) same_members ∙ w.1);
}

running_watches : (e : NodeEvent) (n : State) → WatchesRing n → WatchesRing (running_step e n).0
running_watches e n before = by_dead (is_dead (me_of n) e)
  where
    by_dead : (b : Bool) → WatchesRing (if b then (n, action.Dead ∷ []) else and_then concludes (rule e n)).0
    by_dead true = before
    by_dead false = watches_anew (concludes (rule e n).0).0 (rule e n).0.membership refl refl refl refl

step_watches : (e : NodeEvent) (n : State) → IsTrue n.runs → WatchesRing n → WatchesRing (step e n).0
step_watches e n runs before =
    subst (λ (o : node.Outcome). WatchesRing o.0) (sym (step_is e n runs))
    (running_watches e (record n { steps = n.steps + 1 }) (record { ring = before.ring; others = before.others }))

starts_watching : (settings : SettingsModel) (u : UniqueModel) → WatchesRing (started u settings)
starts_watching settings u = record {
  ring = λ who there. absurd (true≢false (sym (ring_members u map.empty who there) ∙ ap (λ o. is_some (member_of o)) (get-empty who)));
  others = λ who there off. absurd (true≢false (sym there ∙ ap is_some (get-empty who)));
}

pub each_watches : (settings : SettingsModel) (events : List Event) (index : ℕ) (n : State) → slice_get (run settings events).nodes index ≡ Some n → WatchesRing n
each_watches settings events = each_node settings WatchesRing (starts_watching settings) step_watches events

-- ---- a gossip that comes to a running node
module _ (m : MembershipState) (g : GossipState) (there : IsTrue (is_known g.view.standings m.me)) where
  accepted_known : (k : Received × GossipState) → receive m.me m.gossip g ≡ Ok k → (allowed (on_gossip g m) m).0.gossip ≡ k.1
  accepted_known k is = ap (λ b. (allowed (if b then on_received g m (receive m.me m.gossip g) else Ok (unchanged m)) m).0.gossip) there ∙ ap (λ r. (allowed (on_received g m r) m).0.gossip) is

  by_fault : (f : GossipFault) → (allowed (on_received g m (Err f)) m).0.gossip ≡ m.gossip
  by_fault (fault.ForeignCount own theirs) = refl
  by_fault (fault.TooManyUniques together) = refl
  by_fault (fault.NoMemory _) = refl

  refused_known : (f : GossipFault) → receive m.me m.gossip g ≡ Err f → (allowed (on_gossip g m) m).0.gossip ≡ m.gossip
  refused_known f is = ap (λ b. (allowed (if b then on_received g m (receive m.me m.gossip g) else Ok (unchanged m)) m).0.gossip) there ∙ ap (λ r. (allowed (on_received g m r) m).0.gossip) is ∙ by_fault f

told_gossip : (from : UniqueModel) (what : Message) (g : GossipState) (m : MembershipState) → gossip_of what ≡ Some g → told_to from what m ≡ allowed (on_gossip g m) m
told_gossip from (message.Welcome h) g m is = ap (λ o. by_gossip o) is
  where
    by_gossip : Option GossipState → Outcome
    by_gossip None = unchanged m
    by_gossip (Some x) = allowed (on_gossip x m) m
told_gossip from (message.Gossip h) g m is = ap (λ o. by_gossip o) is
  where
    by_gossip : Option GossipState → Outcome
    by_gossip None = unchanged m
    by_gossip (Some x) = allowed (on_gossip x m) m
told_gossip from other g m is = absurd (true≢false (sym (ap is_some is)))

step_known : (n : State) (p : Envelope) (g : GossipState) → IsTrue n.runs → IsTrue (is_for (me_of n) p) → gossip_of p.message ≡ Some g → known (step (event.Packet p) n).0 ≡ (allowed (on_gossip g n.membership) n.membership).0.gossip
step_known n p g runs reached carried =
    let x : State = record n { steps = n.steps + 1 } in
    ap (λ (o : node.Outcome). known o.0) (step_is (event.Packet p) n runs)
    ∙ ap (λ b. known (if not b then (x, action.Dead ∷ []) else and_then concludes (rule (event.Packet p) x)).0) reached
    ∙ ap (λ (m : MembershipState). m.gossip) (rule_does x (event.Packet p)).state
    ∙ ap (λ o. o.0.gossip) (told_gossip p.from p.message g n.membership carried)

pub takes_gossip : (n : State) (p : Envelope) (g : GossipState) → IsTrue n.runs → IsTrue (is_for (me_of n) p) → gossip_of p.message ≡ Some g → IsTrue (is_known g.view.standings (me_of n))
    → (k : Received × GossipState) → receive (me_of n) (known n) g ≡ Ok k → known (step (event.Packet p) n).0 ≡ k.1
takes_gossip n p g runs reached carried there k is = step_known n p g runs reached carried ∙ accepted_known n.membership g there k is

pub refuses_gossip : (n : State) (p : Envelope) (g : GossipState) → IsTrue n.runs → IsTrue (is_for (me_of n) p) → gossip_of p.message ≡ Some g → IsTrue (is_known g.view.standings (me_of n))
    → (f : GossipFault) → receive (me_of n) (known n) g ≡ Err f → known (step (event.Packet p) n).0 ≡ known n
refuses_gossip n p g runs reached carried there f is = step_known n p g runs reached carried ∙ refused_known n.membership g there f is
