-- What an accepted event of a schedule was: a start; an event of the schedule's own, given to the process that it names, or a
-- packet, given to whom it reached; or a packet that reached nobody. (`WhatHappened` of `ak_world` says less: not which event it
-- was.)
use Rattle.std.proofs.Common.{◌≡◌, ℕ, leb, Bool, true, false, not, if◌then◌else◌, List, [], ◌∷◌, ◌++◌, length, take, zero, suc, Option, Some, None, Result, Ok, Err, slice_get, IsTrue, refl, ap, ◌∙◌, true≢false}
use Rattle.std.proofs.lemmas.Option.{same_Some}
use Rattle.std.specs.List.{list_any}
use Rattle.std.specs.Cmp.{first_so, second_so}
use Rattle.ak_address.specs.Unique.{UniqueModel}
use Rattle.ak_address.proofs.TableLaws.{same_key}
use Rattle.ak_node.specs.declared.node.NodeEvent.{NodeEvent}
use Rattle.ak_node.specs.declared.node.NodeEvent.TheVariants as event
use Rattle.ak_node.specs.declared.node.State.{State}
use Rattle.ak_node.specs.Node.{me_of, is_for, step}
use Rattle.ak_settings.specs.Settings.{SettingsModel, is_listed, is_entity_in}
use Rattle.ak_schedule.specs.declared.event.Event.{Event}
use Rattle.ak_schedule.specs.declared.event.Event.TheVariants.{Start, Found, Join, Tick, Deliver, Leave, Down, Offer, Stop}
use Rattle.ak_wire.specs.declared.envelope.Envelope.{Envelope}
use Rattle.ak_world.specs.declared.world.Reason.{Reason}
use Rattle.ak_world.specs.declared.world.Reason.TheVariants as reason
use Rattle.ak_world.specs.World.{WorldState, Done, empty_world, stepped, gives, acts_at, acts, arrives, delivers, starts, packet_at, is_process, is_in_use, is_full, is_reached, node_of, receiver_of, most_starts, happens, after, run, unless_bad}
use Rattle.ak_meaning.specs.Causes.{Gives}
use Rattle.ak_world.proofs.WhatHappened.{position_passes}
use Rattle.ak_world.proofs.WorldLemmas.{run-push}

pub data Came (settings : SettingsModel) (w : WorldState) (e : Event) : Done → Type 0 where
  starts_now : (u : UniqueModel) → e ≡ Start u → Came settings w e (starts settings u w)
  steps : (ev : NodeEvent) (index : ℕ) (n : State) (founded : Bool) → slice_get w.nodes index ≡ Some n → IsTrue n.runs → Gives w e (me_of n) ev → Came settings w e (stepped index (step ev n) (record w { founded = founded }))
  nobody : Came settings w e (record { world = w; node = None; actions = [] })

abbrev pub IsAnswer : SettingsModel → WorldState → Event → Result Done Reason → Type 0
IsAnswer settings w e (Ok done) = Came settings w e done
IsAnswer settings w e (Err why) = Unit {0}

module _ (settings : SettingsModel) (w : WorldState) (e : Event) where
  unless : (b : Bool) (why : Reason) (a : Result Done Reason) → (b ≡ false → IsAnswer settings w e a) → IsAnswer settings w e (if b then Err why else a)
  unless true why a then_is = tt
  unless false why a then_is = then_is refl

  was : (b : Bool) → not b ≡ false → b ≡ true
  was true is = refl
  was false is = absurd (true≢false is)

  acted_at : (ev : NodeEvent) (index : ℕ) (o : Option State) (founded : Bool) → slice_get w.nodes index ≡ o → ((n : State) → o ≡ Some n → Gives w e (me_of n) ev) → IsAnswer settings w e (acts_at ev index o (record w { founded = founded }))
  acted_at ev index (Some n) founded at is =
      unless (not n.runs) reason.NodeStopped _ (λ runs.
      unless (is_full w) reason.TooManyPackets _ (λ room. steps ev index n founded at (was n.runs runs) (is n refl)))
  acted_at ev index None founded at is = tt

  acted : (ev : NodeEvent) (u : UniqueModel) (o : Option ℕ) (founded : Bool) → node_of u w ≡ o → ((me : UniqueModel) → me ≡ u → Gives w e me ev) → IsAnswer settings w e (acts ev o (record w { founded = founded }))
  acted ev u (Some index) founded found is =
      acted_at ev index (slice_get w.nodes index) founded refl
      (λ n at. is (me_of n) (same_key (me_of n) u (position_passes (is_process u) w.nodes index n found at)))
  acted ev u None founded found is = tt

  given : (p : Envelope) (index : ℕ) (o : Option State) → slice_get w.nodes index ≡ o → ((n : State) → o ≡ Some n → is_reached p n ≡ true) → ((me : UniqueModel) → is_for me p ≡ true → Gives w e me (event.Packet p)) → IsAnswer settings w e (gives (event.Packet p) index o w)
  given p index (Some n) at reached is = steps (event.Packet p) index n w.founded at (first_so n.runs (is_for (me_of n) p) (reached n refl)) (is (me_of n) (second_so n.runs (is_for (me_of n) p) (reached n refl)))
  given p index None at reached is = tt

  arrived : (p : Envelope) (o : Option ℕ) → receiver_of p w ≡ o → ((me : UniqueModel) → is_for me p ≡ true → Gives w e me (event.Packet p)) → IsAnswer settings w e (arrives p o w)
  arrived p (Some index) found is = given p index (slice_get w.nodes index) refl (λ n at. position_passes (is_reached p) w.nodes index n found at) is
  arrived p None found is = nobody

  delivered : (o : Option Envelope) → ((p : Envelope) → o ≡ Some p → (me : UniqueModel) → is_for me p ≡ true → Gives w e me (event.Packet p)) → IsAnswer settings w e (delivers o w)
  delivered (Some p) is = unless (is_full w) reason.TooManyPackets _ (λ room. arrived p (receiver_of p w) refl (is p refl))
  delivered None is = tt

not_bad : (settings : SettingsModel) (w : WorldState) (e : Event) (b : Bool) (answer : Result Done Reason) → IsAnswer settings w e answer → IsAnswer settings w e (unless_bad b answer)
not_bad settings w e true answer is = is
not_bad settings w e false (Ok done) is = tt
not_bad settings w e false (Err why) is = tt

pub came : (settings : SettingsModel) (w : WorldState) (e : Event) → IsAnswer settings w e (happens settings e w)
came settings w (Start u) =
    unless settings w (Start u) (not (is_listed settings.listed u.address)) reason.Unlisted _ (λ listed.
    unless settings w (Start u) (list_any (is_process u) w.nodes) reason.UniqueUsed _ (λ unknown.
    unless settings w (Start u) (is_in_use u.address w) reason.AddressInUse _ (λ free.
    unless settings w (Start u) (is_full w) reason.TooManyPackets _ (λ room.
    unless settings w (Start u) (leb most_starts (length w.nodes)) reason.TooManyStarts _ (λ few. starts_now u refl)))))
came settings w (Found u) = unless settings w (Found u) w.founded reason.SecondFound _ (λ first. acted settings w (Found u) event.Found u (node_of u w) true refl (λ me is. (is, refl)))
came settings w (Join u target) =
    unless settings w (Join u target) (not (is_listed settings.listed target)) reason.Unlisted _ (λ listed.
    acted settings w (Join u target) (event.Join target) u (node_of u w) w.founded refl (λ me is. (is, refl)))
came settings w (Deliver number) = delivered settings w (Deliver number) (packet_at w number) (λ p at me reached. (p, at, refl, reached))
came settings w (Tick u word) = acted settings w (Tick u word) (event.Tick word) u (node_of u w) w.founded refl (λ me is. (is, refl))
came settings w (Leave u who) = acted settings w (Leave u who) (event.Leave who) u (node_of u w) w.founded refl (λ me is. (is, refl))
came settings w (Down u who) = acted settings w (Down u who) (event.Down who) u (node_of u w) w.founded refl (λ me is. (is, refl))
came settings w (Offer u entity payload) = not_bad settings w (Offer u entity payload) (is_entity_in settings entity) _ (acted settings w (Offer u entity payload) (event.Offer entity payload) u (node_of u w) w.founded refl (λ me is. (is, refl)))
came settings w (Stop u) = acted settings w (Stop u) event.Stop u (node_of u w) w.founded refl (λ me is. (is, refl))

-- ---- the first events of a run, one more
pub take_next : {X : Type 0} (time : ℕ) (xs : List X) (x : X) → slice_get xs time ≡ Some x → take (suc time) xs ≡ take time xs ++ x ∷ []
take_next {X} time [] x at = absurd cc
take_next {X} zero (y ∷ xs) x at = ap (λ z. z ∷ []) (same_Some y x at)
take_next {X} (suc time) (y ∷ xs) x at = ap (λ l. y ∷ l) (take_next time xs x at)

pub take_end : {X : Type 0} (time : ℕ) (xs : List X) → slice_get xs time ≡ None → take (suc time) xs ≡ take time xs
take_end {X} zero [] at = refl
take_end {X} (suc time) [] at = refl
take_end {X} zero (y ∷ xs) at = absurd cc
take_end {X} (suc time) (y ∷ xs) at = ap (λ l. y ∷ l) (take_end time xs at)

pub run_next : (settings : SettingsModel) (events : List Event) (time : ℕ) (e : Event) → slice_get events time ≡ Some e
    → run settings (take (suc time) events) ≡ after (run settings (take time events)) (happens settings e (run settings (take time events)))
run_next settings events time e at = ap (run settings) (take_next time events e at) ∙ run-push settings empty_world (take time events) e
