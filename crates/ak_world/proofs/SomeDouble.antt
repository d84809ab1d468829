-- Each list of events has a first double, or none: after each event the mark that a world keeps is there.
use Rattle.std.proofs.Common.{◌≡◌, append_assoc, append-nil, ◌≢◌, ◌⊎◌, inl, inr, ℕ, zero, suc, ◌+◌, ◌<◌, Bool, true, false, List, [], ◌∷◌, ◌++◌, length, take, Option, Some, None, is_some, Result, Ok, Err, slice_get, IsTrue, add-one, le_refl, refl, sym, ap, ◌∙◌, subst, arith, true≢false}
use Rattle.std.proofs.lemmas.Option.{same_Some, none-some, slice_get_within}
use Rattle.std.specs.FinMap as finmap
use Rattle.std.specs.Ordering.{is_lt}
use Rattle.std.specs.declared.cmp.Ordering.{Ordering}
use Rattle.std.specs.declared.cmp.Ordering.TheVariants.{Less, Equal, Greater}
use Rattle.ak_address.specs.Unique.{unique_cmp}
use Rattle.ak_settings.specs.Settings.{SettingsModel}
use Rattle.ak_schedule.specs.declared.event.Event.{Event}
use Rattle.ak_sharding.specs.Alive.{IsActive, starts_of}
use Rattle.ak_wire.specs.declared.action.Action.{Action}
use Rattle.ak_wire.specs.declared.action.Action.TheVariants as action
use Rattle.ak_node.specs.declared.node.State.{State}
use Rattle.ak_node.specs.Node.{me_of}
use Rattle.ak_world.specs.declared.world.Reason.{Reason}
use Rattle.ak_world.specs.Double.{IsDoubled, Doubled, IsFirstDouble}
use Rattle.ak_world.specs.DoubleMark.{IsKeeper, FirstKeeper, StartsNone, StartsFirst, DoublesAt, NextDouble}
use Rattle.ak_world.specs.World.{Done, happens, run}
use Rattle.ak_world.proofs.DoubleLoops.{keeps_in, keeper_none, keeper_past, keeper_whole, keeper_found, keeper_stays}
use Rattle.ak_world.proofs.DoubleMarks.{doubled_later, doubled_sooner, least_later, double_goes_on, none_at_first}
use Rattle.ak_world.proofs.MarginRuns.{old_or_new, not_last}

-- ---- of the nodes the first that keeps an entity, or none does
same_or_other : (a b : ℕ) → (a ≡ b) ⊎ (a ≢ b)
same_or_other zero zero = inl refl
same_or_other zero (suc b) = inr (λ same. omega (arith, same))
same_or_other (suc a) zero = inr (λ same. omega (arith, same))
same_or_other (suc a) (suc b) = elim (same_or_other a b) [ inl same ↦ inl (ap suc same) | inr other ↦ inr (λ same. other (omega (arith, same))) ]

module _ (nodes : List State) (entity : List ℕ) (but : ℕ) where
  abbrev Found : ℕ → Type 0
  Found index = (found : Option ℕ) × FirstKeeper (take index nodes) entity but found

  module _ (index : ℕ) (n : State) (at : slice_get nodes index ≡ Some n) where
    -- a node that keeps it is compared with the one that was found
    module _ (apart : index ≢ but) (runs : IsTrue n.runs) (active : IsActive n.sharding entity) where
      by_order : (best : ℕ) → FirstKeeper (take index nodes) entity but (Some best) → (m : State) → slice_get nodes best ≡ Some m → (o : Ordering) → unique_cmp (me_of n) (me_of m) ≡ o → Found (index + 1)
      by_order best first m there Less is = (Some index, keeper_found nodes entity but index n (Some best) at first apart runs active before)
        where
          before : (other : ℕ) (x : State) → Some best ≡ Some other → slice_get nodes other ≡ Some x → unique_cmp (me_of n) (me_of x) ≡ Less
          before other x same also = ap (λ (s : State). unique_cmp (me_of n) (me_of s)) (same_Some x m (sym also ∙ ap (slice_get nodes) (sym (same_Some best other same)) ∙ there)) ∙ is
      by_order best first m there Equal is = (Some best, keeper_stays nodes entity but index n (Some best) at first (inr (inr (best, m, refl, there, λ less. true≢false (ap is_lt (sym less ∙ is))))))
      by_order best first m there Greater is = (Some best, keeper_stays nodes entity but index n (Some best) at first (inr (inr (best, m, refl, there, λ less. true≢false (ap is_lt (sym less ∙ is))))))

      by_found : (found : Option ℕ) → FirstKeeper (take index nodes) entity but found → Found (index + 1)
      by_found None none = (Some index, keeper_found nodes entity but index n None at none apart runs active (λ best m same there. absurd (none-some best same)))
      by_found (Some best) first =
          let there = keeps_in nodes entity index best first.keeps in
          let k = there.1 in
          by_order best first k.node k.at (unique_cmp (me_of n) (me_of k.node)) refl

    module _ (f : Found index) where
      by_tests : index ≢ but → (runs active : Bool) → n.runs ≡ runs → is_some (finmap.get n.sharding.entities entity) ≡ active → Found (index + 1)
      by_tests apart false active is also = (f.0, keeper_stays nodes entity but index n f.0 at f.1 (inr (inl (λ kept. true≢false (sym kept.0 ∙ is)))))
      by_tests apart true false is also = (f.0, keeper_stays nodes entity but index n f.0 at f.1 (inr (inl (λ kept. true≢false (sym kept.1 ∙ also)))))
      by_tests apart true true is also = by_found apart is also f.0 f.1

      by_number : (index ≡ but) ⊎ (index ≢ but) → Found (index + 1)
      by_number (inl same) = (f.0, keeper_stays nodes entity but index n f.0 at f.1 (inl same))
      by_number (inr apart) = by_tests apart n.runs (is_some (finmap.get n.sharding.entities entity)) refl refl

  one_more : (index : ℕ) (o : Option State) → slice_get nodes index ≡ o → Found index → Found (index + 1)
  one_more index None is f = (f.0, keeper_past nodes entity but index f.0 is f.1)
  one_more index (Some n) is f = by_number index n is f (same_or_other index but)

  among_first : (index : ℕ) → Found index
  among_first zero = (None, keeper_none nodes entity but)
  among_first (suc index) = subst (λ k. Found k) (add-one index) (one_more index (slice_get nodes index) refl (among_first index))

  pub some_keeper : (found : Option ℕ) × FirstKeeper nodes entity but found
  some_keeper = let f = among_first (length nodes) in (f.0, keeper_whole nodes entity but (length nodes) f.0 (le_refl (length nodes)) f.1)

-- ---- of the actions the first that starts an entity which another node keeps, or none does
started_or_not : (a : Action) → ((x : List ℕ) × (a ≡ action.Entity x)) ⊎ ((x : List ℕ) → a ≡ action.Entity x → ⊥)
started_or_not (action.Entity x) = inl (x, refl)
started_or_not other = inr (λ x same. true≢false (sym (ap is_some (ap starts_of same))))

module _ (step : ℕ) (nodes : List State) (acting : ℕ) where
  abbrev Doubles : List Action → Type 0
  Doubles actions = (next : Option Doubled) × DoublesAt step nodes acting actions next

  module _ (a : Action) (actions : List Action) where
    -- an action that starts no such entity changes nothing
    passes_by : ((x : List ℕ) → a ≡ action.Entity x → FirstKeeper nodes x acting None) → (next : Option Doubled) → DoublesAt step nodes acting actions next → DoublesAt step nodes acting (a ∷ actions) next
    passes_by none None rest = by_place
      where
        by_place : StartsNone nodes acting (a ∷ actions)
        by_place zero x at = none x (same_Some a (action.Entity x) at)
        by_place (suc place) x at = rest place x at
    passes_by none (Some d) rest =
        let s = rest.0 in
        (record { place = suc s.place; at = s.at; keeper = s.keeper; first = by_place s }, rest.1, rest.2)
      where
        by_place : (s : StartsFirst nodes acting actions d.entity d.active) → (earlier : ℕ) (x : List ℕ) → earlier < suc s.place → slice_get (a ∷ actions) earlier ≡ Some (action.Entity x) → FirstKeeper nodes x acting None
        by_place s zero x lt at = none x (same_Some a (action.Entity x) at)
        by_place s (suc earlier) x lt at = s.first earlier x (omega (arith, lt)) at

    starts_here : (x : List ℕ) (active : ℕ) → a ≡ action.Entity x → IsKeeper nodes x acting active → DoublesAt step nodes acting (a ∷ actions) (Some (record { entity = x; active = active; started = acting; step = step }))
    starts_here x active is keeper = (record { place = 0; at = ap (λ (y : Action). Some y) is; keeper = keeper; first = λ earlier other lt at. absurd (omega (arith, lt)) }, refl, refl)

    by_keeper : Doubles actions → (x : List ℕ) → a ≡ action.Entity x → (found : Option ℕ) → FirstKeeper nodes x acting found → Doubles (a ∷ actions)
    by_keeper rest x is None none = (rest.0, passes_by (λ y same. subst (λ z. FirstKeeper nodes z acting None) (same_Some x y (ap starts_of (sym is ∙ same))) none) rest.0 rest.1)
    by_keeper rest x is (Some active) keeper = (Some (record { entity = x; active = active; started = acting; step = step }), starts_here x active is keeper)

    by_start : Doubles actions → ((x : List ℕ) × (a ≡ action.Entity x)) ⊎ ((x : List ℕ) → a ≡ action.Entity x → ⊥) → Doubles (a ∷ actions)
    by_start rest (inl starts) = let k = some_keeper nodes starts.0 acting in by_keeper rest starts.0 starts.1 k.0 k.1
    by_start rest (inr never) = (rest.0, passes_by (λ x same. absurd (never x same)) rest.0 rest.1)

  some_doubles : (actions : List Action) → Doubles actions
  some_doubles [] = (None, λ place x at. absurd (none-some (action.Entity x) at))
  some_doubles (a ∷ actions) = by_start a actions (some_doubles actions) (started_or_not a)

pub next_double : (mark : Option Doubled) (step : ℕ) (nodes : List State) (acting : Option ℕ) (actions : List Action) → (next : Option Doubled) × NextDouble mark step nodes acting actions next
next_double (Some d) step nodes acting actions = (Some d, refl)
next_double None step nodes None actions = (None, refl)
next_double None step nodes (Some acting) actions = some_doubles step nodes acting actions

-- ---- a refused event
module _ (settings : SettingsModel) (events : List Event) (e : Event) (why : Reason) (refused : happens settings e (run settings events) ≡ Err why) where
  doubled_old : (time place node other : ℕ) (x : List ℕ) → IsDoubled settings (events ++ e ∷ []) time place node other x → IsDoubled settings events time place node other x
  doubled_old time place node other x d = elim (old_or_new settings events e time d.starts.event d.starts.did.at) [
    | inl old ↦ doubled_sooner settings events e time place node other x (slice_get_within events time d.starts.event old) d
    | inr new ↦ absurd (not_last settings events e why refused time d.starts.event d.starts.done d.starts.did new.0 new.1)
  ]

  pub double_stays : (mark : Option Doubled) → IsFirstDouble settings events mark → IsFirstDouble settings (events ++ e ∷ []) mark
  double_stays None none = λ time place node other x d. none time place node other x (doubled_old time place node other x d)
  double_stays (Some d) f = record {
    time = f.time;
    place = f.place;
    doubled = doubled_later settings events e f.time f.place d.started d.active d.entity f.doubled;
    least = λ other is. least_later settings events e d f other (doubled_old f.time f.place d.started other d.entity is);
    first = λ later later_place node other x is. f.first later later_place node other x (doubled_old later later_place node other x is);
    step_is = f.step_is;
  }

-- ---- each list of events has a first double, or none
module _ (settings : SettingsModel) where
  one_event : (events : List Event) (e : Event) (mark : Option Doubled) → IsFirstDouble settings events mark → (next : Option Doubled) × IsFirstDouble settings (events ++ e ∷ []) next
  one_event events e mark is = by_answer (happens settings e (run settings events)) refl
    where
      by_answer : (a : Result Done Reason) → happens settings e (run settings events) ≡ a → (next : Option Doubled) × IsFirstDouble settings (events ++ e ∷ []) next
      by_answer (Ok done) did =
          let next = next_double mark (length events + 1) done.world.nodes done.node done.actions in
          (next.0, double_goes_on settings events e done did mark next.0 is next.1)
      by_answer (Err why) did = (mark, double_stays settings events e why did mark is)

  more_events : (events rest : List Event) (mark : Option Doubled) → IsFirstDouble settings events mark → (last : Option Doubled) × IsFirstDouble settings (events ++ rest) last
  more_events events [] mark is = (mark, subst (λ l. IsFirstDouble settings l mark) (sym (append-nil events)) is)
  more_events events (e ∷ rest) mark is =
      let one = one_event events e mark is in
      let more = more_events (events ++ e ∷ []) rest one.0 one.1 in
      (more.0, subst (λ l. IsFirstDouble settings l more.0) (append_assoc events (e ∷ []) rest) more.1)

  pub some_double : (events : List Event) → (d : Option Doubled) × IsFirstDouble settings events d
  some_double events = more_events [] events None (none_at_first settings)
