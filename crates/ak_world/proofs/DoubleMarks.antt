-- The first double is that of the first step at which an entity starts while another running node keeps it: so the mark that a world
-- keeps is the one of the definition, after each event.
use Rattle.std.proofs.Common.{length-append, ◌≡◌, ◌≢◌, ◌⊎◌, inl, inr, ℕ, zero, suc, ◌+◌, ◌<◌, ◌≤◌, List, [], ◌∷◌, ◌++◌, length, take, Option, Some, None, is_some, Ok, slice_get, refl, sym, ap, ◌∙◌, subst, arith, true≢false}
use Rattle.std.proofs.lemmas.Option.{same_Some, slice_get_within}
use Rattle.std.specs.Ordering.{ordering_reverse}
use Rattle.std.specs.declared.cmp.Ordering.{Ordering}
use Rattle.std.specs.declared.cmp.Ordering.TheVariants.{Less, Equal, Greater}
use Rattle.ak_address.specs.Unique.{UniqueModel, unique_cmp}
use Rattle.ak_address.proofs.Elements.{contains_nothing, contains_at}
use Rattle.ak_address.proofs.OrderLemmas.{unique_total, unique_exact}
use Rattle.ak_settings.specs.Settings.{SettingsModel}
use Rattle.ak_schedule.specs.declared.event.Event.{Event}
use Rattle.ak_wire.specs.declared.action.Action.{Action}
use Rattle.ak_wire.specs.declared.action.Action.TheVariants as action
use Rattle.ak_node.specs.Node.{me_of}
use Rattle.ak_world.specs.Double.{Acts, Starts, Ends, IsBefore, WasActive, IsDoubled, ComesNotAfter, Doubled, IsFirst, IsFirstDouble}
use Rattle.ak_world.specs.DoubleMark.{Keeps, DoublesAt, NextDouble}
use Rattle.ak_world.specs.Margin.{IsStep}
use Rattle.ak_world.specs.World.{WorldState, Done, happens, run}
use Rattle.ak_world.specs.WorldContracts.{Went}
use Rattle.ak_world.specs.declared.world.Step.{Step}
use Rattle.ak_world.proofs.DoubleKept.{doubled_keeps, keeps_doubled}
use Rattle.ak_world.proofs.DoubleRuns.{one_done, acts_alone}
use Rattle.ak_world.proofs.FoldRuns.{run_sound}
use Rattle.ak_world.proofs.MarginRuns.{old_or_new, step_later, step_sooner, last_step, same_place, take_first}
use Rattle.ak_world.proofs.Told.{world_then}

pub no_later : (a b c d : ℕ) → IsBefore a b c d → a ≤ c
no_later a b c d (inl lt) = omega (arith, lt)
no_later a b c d (inr same) = let is = same.0 in omega (arith, is)

pub not_less : (a b : ℕ) → (b < a → ⊥) → a ≤ b
not_less zero b never = omega arith
not_less (suc a) zero never = absurd (never (omega arith))
not_less (suc a) (suc b) never = let le = not_less a b (λ lt. never (omega (arith, lt))) in omega (arith, le)

-- ---- a list with one more event
module _ (settings : SettingsModel) (events : List Event) (e : Event) where
  abbrev more : List Event
  more = events ++ e ∷ []

  -- the same is done at the same steps
  acts_later : (time place node : ℕ) (a : Action) → Acts settings events time place node a → Acts settings more time place node a
  acts_later time place node a x = record { event = x.event; done = x.done; did = step_later settings events e time x.event x.done x.did; acted = x.acted; at = x.at }

  acts_sooner : (time place node : ℕ) (a : Action) → time < length events → Acts settings more time place node a → Acts settings events time place node a
  acts_sooner time place node a within x = elim (old_or_new settings events e time x.event x.did.at) [
    | inl old ↦ record { event = x.event; done = x.done; did = step_sooner settings events e time x.event x.done old x.did; acted = x.acted; at = x.at }
    | inr new ↦ let is = new.0 in absurd (omega (arith, within, is))
  ]

  ends_later : (time place node : ℕ) (x : List ℕ) → Ends settings events time place node x → Ends settings more time place node x
  ends_later time place node x (inl a) = inl (acts_later time place node _ a)
  ends_later time place node x (inr a) = inr (acts_later time place node action.Stopped a)

  ends_sooner : (time place node : ℕ) (x : List ℕ) → time < length events → Ends settings more time place node x → Ends settings events time place node x
  ends_sooner time place node x within (inl a) = inl (acts_sooner time place node _ within a)
  ends_sooner time place node x within (inr a) = inr (acts_sooner time place node action.Stopped within a)

  -- so the same was active, and was doubled
  active_later : (time place node : ℕ) (x : List ℕ) → time < length events → WasActive settings events time place node x → WasActive settings more time place node x
  active_later time place node x within a = record {
    start = a.start;
    start_place = a.start_place;
    starts = acts_later a.start a.start_place node (action.Entity x) a.starts;
    before = a.before;
    still = λ end end_place since before ends. a.still end end_place since before (ends_sooner end end_place node x (let le = no_later end end_place time place before in omega (arith, le, within)) ends);
  }

  active_sooner : (time place node : ℕ) (x : List ℕ) → time < length events → WasActive settings more time place node x → WasActive settings events time place node x
  active_sooner time place node x within a = record {
    start = a.start;
    start_place = a.start_place;
    starts = acts_sooner a.start a.start_place node (action.Entity x) (let le = no_later a.start a.start_place time place a.before in omega (arith, le, within)) a.starts;
    before = a.before;
    still = λ end end_place since before ends. a.still end end_place since before (ends_later end end_place node x ends);
  }

  within_of : (time place node : ℕ) (a : Action) → Acts settings events time place node a → time < length events
  within_of time place node a x = slice_get_within events time x.event x.did.at

  pub doubled_later : (time place node other : ℕ) (x : List ℕ) → IsDoubled settings events time place node other x → IsDoubled settings more time place node other x
  doubled_later time place node other x d = record {
    starts = acts_later time place node (action.Entity x) d.starts;
    apart = d.apart;
    active = active_later time place other x (within_of time place node (action.Entity x) d.starts) d.active;
  }

  pub doubled_sooner : (time place node other : ℕ) (x : List ℕ) → time < length events → IsDoubled settings more time place node other x → IsDoubled settings events time place node other x
  doubled_sooner time place node other x within d = record {
    starts = acts_sooner time place node (action.Entity x) within d.starts;
    apart = d.apart;
    active = active_sooner time place other x within d.active;
  }

  -- and the same node was the first of those at which the entity was active
  pub least_later : (d : Doubled) (f : IsFirst settings events d) (other : ℕ) → IsDoubled settings events f.time f.place d.started other d.entity → ComesNotAfter (run settings (take (f.time + 1) more)).nodes d.active other
  least_later d f other is =
      let within = within_of f.time f.place d.started (action.Entity d.entity) f.doubled.starts in
      subst (λ l. ComesNotAfter (run settings l).nodes d.active other) (sym (take_first (f.time + 1) events e (omega (arith, within)))) (f.least other is)

  -- ---- the last step
  module _ (done : Done) (did : happens settings e (run settings events) ≡ Ok done) where
    abbrev last : ℕ
    last = length events

    last_is : IsStep settings more last e done
    last_is = last_step settings events e done did

    world_last : run settings (take (last + 1) more) ≡ done.world
    world_last = world_then settings more last e done last_is

    -- in it an entity starts that another running node keeps
    record LastDouble (place node other : ℕ) (x : List ℕ) : Type 0 where
      at : slice_get done.actions place ≡ Some (action.Entity x)
      acted : done.node ≡ Some node
      apart : other ≢ node
      keeps : Keeps done.world.nodes x other

    last_doubled : (place node other : ℕ) (x : List ℕ) → LastDouble place node other x → IsDoubled settings more last place node other x
    last_doubled place node other x l =
        keeps_doubled settings more last place node other x (record { event = e; done = done; did = last_is; acted = l.acted; at = l.at }) l.apart
        (subst (λ (w : WorldState). Keeps w.nodes x other) (sym world_last) l.keeps)

    doubled_last : (place node other : ℕ) (x : List ℕ) → IsDoubled settings more last place node other x → LastDouble place node other x
    doubled_last place node other x d =
        let s = d.starts in
        let same : s.done ≡ done = one_done settings more last s.event e s.done done s.did last_is in
        record {
          at = ap (λ (r : Done). slice_get r.actions place) (sym same) ∙ s.at;
          acted = ap (λ (r : Done). r.node) (sym same) ∙ s.acted;
          apart = d.apart;
          keeps = subst (λ (w : WorldState). Keeps w.nodes x other) world_last (doubled_keeps settings more last place node other x d);
        }

    old_or_last : (time place node other : ℕ) (x : List ℕ) → IsDoubled settings more time place node other x → IsDoubled settings events time place node other x ⊎ ((time ≡ last) × LastDouble place node other x)
    old_or_last time place node other x d = elim (old_or_new settings events e time d.starts.event d.starts.did.at) [
      | inl old ↦ inl (doubled_sooner time place node other x (slice_get_within events time d.starts.event old) d)
      | inr new ↦ inr (new.0, doubled_last place node other x (subst (λ t. IsDoubled settings more t place node other x) new.0 d))
    ]

    -- ---- the mark
    -- the first double stays
    first_stays : (d : Doubled) → IsFirst settings events d → IsFirst settings more d
    first_stays d f =
        let within = within_of f.time f.place d.started (action.Entity d.entity) f.doubled.starts in
        record {
          time = f.time;
          place = f.place;
          doubled = doubled_later f.time f.place d.started d.active d.entity f.doubled;
          least = λ other is. least_later d f other (doubled_sooner f.time f.place d.started other d.entity within is);
          first = λ later later_place node other x is. elim (old_or_last later later_place node other x is) [
            | inl old ↦ f.first later later_place node other x old
            | inr new ↦ inl (let at = new.0 in omega (arith, within, at))
          ];
          step_is = f.step_is;
        }

    -- where there was none there is none yet
    none_yet : IsFirstDouble settings events None → ((place node other : ℕ) (x : List ℕ) → LastDouble place node other x → ⊥) → IsFirstDouble settings more None
    none_yet none never time place node other x is = elim (old_or_last time place node other x is) [
      | inl old ↦ none time place node other x old
      | inr new ↦ never place node other x new.1
    ]

    same_node : (node acting : ℕ) → done.node ≡ Some acting → done.node ≡ Some node → acting ≡ node
    same_node node acting acts acted = same_Some acting node (sym acts ∙ acted)

    -- or it is in the last step
    now_first : IsFirstDouble settings events None → (acting : ℕ) → done.node ≡ Some acting → (d : Doubled) → DoublesAt (last + 1) done.world.nodes acting done.actions (Some d) → IsFirst settings more d
    now_first none acting acts d doubles =
        let s = doubles.0 in
        let is_acting : d.started ≡ acting = doubles.1 in
        record {
          time = last;
          place = s.place;
          doubled = last_doubled s.place d.started d.active d.entity (record { at = s.at; acted = acts ∙ ap (λ (j : ℕ). Some j) (sym is_acting); apart = λ same. s.keeper.apart (same ∙ is_acting); keeps = s.keeper.keeps });
          least = λ other is.
              subst (λ (w : WorldState). ComesNotAfter w.nodes d.active other) (sym world_last)
              (s.keeper.least other (doubled_last s.place d.started other d.entity is).keeps (λ same. is.apart (same ∙ sym is_acting)));
          first = λ later later_place node other x is. elim (old_or_last later later_place node other x is) [
            | inl old ↦ absurd (none later later_place node other x old)
            | inr new ↦ let l = new.1 in inr (sym new.0, not_less s.place later_place (λ lt. s.first later_place x lt l.at other l.keeps (λ same. l.apart (same ∙ same_node node acting acts l.acted))))
          ];
          step_is = doubles.2;
        }

    by_next : IsFirstDouble settings events None → (acting : ℕ) → done.node ≡ Some acting → (next : Option Doubled) → DoublesAt (last + 1) done.world.nodes acting done.actions next → IsFirstDouble settings more next
    by_next none acting acts None never = none_yet none (λ place node other x l. never place x l.at other l.keeps (λ same. l.apart (same ∙ same_node node acting acts l.acted)))
    by_next none acting acts (Some d) doubles = now_first none acting acts d doubles

    by_node : IsFirstDouble settings events None → (node : Option ℕ) → done.node ≡ node → (next : Option Doubled) → NextDouble None (last + 1) done.world.nodes node done.actions next → IsFirstDouble settings more next
    by_node none None acts next is = subst (IsFirstDouble settings more) (sym is) (none_yet none (λ place node other x l. true≢false (sym (ap is_some (sym acts ∙ l.acted)))))
    by_node none (Some acting) acts next is = by_next none acting acts next is

    by_mark : (mark next : Option Doubled) → IsFirstDouble settings events mark → NextDouble mark (last + 1) done.world.nodes done.node done.actions next → IsFirstDouble settings more next
    by_mark (Some d) next first is = subst (IsFirstDouble settings more) (sym is) (first_stays d first)
    by_mark None next none is = by_node none done.node refl next is

-- the mark is that of the definition
pub double_goes_on : (settings : SettingsModel) (events : List Event) (e : Event) (done : Done) → happens settings e (run settings events) ≡ Ok done → (mark next : Option Doubled)
    → IsFirstDouble settings events mark → NextDouble mark (length events + 1) done.world.nodes done.node done.actions next → IsFirstDouble settings (events ++ e ∷ []) next
double_goes_on settings events e done did mark next first is = by_mark settings events e done did mark next first is

-- there is none where nothing happened
pub none_at_first : (settings : SettingsModel) → IsFirstDouble settings [] None
none_at_first settings time place node other x d = contains_nothing d.starts.event (contains_at [] time d.starts.event d.starts.did.at)

-- ---- in the code: the mark after an accepted event is the first double
pub went_double : (settings new_settings : SettingsModel) (w v : WorldState) (events new_events : List Event) (e : Event) (s : Step) (mark next : Option Doubled) (number : ℕ)
    → w ≡ run settings events → new_settings ≡ settings → new_events ≡ events ++ e ∷ [] → number ≡ length new_events → Went w (happens settings e w) s v
    → NextDouble mark number v.nodes s.node s.actions next → IsFirstDouble settings events mark → IsFirstDouble new_settings new_events next
went_double settings new_settings w v events new_events e s mark next number is_run same_settings events_are number_is went next_is first =
    let done_is : record { world = v; node = s.node; actions = s.actions } ≡ went.done = λ i. record { world = went.world i; node = went.shown.node i; actions = went.shown.actions i } in
    let did : happens settings e (run settings events) ≡ Ok went.done = ap (happens settings e) (sym is_run) ∙ went.happened in
    let count : number ≡ length events + 1 = number_is ∙ ap length events_are ∙ length-append events (e ∷ []) in
    let mark_is = subst (λ (d : Done). NextDouble mark (length events + 1) d.world.nodes d.node d.actions next) done_is (subst (λ k. NextDouble mark k v.nodes s.node s.actions next) count next_is) in
    subst (λ l. IsFirstDouble new_settings l next) (sym events_are)
    (subst (λ (x : SettingsModel). IsFirstDouble x (events ++ e ∷ []) next) (sym same_settings) (double_goes_on settings events e went.done did mark next first mark_is))

-- ---- a list of events has one first double, or none
-- two processes of which none comes after the other are one
neither_after : (u v : UniqueModel) → (unique_cmp u v ≡ Greater → ⊥) → (unique_cmp v u ≡ Greater → ⊥) → u ≡ v
neither_after u v forth back = by_order (unique_cmp u v) refl
  where
    by_order : (o : Ordering) → unique_cmp u v ≡ o → u ≡ v
    by_order Less is = absurd (back (unique_total.antisymm v u ∙ ap ordering_reverse is))
    by_order Equal is = unique_exact u v is
    by_order Greater is = absurd (forth is)

module _ (settings : SettingsModel) (events : List Event) where
  -- two starts at one place of one step are one
  same_start : (time place node other : ℕ) (x y : List ℕ) → Starts settings events time place node x → Starts settings events time place other y → x ≡ y
  same_start time place node other x y s t =
      let done_is : s.done ≡ t.done = one_done settings events time s.event t.event s.done t.done s.did t.did in
      let same : action.Entity x ≡ action.Entity y = same_Some _ _ (sym s.at ∙ ap (λ (d : Done). slice_get d.actions place) done_is ∙ t.at) in
      cc

  -- two nodes that are least are one
  same_active : (time place node other another : ℕ) (x : List ℕ) → IsDoubled settings events time place node other x → IsDoubled settings events time place node another x
      → ComesNotAfter (run settings (take (time + 1) events)).nodes other another → ComesNotAfter (run settings (take (time + 1) events)).nodes another other → other ≡ another
  same_active time place node other another x d f least back =
      let k = doubled_keeps settings events time place node other x d in
      let l = doubled_keeps settings events time place node another x f in
      (run_sound settings (take (time + 1) events)).apart other another k.node l.node k.at l.at
      (neither_after (me_of k.node) (me_of l.node) (least k.node l.node k.at l.at) (back l.node k.node l.at k.at))

  same_first : (a b : Doubled) → IsFirst settings events a → IsFirst settings events b → a ≡ b
  same_first a b f g =
      let at = same_place settings events f.time g.time f.place g.place (f.first g.time g.place b.started b.active b.entity g.doubled) (g.first f.time f.place a.started a.active a.entity f.doubled) in
      let there : IsDoubled settings events g.time g.place a.started a.active a.entity =
      subst (λ p. IsDoubled settings events g.time p a.started a.active a.entity) at.1 (subst (λ t. IsDoubled settings events t f.place a.started a.active a.entity) at.0 f.doubled) in
      let started : a.started ≡ b.started = acts_alone settings events g.time g.place g.place a.started b.started _ _ there.starts g.doubled.starts in
      let entity : a.entity ≡ b.entity = same_start g.time g.place a.started b.started a.entity b.entity there.starts g.doubled.starts in
      let here : IsDoubled settings events g.time g.place b.started a.active b.entity =
      subst (λ n. IsDoubled settings events g.time g.place n a.active b.entity) started (subst (λ x. IsDoubled settings events g.time g.place a.started a.active x) entity there) in
      let back : IsDoubled settings events f.time f.place a.started b.active a.entity =
      subst (λ n. IsDoubled settings events f.time f.place n b.active a.entity) (sym started)
      (subst (λ x. IsDoubled settings events f.time f.place b.started b.active x) (sym entity)
      (subst (λ p. IsDoubled settings events f.time p b.started b.active b.entity) (sym at.1) (subst (λ t. IsDoubled settings events t g.place b.started b.active b.entity) (sym at.0) g.doubled))) in
      let least : ComesNotAfter (run settings (take (g.time + 1) events)).nodes a.active b.active = subst (λ t. ComesNotAfter (run settings (take (t + 1) events)).nodes a.active b.active) at.0 (f.least b.active back) in
      let active : a.active ≡ b.active = same_active g.time g.place b.started a.active b.active b.entity here g.doubled least (g.least a.active here) in
      let step : a.step ≡ b.step = f.step_is ∙ ap (λ t. t + 1) at.0 ∙ sym g.step_is in
      λ i. record { entity = entity i; active = active i; started = started i; step = step i }

pub one_first : (settings : SettingsModel) (events : List Event) (a b : Option Doubled) → IsFirstDouble settings events a → IsFirstDouble settings events b → a ≡ b
one_first settings events None None f g = refl
one_first settings events None (Some b) f g = absurd (f g.time g.place b.started b.active b.entity g.doubled)
one_first settings events (Some a) None f g = absurd (g f.time f.place a.started a.active a.entity f.doubled)
one_first settings events (Some a) (Some b) f g = ap (λ (d : Doubled). Some d) (same_first settings events a b f g)
