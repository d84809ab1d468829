-- Whoever lets somebody in at a tick has been unsettled for as long as the settings ask.
use Rattle.std.proofs.Common.{◌≡◌, ℕ, zero, suc, ◌+◌, ◌<◌, ◌≤◌, nat_le, Bool, true, false, ◌⊎◌, inl, inr, if◌then◌else◌, min, List, [], ◌∷◌, length, take, Option, Some, None, is_some, Result, Ok, Err, slice_get, Contains, IsTrue, refl, sym, ap, ◌∙◌, subst, arith, true≢false}
use Rattle.std.proofs.lemmas.Bool.{leb-true, leb-false}
use Rattle.std.proofs.lemmas.Option.{same_Some}
use Rattle.ak_address.specs.Unique.{UniqueModel}
use Rattle.ak_address.proofs.Elements.{first_or_rest, contains_nothing}
use Rattle.ak_member.specs.declared.effect.Effect.{Effect}
use Rattle.ak_member.specs.declared.effect.Effect.TheVariants.{Rise}
use Rattle.ak_member.specs.declared.status.Status.TheVariants.{WeaklyUp}
use Rattle.ak_membership.specs.Membership as membership
use Rattle.ak_membership.specs.Tick.{has_settled, waited}
use Rattle.ak_node.specs.declared.node.NodeEvent.{NodeEvent}
use Rattle.ak_node.specs.declared.node.State.{State}
use Rattle.ak_node.specs.Node.{me_of, is_member, started, step}
use Rattle.ak_node.proofs.ChangeLemmas.{update_made}
use Rattle.ak_wire.specs.Wire.{updates_of}
use Rattle.ak_settings.specs.Settings.{SettingsModel}
use Rattle.ak_schedule.specs.declared.event.Event.{Event}
use Rattle.ak_schedule.specs.declared.event.Event.TheVariants.{Start, Found, Join, Tick, Deliver, Leave, Offer, Stop}
use Rattle.ak_schedule.specs.declared.event.Event.TheVariants as schedule
use Rattle.ak_wire.specs.declared.action.Action.TheVariants.{Update}
use Rattle.ak_world.specs.World.{WorldState, Done, stepped, happens, after, run}
use Rattle.ak_world.specs.declared.world.Reason.{Reason}
use Rattle.ak_world.proofs.IndexLemmas.{set_at, push_at}
use Rattle.ak_world.proofs.WaitedRuns.{run_settings}
use Rattle.ak_meaning.specs.Counting.{HasEachOnce}
use Rattle.ak_meaning.specs.Causes.{Gives, IsCause, LetsIn}
use Rattle.ak_meaning.specs.Causes.IsCause.{begins, admits, founds, rises, lets_in, leaves, exits, downs_asked, downs_replaced, downs_decided, confirms, removes, observes}
use Rattle.ak_meaning.specs.Standstill.{IsAt, TicksAt, TicksBetween}
use Rattle.ak_meaning.specs.Unsettled.{StoodUnsettled, LetsInAt}
use Rattle.ak_meaning.proofs.CauseSteps.{told_why}
use Rattle.ak_meaning.proofs.MembershipOf.{step_told}
use Rattle.ak_meaning.proofs.CountingLemmas.{once_none, once_more}
use Rattle.ak_meaning.proofs.WeakSteps.{weak_after, step_weak}
use Rattle.ak_meaning.proofs.WhatCame.{IsAnswer, starts_now, steps, nobody, came, take_end, run_next}

module _ (settings : SettingsModel) (events : List Event) where
  -- ---- how long the view of a node has not settled after so many events
  record Waits (time index : ℕ) (n : State) : Type 0 where
    from : ℕ
    earlier : from ≤ time
    each : (t : ℕ) → from ≤ t → t < time → TicksAt settings events index t → (a : State) → IsAt settings events t index a → has_settled a.membership ≡ false
    ticked : List ℕ
    them : (t : ℕ) → Contains ticked t → (from ≤ t) × (t < time) × TicksAt settings events index t
    once : HasEachOnce ticked
    many : n.membership.weak ≤ length ticked

  abbrev AllWait : ℕ → WorldState → Type 0
  AllWait time w = (index : ℕ) (n : State) → slice_get w.nodes index ≡ Some n → Waits time index n

  before_or_now : (t time : ℕ) → t < suc time → (t < time) ⊎ (t ≡ time)
  before_or_now t time lt = by_test (nat_le time t) refl
    where
      by_test : (b : Bool) → nat_le time t ≡ b → (t < time) ⊎ (t ≡ time)
      by_test true is = inr (let le = leb-true time t is in omega arith)
      by_test false is = inl (let less = leb-false time t is in omega arith)

  module _ (time : ℕ) where
    -- a node that did not tick as a member at this time
    waits_on : (index : ℕ) (n l : State) → (TicksAt settings events index time → ⊥) → l.membership.weak ≤ n.membership.weak → Waits time index n → Waits (suc time) index l
    waits_on index n l none weak r = record {
      from = r.from;
      earlier = (let le = r.earlier in omega arith);
      each = λ t least lt tick a at. elim (before_or_now t time lt) [
        | inl before ↦ r.each t least before tick a at
        | inr now ↦ absurd (none (subst (TicksAt settings events index) now tick))
      ];
      ticked = r.ticked;
      them = λ t there. let h = r.them t there in (h.0, (let lt = h.1 in omega arith), h.2);
      once = r.once;
      many = (let le = r.many in omega arith);
    }

    -- a node that ticked as a member and found its view not settled
    waits_ticked : (index : ℕ) (n l : State) → IsAt settings events time index n → has_settled n.membership ≡ false → l.membership.weak ≤ n.membership.weak + 1
        → TicksAt settings events index time → Waits time index n → Waits (suc time) index l
    waits_ticked index n l at unsettled weak tick r = record {
      from = r.from;
      earlier = (let le = r.earlier in omega arith);
      each = λ t least lt tick_t a at_t. elim (before_or_now t time lt) [
        | inl before ↦ r.each t least before tick_t a at_t
        | inr now ↦ ap (λ (x : State). has_settled x.membership) (same_Some a n (sym at_t ∙ ap (λ k. slice_get (run settings (take k events)).nodes index) now ∙ at)) ∙ unsettled
      ];
      ticked = time ∷ r.ticked;
      them = λ t there. elim (first_or_rest time t r.ticked there) [
        | inl same ↦ subst (λ k. (r.from ≤ k) × (k < suc time) × TicksAt settings events index k) (sym same) (r.earlier, omega arith, tick)
        | inr later ↦ let h = r.them t later in (h.0, (let lt = h.1 in omega arith), h.2)
      ];
      once = once_more time r.ticked (λ there. let h = r.them time there in let lt = h.1 in absurd (omega arith)) r.once;
      many = (let le = r.many in omega arith);
    }

    -- a node that ticked as a member and found its view settled, or has just started
    waits_anew : (index : ℕ) (l : State) → l.membership.weak ≡ 0 → Waits (suc time) index l
    waits_anew index l none = record {
      from = suc time;
      earlier = omega arith;
      each = λ t least lt tick a at. absurd (omega arith);
      ticked = [];
      them = λ t there. absurd (contains_nothing t there);
      once = once_none;
      many = omega arith;
    }

    module _ (e : Event) (there : slice_get events time ≡ Some e) where
      abbrev w : WorldState
      w = run settings (take time events)

      -- a tick at this time is this event, and acted so
      same_event : (index : ℕ) (tick : TicksAt settings events index time) → e ≡ Tick tick.who tick.word
      same_event index tick = same_Some e (Tick tick.who tick.word) (sym there ∙ tick.did.at)

      module _ (index : ℕ) (n : State) (ev : NodeEvent) (founded : Bool) (at : slice_get w.nodes index ≡ Some n) (runs : IsTrue n.runs) (gives : Gives w e (me_of n) ev)
          (did : happens settings e w ≡ Ok (stepped index (step ev n) (record w { founded = founded }))) where
        -- no tick of a member: the count is as it was
        other : (weak_after ev n.membership ≡ n.membership.weak) → (TicksAt settings events index time → ⊥) → Waits time index n → Waits (suc time) index (step ev n).0
        other same none r = waits_on index n (step ev n).0 none (let is = step_weak ev n runs ∙ same in omega arith) r

        no_tick : (x : Event) → e ≡ x → ((who : UniqueModel) (word : ℕ) → x ≡ Tick who word → ⊥) → TicksAt settings events index time → ⊥
        no_tick x is never tick = never tick.who tick.word (sym is ∙ same_event index tick)

        step_waits : (x : Event) → e ≡ x → Gives w x (me_of n) ev → Waits time index n → Waits (suc time) index (step ev n).0
        step_waits (Start u) is none r = absurd none
        step_waits (Found u) is given r = other (ap (λ y. weak_after y n.membership) given.1) (no_tick (Found u) is (λ who word same. absurd cc)) r
        step_waits (Join u target) is given r = other (ap (λ y. weak_after y n.membership) given.1) (no_tick (Join u target) is (λ who word same. absurd cc)) r
        step_waits (Deliver number) is given r = other (ap (λ y. weak_after y n.membership) given.2) (no_tick (Deliver number) is (λ who word same. absurd cc)) r
        step_waits (schedule.Leave u who) is given r = other (ap (λ y. weak_after y n.membership) given.1) (no_tick (schedule.Leave u who) is (λ who word same. absurd cc)) r
        step_waits (schedule.Down u who) is given r = other (ap (λ y. weak_after y n.membership) given.1) (no_tick (schedule.Down u who) is (λ who word same. absurd cc)) r
        step_waits (Offer u entity payload) is given r = other (ap (λ y. weak_after y n.membership) given.1) (no_tick (Offer u entity payload) is (λ who word same. absurd cc)) r
        step_waits (Stop u) is given r = other (ap (λ y. weak_after y n.membership) given.1) (no_tick (Stop u) is (λ who word same. absurd cc)) r
        step_waits (Tick u word) is given r = by_member (membership.is_member n.membership) refl
          where
            weak_is : (b : Bool) → membership.is_member n.membership ≡ b → (step ev n).0.membership.weak ≡ (if b then waited n.membership else n.membership.weak)
            weak_is b member = step_weak ev n runs ∙ ap (λ y. weak_after y n.membership) given.1 ∙ ap (λ c. if c then waited n.membership else n.membership.weak) member

            ticks_now : membership.is_member n.membership ≡ true → TicksAt settings events index time
            ticks_now member = record { who = u; word = word; done = stepped index (step ev n) (record w { founded = founded }); node = n; did = record { at = there ∙ ap Some is; happened = ap (λ x. happens settings x w) (sym is) ∙ did }; acted = refl; at = at; member = member }

            member_then : TicksAt settings events index time → membership.is_member n.membership ≡ true
            member_then tick = ap (λ (x : State). membership.is_member x.membership) (same_Some n tick.node (sym at ∙ tick.at)) ∙ tick.member

            by_settled : (b : Bool) → membership.is_member n.membership ≡ true → has_settled n.membership ≡ b → Waits (suc time) index (step ev n).0
            by_settled true member settled = waits_anew index (step ev n).0 (weak_is true member ∙ ap (λ c. if c then 0 else min (n.membership.weak + 1) n.membership.settings.weakly) settled)
            by_settled false member settled =
                let weak : (step ev n).0.membership.weak ≡ min (n.membership.weak + 1) n.membership.settings.weakly = weak_is true member ∙ ap (λ c. if c then 0 else min (n.membership.weak + 1) n.membership.settings.weakly) settled in
                waits_ticked index n (step ev n).0 at settled (omega arith) (ticks_now member) r

            by_member : (b : Bool) → membership.is_member n.membership ≡ b → Waits (suc time) index (step ev n).0
            by_member true member = by_settled (has_settled n.membership) member refl
            by_member false member = waits_on index n (step ev n).0 (λ tick. true≢false (sym (member_then tick) ∙ member)) (let same = weak_is false member in omega arith) r

      -- a node that did not act
      stays : (d : Done) → happens settings e w ≡ Ok d → (index : ℕ) → (d.node ≡ Some index → ⊥) → TicksAt settings events index time → ⊥
      stays d did index elsewhere tick =
          let ok : ◌≡◌ {A = Result Done Reason} (Ok d) (Ok tick.done) = sym did ∙ ap (λ x. happens settings x w) (same_event index tick) ∙ tick.did.happened in
          elsewhere (ap (λ (x : Done). x.node) (result_is d tick.done ok) ∙ tick.acted)
        where
          result_is : (one other : Done) → ◌≡◌ {A = Result Done Reason} (Ok one) (Ok other) → one ≡ other
          result_is one other is = cc

      refused_stays : (why : Reason) → happens settings e w ≡ Err why → (index : ℕ) → TicksAt settings events index time → ⊥
      refused_stays why did index tick =
          let never : ◌≡◌ {A = Result Done Reason} (Err why) (Ok tick.done) = sym did ∙ ap (λ x. happens settings x w) (same_event index tick) ∙ tick.did.happened in
          absurd cc

      answered : AllWait time w → (a : Result Done Reason) → happens settings e w ≡ a → IsAnswer settings w e a → AllWait (suc time) (after w a)
      answered all (Err why) did is = λ index n at. waits_on index n n (refused_stays why did index) (omega arith) (all index n at)
      answered all (Ok result) did is = elim is as (λ d h. happens settings e w ≡ Ok d → AllWait (suc time) d.world) [
        | starts_now u started_is ↦ λ did index n at.
            push_at (λ j m. Waits (suc time) j m) w.nodes (started u settings)
            (λ j m at. waits_on j m m (λ tick. let same : ◌≡◌ {A = Event} (Start u) (Tick tick.who tick.word) = sym started_is ∙ same_event j tick in absurd cc) (omega arith) (all j m at))
            (waits_anew (length w.nodes) (started u settings) refl) index n at
        | steps ev i n founded at runs gives ↦ λ did j m there_then.
            set_at (λ k l. Waits (suc time) k l) w.nodes i (step ev n).0
            (λ k l at_l elsewhere. waits_on k l l (stays _ did k (λ same. elsewhere (sym (same_Some i k same)))) (omega arith) (all k l at_l))
            (step_waits i n ev founded at runs gives did e refl gives (all i n at)) j m there_then
        | nobody ↦ λ did j m at. waits_on j m m (stays _ did j (λ same. absurd (true≢false (sym (ap is_some same))))) (omega arith) (all j m at)
      ] did

  waits : (time : ℕ) → AllWait time (run settings (take time events))
  waits zero = λ index n at. absurd cc
  waits (suc time) = by_event (slice_get events time) refl (waits time)
    where
      by_event : (o : Option Event) → slice_get events time ≡ o → AllWait time (run settings (take time events)) → AllWait (suc time) (run settings (take (suc time) events))
      by_event (Some e) there all = subst (AllWait (suc time)) (sym (run_next settings events time e there)) (answered time e there all (happens settings e (run settings (take time events))) refl (came settings (run settings (take time events)) e))
      by_event None there all =
          let same : run settings (take (suc time) events) ≡ run settings (take time events) = ap (run settings) (take_end time events there) in
          λ index n at. waits_on time index n n (λ tick. absurd (true≢false (sym (ap is_some (sym there ∙ tick.did.at))))) (omega arith) (all index n (ap (λ (x : WorldState). slice_get x.nodes index) (sym same) ∙ at))

-- ---- letting in
-- whoever lets somebody in at a tick waited for long enough
let_in_it : (n : State) (ev : NodeEvent) (other : UniqueModel) (x : Effect) → x ≡ Rise other WeaklyUp 0 → IsCause n ev x → LetsIn n × IsTrue (is_member n)
let_in_it n ev other x effect_is why = elim why as (λ y h. y ≡ Rise other WeaklyUp 0 → LetsIn n × IsTrue (is_member n)) [
  | begins found_it ↦ λ e. absurd cc
  | admits who asks member unknown ↦ λ e. absurd cc
  | founds who number ticks founding joins ↦ λ e. absurd cc
  | rises who number ticks leads joins ↦ λ e. absurd cc
  | lets_in who ticks letting joins reached ↦ λ e. (letting, ticks.1)
  | leaves who asks up ↦ λ e. absurd cc
  | exits who ticks leads leaving ↦ λ e. absurd cc
  | downs_asked who asks member ↦ λ e. absurd cc
  | downs_replaced who joiner asks same unknown member ↦ λ e. absurd cc
  | downs_decided who ticks against ↦ λ e. absurd cc
  | confirms who ticks leads out said ↦ λ e. absurd cc
  | removes who ticks leads down lost unsaid ↦ λ e. absurd cc
  | observes ticks ↦ λ e. absurd cc
] effect_is

pub let_in_waited : (settings : SettingsModel) (events : List Event) (index time : ℕ) → LetsInAt settings events index time → StoodUnsettled settings events index time
let_in_waited settings events index time d = by_answer (happens settings (Tick d.who d.word) w) refl (came settings w (Tick d.who d.word)) d.did.happened
  where
    w : WorldState
    w = run settings (take time events)

    at_node : (n : State) → IsAt settings events time index n → IsTrue n.runs → (ev : NodeEvent) → (founded : Bool) → d.done ≡ stepped index (step ev n) (record w { founded = founded }) → StoodUnsettled settings events index time
    at_node n at runs ev founded done_is =
        let told_it : Contains (updates_of (step ev n).1) d.effects = update_made (step ev n).1 d.number d.effects (subst (λ (x : Done). Contains x.actions (Update d.number d.effects)) done_is d.told) in
        let why = told_why n ev d.effects (Rise d.other WeaklyUp 0) (step_told ev n runs d.effects told_it) d.let_in in
        let letting = let_in_it n ev d.other (Rise d.other WeaklyUp 0) refl why in
        let r = waits settings events time index n at in
        let same_settings : n.membership.settings ≡ settings = run_settings settings (take time events) index n at in
        let asked : n.membership.settings.weakly ≡ settings.weakly = ap (λ (s : SettingsModel). s.weakly) same_settings in
        let long : min (n.membership.weak + 1) n.membership.settings.weakly ≡ n.membership.settings.weakly = ap (λ c. if c then 0 else min (n.membership.weak + 1) n.membership.settings.weakly) (sym letting.0.unsettled) ∙ letting.0.waited in
        let most = r.many in
        record {
          from = r.from;
          earlier = r.earlier;
          each = λ between there a at_a. elim (now_or_less between there.1) [
            | inl before ↦ r.each between there.0 before there.2 a at_a
            | inr now ↦ ap (λ (x : State). has_settled x.membership) (same_Some a n (sym at_a ∙ ap (λ k. slice_get (run settings (take k events)).nodes index) now ∙ at)) ∙ letting.0.unsettled
          ];
          ticks = record {
            some = time ∷ r.ticked;
            them = λ t there. elim (first_or_rest time t r.ticked there) [
              | inl same ↦ subst (TicksBetween settings events index r.from time) (sym same)
                  (r.earlier, omega arith, record { who = d.who; word = d.word; done = d.done; node = n; did = d.did; acted = d.acted; at = at; member = letting.1 })
              | inr later ↦ let h = r.them t later in (h.0, (let lt = h.1 in omega arith), h.2)
            ];
            once = once_more time r.ticked (λ there. let h = r.them time there in let lt = h.1 in absurd (omega arith)) r.once;
            many = omega arith;
          };
        }
      where
        now_or_less : (t : ℕ) → t ≤ time → (t < time) ⊎ (t ≡ time)
        now_or_less t le = before_or_now settings events t time (omega arith)

    is_index : (i j : ℕ) → Some i ≡ Some j → i ≡ j
    is_index i j is = same_Some i j is

    result_is : (result : Done) → ◌≡◌ {A = Result Done Reason} (Ok result) (Ok d.done) → result ≡ d.done
    result_is result is = cc

    by_answer : (a : Result Done Reason) → happens settings (Tick d.who d.word) w ≡ a → IsAnswer settings w (Tick d.who d.word) a → a ≡ Ok d.done → StoodUnsettled settings events index time
    by_answer (Err why) did is ok = absurd cc
    by_answer (Ok result) did is ok = elim is as (λ x h. x ≡ d.done → StoodUnsettled settings events index time) [
      | starts_now u started_is ↦ λ same. absurd cc
      | steps ev i n founded at runs gives ↦ λ same.
          let here : i ≡ index = is_index i index (ap (λ (x : Done). x.node) same ∙ d.acted) in
          at_node n (subst (λ j. slice_get w.nodes j ≡ Some n) here at) runs ev founded (sym same ∙ ap (λ j. stepped j (step ev n) (record w { founded = founded })) here)
      | nobody ↦ λ same. absurd (true≢false (sym (ap is_some (ap (λ (x : Done). x.node) same ∙ d.acted))))
    ] (result_is result ok)
