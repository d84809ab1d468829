-- Whoever downs somebody at a tick has stood still for as long as the settings ask.
use Rattle.std.proofs.Common.{◌≡◌, ℕ, zero, suc, ◌+◌, ◌<◌, ◌≤◌, ◌==◌, nat_le, Bool, true, false, ◌&&◌, ◌⊎◌, inl, inr, if◌then◌else◌, List, [], ◌∷◌, length, take, Option, Some, None, is_some, Result, Ok, Err, slice_get, Contains, IsTrue, refl, sym, ap, ◌∙◌, subst, arith, true≢false}
use Rattle.std.proofs.lemmas.Bool.{eqb-true, leb-true, leb-false}
use Rattle.std.proofs.lemmas.Option.{same_Some}
use Rattle.std.specs.Cmp.{first_so}
use Rattle.ak_address.specs.Unique.{UniqueModel}
use Rattle.ak_address.proofs.Elements.{first_or_rest, contains_nothing}
use Rattle.ak_member.specs.declared.effect.Effect.{Effect}
use Rattle.ak_member.specs.declared.effect.Effect.TheVariants.{Rise}
use Rattle.ak_member.specs.declared.status.Status.TheVariants.{Down}
use Rattle.ak_membership.specs.Membership as membership
use Rattle.ak_sight.specs.Sight.{sight}
use Rattle.ak_membership.specs.Tick.{decides, stood, some_counts, has_lost}
use Rattle.ak_node.specs.declared.node.NodeEvent.{NodeEvent}
use Rattle.ak_node.specs.declared.node.NodeEvent.TheVariants as event
use Rattle.ak_node.specs.declared.node.State.{State}
use Rattle.ak_node.specs.Node.{known, me_of, is_member, started, step}
use Rattle.ak_node.proofs.ChangeLemmas.{update_made}
use Rattle.ak_wire.specs.Wire.{updates_of}
use Rattle.ak_settings.specs.Settings.{SettingsModel}
use Rattle.ak_schedule.specs.declared.event.Event.{Event}
use Rattle.ak_schedule.specs.declared.event.Event.TheVariants.{Start, Found, Join, Tick, Deliver, Leave, Offer, Stop}
use Rattle.ak_schedule.specs.declared.event.Event.TheVariants as schedule
use Rattle.ak_wire.specs.declared.action.Action.TheVariants.{Update}
use Rattle.ak_world.specs.World.{WorldState, Done, stepped, happens, after, run}
use Rattle.ak_world.specs.declared.world.Reason.{Reason}
use Rattle.ak_world.proofs.IndexLemmas.{set_at, set_here, push_at}
use Rattle.ak_world.proofs.WaitedRuns.{run_settings}
use Rattle.ak_meaning.specs.Counting.{HasEachOnce}
use Rattle.ak_meaning.specs.Causes.{Gives, IsCause}
use Rattle.ak_meaning.specs.Causes.IsCause.{begins, admits, founds, rises, lets_in, leaves, exits, downs_asked, downs_replaced, downs_decided, confirms, removes, observes}
use Rattle.ak_meaning.specs.Standstill.{IsAt, TicksAt, TicksBetween, StoodStill, DownsAt}
use Rattle.ak_meaning.proofs.CauseSteps.{told_why}
use Rattle.ak_meaning.proofs.MembershipOf.{step_told}
use Rattle.ak_meaning.proofs.CountingLemmas.{once_none, once_more}
use Rattle.ak_meaning.proofs.SightLemmas.{shown_alike}
use Rattle.ak_meaning.proofs.StandstillSteps.{member_ticks, step_still}
use Rattle.ak_meaning.proofs.WhatCame.{IsAnswer, starts_now, steps, nobody, came, take_end, run_next}

module _ (settings : SettingsModel) (events : List Event) where
  -- ---- how long a node has stood still after so many events
  record Rests (time index : ℕ) (n : State) : Type 0 where
    from : ℕ
    earlier : from ≤ time
    same : (between : ℕ) (a : State) → from ≤ between → between ≤ time → IsAt settings events between index a → (who : UniqueModel) → sight (known a).view who ≡ sight (known n).view who
    ticked : List ℕ
    them : (t : ℕ) → Contains ticked t → (from ≤ t) × (t < time) × TicksAt settings events index t
    once : HasEachOnce ticked
    many : n.membership.stable ≤ length ticked

  abbrev AllRest : ℕ → WorldState → Type 0
  AllRest time w = (index : ℕ) (n : State) → slice_get w.nodes index ≡ Some n → Rests time index n

  now_or_before : (between time : ℕ) → between ≤ suc time → (between ≤ time) ⊎ (between ≡ suc time)
  now_or_before between time le = by_test (nat_le between time) refl
    where
      by_test : (b : Bool) → nat_le between time ≡ b → (between ≤ time) ⊎ (between ≡ suc time)
      by_test true is = inl (leb-true between time is)
      by_test false is = inr (let lt = leb-false between time is in omega arith)

  -- what is at a time is one state
  one_at : (time index : ℕ) (a n : State) → IsAt settings events time index a → IsAt settings events time index n → a ≡ n
  one_at time index a n at other = same_Some a n (sym at ∙ other)

  module _ (time : ℕ) where
    -- a node that is just as it was, or shows the same
    rests_on : (index : ℕ) (n l : State) → IsAt settings events (suc time) index l → ((who : UniqueModel) → sight (known n).view who ≡ sight (known l).view who) → l.membership.stable ≤ n.membership.stable → Rests time index n → Rests (suc time) index l
    rests_on index n l at shown stable r = record {
      from = r.from;
      earlier = (let le = r.earlier in omega arith);
      same = λ between a least most at_between who. elim (now_or_before between time most) [
        | inl before ↦ r.same between a least before at_between who ∙ shown who
        | inr now ↦ ap (λ (x : State). sight (known x).view who) (one_at (suc time) index a l (subst (λ t. IsAt settings events t index a) now at_between) at)
      ];
      ticked = r.ticked;
      them = λ t there. let h = r.them t there in (h.0, (let lt = h.1 in omega arith), h.2);
      once = r.once;
      many = (let le = r.many in omega arith);
    }

    -- a node that ticked as a member, and shows the same
    rests_ticked : (index : ℕ) (n l : State) → IsAt settings events (suc time) index l → ((who : UniqueModel) → sight (known n).view who ≡ sight (known l).view who) → l.membership.stable ≤ n.membership.stable + 1
        → TicksAt settings events index time → Rests time index n → Rests (suc time) index l
    rests_ticked index n l at shown stable tick r = record {
      from = r.from;
      earlier = (let le = r.earlier in omega arith);
      same = λ between a least most at_between who. elim (now_or_before between time most) [
        | inl before ↦ r.same between a least before at_between who ∙ shown who
        | inr now ↦ ap (λ (x : State). sight (known x).view who) (one_at (suc time) index a l (subst (λ t. IsAt settings events t index a) now at_between) at)
      ];
      ticked = time ∷ r.ticked;
      them = λ t there. elim (first_or_rest time t r.ticked there) [
        | inl same ↦ subst (λ k. (r.from ≤ k) × (k < suc time) × TicksAt settings events index k) (sym same) (r.earlier, omega arith, tick)
        | inr later ↦ let h = r.them t later in (h.0, (let lt = h.1 in omega arith), h.2)
      ];
      once = once_more time r.ticked (λ there. let h = r.them time there in let lt = h.1 in absurd (omega arith)) r.once;
      many = (let le = r.many in omega arith);
    }

    -- a node that moved, or has just started
    rests_anew : (index : ℕ) (l : State) → IsAt settings events (suc time) index l → l.membership.stable ≡ 0 → Rests (suc time) index l
    rests_anew index l at none = record {
      from = suc time;
      earlier = omega arith;
      same = λ between a least most at_between who.
          let now : between ≡ suc time = omega arith in
          ap (λ (x : State). sight (known x).view who) (one_at (suc time) index a l (subst (λ t. IsAt settings events t index a) now at_between) at);
      ticked = [];
      them = λ t there. absurd (contains_nothing t there);
      once = once_none;
      many = omega arith;
    }

    module _ (e : Event) (there : slice_get events time ≡ Some e) where
      abbrev w : WorldState
      w = run settings (take time events)

      module _ (index : ℕ) (n : State) (ev : NodeEvent) (founded : Bool) (at : slice_get w.nodes index ≡ Some n) (runs : IsTrue n.runs) (gives : Gives w e (me_of n) ev)
          (did : happens settings e w ≡ Ok (stepped index (step ev n) (record w { founded = founded }))) where
        at_then : IsAt settings events (suc time) index (step ev n).0
        at_then = ap (λ (x : WorldState). slice_get x.nodes index) (run_next settings events time e there ∙ ap (after w) did) ∙ set_here w.nodes index n (step ev n).0 at

        -- where the event counts as a tick of a member, it was one
        tick_of : (x : Event) → Gives w x (me_of n) ev → slice_get events time ≡ Some x → happens settings x w ≡ Ok (stepped index (step ev n) (record w { founded = founded })) → (member_ticks ev n.membership ≡ 0) ⊎ ((member_ticks ev n.membership ≡ 1) × TicksAt settings events index time)
        tick_of (Start u) none there did = absurd none
        tick_of (Found u) given there did = inl (ap (λ y. member_ticks y n.membership) given.1)
        tick_of (Join u target) given there did = inl (ap (λ y. member_ticks y n.membership) given.1)
        tick_of (Deliver number) given there did = inl (ap (λ y. member_ticks y n.membership) given.2)
        tick_of (Tick u word) given there did = by_member (membership.is_member n.membership) refl
          where
            counted : (b : Bool) → membership.is_member n.membership ≡ b → member_ticks ev n.membership ≡ (if b then 1 else 0)
            counted b is = ap (λ y. member_ticks y n.membership) given.1 ∙ ap (λ c. if c then 1 else 0) is

            by_member : (b : Bool) → membership.is_member n.membership ≡ b → (member_ticks ev n.membership ≡ 0) ⊎ ((member_ticks ev n.membership ≡ 1) × TicksAt settings events index time)
            by_member false is = inl (counted false is)
            by_member true is = inr (
              counted true is,
              record { who = u; word = word; done = stepped index (step ev n) (record w { founded = founded }); node = n; did = record { at = there; happened = did }; acted = refl; at = at; member = is },
            )
        tick_of (schedule.Leave u who) given there did = inl (ap (λ y. member_ticks y n.membership) given.1)
        tick_of (schedule.Down u who) given there did = inl (ap (λ y. member_ticks y n.membership) given.1)
        tick_of (Offer u entity payload) given there did = inl (ap (λ y. member_ticks y n.membership) given.1)
        tick_of (Stop u) given there did = inl (ap (λ y. member_ticks y n.membership) given.1)

        step_rests : Rests time index n → Rests (suc time) index (step ev n).0
        step_rests r = elim (step_still ev n runs) [
          | inl none ↦ rests_anew index (step ev n).0 at_then none
          | inr on ↦ elim (tick_of e gives there did) [
            | inl none ↦ rests_on index n (step ev n).0 at_then on.0 (let most = on.1 in omega arith) r
            | inr one ↦ rests_ticked index n (step ev n).0 at_then on.0 (let most = on.1 in let is = one.0 in omega arith) one.1 r
          ]
        ]

      answered : AllRest time w → (a : Result Done Reason) → happens settings e w ≡ a → IsAnswer settings w e a → AllRest (suc time) (after w a)
      answered all (Err why) did is = λ index n at. rests_on index n n (ap (λ (x : WorldState). slice_get x.nodes index) (run_next settings events time e there ∙ ap (after w) did) ∙ at) (λ who. refl) (omega arith) (all index n at)
      answered all (Ok result) did is = elim is as (λ d h. happens settings e w ≡ Ok d → AllRest (suc time) d.world) [
        | starts_now u started_is ↦ λ did.
            let then_at : (d : Done) → happens settings e w ≡ Ok d → run settings (take (suc time) events) ≡ d.world = λ d did. run_next settings events time e there ∙ ap (after w) did in
            λ index n at.
            push_at (λ j m. IsAt settings events (suc time) j m → Rests (suc time) j m) w.nodes (started u settings)
            (λ j m at now. rests_on j m m now (λ who. refl) (omega arith) (all j m at))
            (λ now. rests_anew (length w.nodes) (started u settings) now refl) index n at
            (ap (λ (x : WorldState). slice_get x.nodes index) (then_at _ did) ∙ at)
        | steps ev i n founded at runs gives ↦ λ did j m there_then.
            set_at (λ k l. IsAt settings events (suc time) k l → Rests (suc time) k l) w.nodes i (step ev n).0
            (λ k l at_l elsewhere now. rests_on k l l now (λ who. refl) (omega arith) (all k l at_l))
            (λ now. step_rests i n ev founded at runs gives did (all i n at)) j m there_then
            (ap (λ (x : WorldState). slice_get x.nodes j) (run_next settings events time e there ∙ ap (after w) did) ∙ there_then)
        | nobody ↦ λ did j m at. rests_on j m m (ap (λ (x : WorldState). slice_get x.nodes j) (run_next settings events time e there ∙ ap (after w) did) ∙ at) (λ who. refl) (omega arith) (all j m at)
      ] did

  rests : (time : ℕ) → AllRest time (run settings (take time events))
  rests zero = λ index n at. absurd cc
  rests (suc time) = by_event (slice_get events time) refl (rests time)
    where
      by_event : (o : Option Event) → slice_get events time ≡ o → AllRest time (run settings (take time events)) → AllRest (suc time) (run settings (take (suc time) events))
      by_event (Some e) there all = subst (AllRest (suc time)) (sym (run_next settings events time e there)) (answered time e there all (happens settings e (run settings (take time events))) refl (came settings (run settings (take time events)) e))
      by_event None there all =
          let same : run settings (take (suc time) events) ≡ run settings (take time events) = ap (run settings) (take_end time events there) in
          λ index n at. rests_on time index n n at (λ who. refl) (omega arith) (all index n (ap (λ (x : WorldState). slice_get x.nodes index) (sym same) ∙ at))

-- ---- a decision
-- whoever downs at a tick decides
decided_it : (n : State) (ev : NodeEvent) (word : ℕ) → ev ≡ event.Tick word → (other : UniqueModel) (x : Effect) → x ≡ Rise other Down 0 → IsCause n ev x → IsTrue (decides n.membership) × IsTrue (is_member n)
decided_it n ev word is other x effect_is why = elim why as (λ y h. y ≡ Rise other Down 0 → IsTrue (decides n.membership) × IsTrue (is_member n)) [
  | begins found_it ↦ λ e. absurd cc
  | admits who asks member unknown ↦ λ e. absurd cc
  | founds who number ticks founding joins ↦ λ e. absurd cc
  | rises who number ticks leads joins ↦ λ e. absurd cc
  | lets_in who ticks letting joins reached ↦ λ e. absurd cc
  | leaves who asks up ↦ λ e. absurd cc
  | exits who ticks leads leaving ↦ λ e. absurd cc
  | downs_asked who asks member ↦ λ e. elim asks [ inl now ↦ absurd cc | inr packet ↦ let q = packet.1 in absurd cc ]
  | downs_replaced who joiner asks same unknown member ↦ λ e. let q = asks.1 in absurd cc
  | downs_decided who ticks against ↦ λ e. (against.decides, ticks.1)
  | confirms who ticks leads out said ↦ λ e. absurd cc
  | removes who ticks leads down lost unsaid ↦ λ e. absurd cc
  | observes ticks ↦ λ e. absurd cc
] effect_is

-- so the view has stood still before for one tick less than the settings ask
stood_before : (n : State) → IsTrue (decides n.membership) → n.membership.settings.stable ≤ n.membership.stable + 1
stood_before n is =
    let m = n.membership in
    let full : stood m ≡ m.settings.stable = eqb-true (stood m) m.settings.stable (first_so (stood m == m.settings.stable) (some_counts m.gossip.view.standings) (first_so (stood m == m.settings.stable && some_counts m.gossip.view.standings) (has_lost m) is)) in
    omega arith

pub decision_stood : (settings : SettingsModel) (events : List Event) (index time : ℕ) → DownsAt settings events index time → StoodStill settings events index time
decision_stood settings events index time d = by_answer (happens settings (Tick d.who d.word) w) refl (came settings w (Tick d.who d.word)) d.did.happened
  where
    w : WorldState
    w = run settings (take time events)

    at_node : (n : State) → IsAt settings events time index n → IsTrue n.runs → (ev : NodeEvent) → ev ≡ event.Tick d.word → (founded : Bool) → d.done ≡ stepped index (step ev n) (record w { founded = founded }) → StoodStill settings events index time
    at_node n at runs ev is founded done_is =
        let told_it : Contains (updates_of (step ev n).1) d.effects = update_made (step ev n).1 d.number d.effects (subst (λ (x : Done). Contains x.actions (Update d.number d.effects)) done_is d.told) in
        let why = told_why n ev d.effects (Rise d.other Down 0) (step_told ev n runs d.effects told_it) d.downed in
        let decided = decided_it n ev d.word is d.other (Rise d.other Down 0) refl why in
        let r = rests settings events time index n at in
        let least = stood_before n decided.0 in
        let same_settings : n.membership.settings ≡ settings = run_settings settings (take time events) index n at in
        let asked : n.membership.settings.stable ≡ settings.stable = ap (λ (s : SettingsModel). s.stable) same_settings in
        let most = r.many in
        record {
          from = r.from;
          earlier = r.earlier;
          same = λ between a b first last at_a at_b who.
              shown_alike (known a).view (known b).view who (r.same between a first last at_a who ∙ ap (λ (x : State). sight (known x).view who) (same_Some n b (sym at ∙ at_b)));
          ticks = record {
            some = time ∷ r.ticked;
            them = λ t there. elim (first_or_rest time t r.ticked there) [
              | inl same ↦ subst (TicksBetween settings events index r.from time) (sym same)
                  (r.earlier, omega arith, record { who = d.who; word = d.word; done = d.done; node = n; did = d.did; acted = d.acted; at = at; member = decided.1 })
              | inr later ↦ let h = r.them t later in (h.0, (let lt = h.1 in omega arith), h.2)
            ];
            once = once_more time r.ticked (λ there. let h = r.them time there in let lt = h.1 in absurd (omega arith)) r.once;
            many = omega arith;
          };
        }

    is_index : (i j : ℕ) → Some i ≡ Some j → i ≡ j
    is_index i j is = same_Some i j is

    result_is : (result : Done) → ◌≡◌ {A = Result Done Reason} (Ok result) (Ok d.done) → result ≡ d.done
    result_is result is = cc

    by_answer : (a : Result Done Reason) → happens settings (Tick d.who d.word) w ≡ a → IsAnswer settings w (Tick d.who d.word) a → a ≡ Ok d.done → StoodStill settings events index time
    by_answer (Err why) did is ok = absurd cc
    by_answer (Ok result) did is ok = elim is as (λ x h. x ≡ d.done → StoodStill settings events index time) [
      | starts_now u started_is ↦ λ same. absurd cc
      | steps ev i n founded at runs gives ↦ λ same.
          let here : i ≡ index = is_index i index (ap (λ (x : Done). x.node) same ∙ d.acted) in
          at_node n (subst (λ j. slice_get w.nodes j ≡ Some n) here at) runs ev gives.1 founded (sym same ∙ ap (λ j. stepped j (step ev n) (record w { founded = founded })) here)
      | nobody ↦ λ same. absurd (true≢false (sym (ap is_some (ap (λ (x : Done). x.node) same ∙ d.acted))))
    ] (result_is result ok)
