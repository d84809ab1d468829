-- Where a step notes a settled view, it tells so; and a node that runs has noted what is settled in its view.
use Rattle.std.proofs.Common.{◌≡◌, ◌+◌, Bool, true, false, not, ◌&&◌, ◌||◌, ◌⊎◌, inl, inr, if◌then◌else◌, [], ◌∷◌, ◌++◌, is_some, Contains, IsTrue, refl, sym, ap, subst, true≢false}
use Rattle.ak_address.proofs.Elements.{contains_first, contains_left, contains_right}
use Rattle.ak_clock.specs.Version.{Counts, relation_by, covers, Covers}
use Rattle.ak_clock.proofs.VersionLaws.{covers_equal, covers_from_test}
use Rattle.ak_settled.specs.Settled.{version_of, after_note}
use Rattle.ak_settled.specs.SettledView.{SettledModel}
use Rattle.ak_membership.specs.Tick.{has_settled}
use Rattle.ak_membership.specs.Closing.{is_same, is_other, is_viewed, stops, is_noted, notes}
use Rattle.ak_membership.specs.Knowledge.{WaitsOn}
use Rattle.ak_wire.specs.declared.action.Action.TheVariants as action
use Rattle.ak_node.specs.declared.node.State.{State}
use Rattle.ak_node.specs.declared.node.NodeEvent.{NodeEvent}
use Rattle.ak_node.specs.Node.{Outcome, known, me_of, settled_of, margin_of, and_then, rule, if_so, closes, activates, concludes, is_dead, running_step, step}
use Rattle.ak_node.specs.Change.{NotesNow}
use Rattle.ak_node.proofs.NodeLemmas.{closes_notes, rule_settled}
use Rattle.ak_node.proofs.StepChanges.{step_is}

-- ---- what a step notes it tells
abbrev pub TellsNote : State → Outcome → Type 0
TellsNote n o = WaitsOn (margin_of n) n.membership.settled o.0.membership.settled ⊎ (NotesNow o.0 × Contains o.1 action.Settled)

closes_tell : (n : State) → ((closes n).0.membership.settled ≡ n.membership.settled) ⊎ (NotesNow (closes n).0 × Contains (closes n).1 action.Settled)
closes_tell n = by_due (notes (not n.runs) n.membership) refl (closes_notes n)
  where
    told : (b : Bool) → b ≡ true → Contains (if_so b action.Settled) action.Settled
    told true is = contains_first action.Settled []
    told false is = absurd (true≢false (sym is))

    by_due : (b : Bool) → notes (not n.runs) n.membership ≡ b → ((closes n).0.membership.settled ≡ n.membership.settled) ⊎ NotesNow (closes n).0
        → ((closes n).0.membership.settled ≡ n.membership.settled) ⊎ (NotesNow (closes n).0 × Contains (closes n).1 action.Settled)
    by_due b is (inl same) = inl same
    by_due false is (inr now) = inl (ap (λ b. if b then after_note (known n).version (known n).view.standings n.membership.settled else n.membership.settled) is)
    by_due true is (inr now) = inr (
      now,
      contains_right (if_so (is_viewed n.membership) action.View ++ if_so (stops (not n.runs) n.membership) action.Stopped) (if_so (notes (not n.runs) n.membership) action.Settled) action.Settled (told (notes (not n.runs) n.membership) is),
    )

running_tells : (e : NodeEvent) (n : State) → TellsNote n (running_step e n)
running_tells e n = by_dead (is_dead (me_of n) e)
  where
    m : State
    m = (rule e n).0

    by_closing : ((closes m).0.membership.settled ≡ m.membership.settled) ⊎ (NotesNow (closes m).0 × Contains (closes m).1 action.Settled) → TellsNote n (and_then concludes (rule e n))
    by_closing (inl same) = inl (subst (WaitsOn (margin_of n) n.membership.settled) (sym same) (rule_settled n e))
    by_closing (inr (now, told)) = inr (
      record { version = now.version; standings = now.standings; settled = now.settled; stays = now.stays; runs = now.runs },
      contains_right (rule e n).1 (concludes m).1 action.Settled (contains_left (closes m).1 (activates (closes m).0).1 action.Settled told),
    )

    by_dead : (b : Bool) → TellsNote n (if b then (n, action.Dead ∷ []) else and_then concludes (rule e n))
    by_dead true = inl (inl refl)
    by_dead false = by_closing (closes_tell m)

pub step_tells_note : (e : NodeEvent) (n : State) → IsTrue n.runs → TellsNote n (step e n)
step_tells_note e n runs = subst (TellsNote n) (sym (step_is e n runs)) (running_tells e (record n { steps = n.steps + 1 }))

-- ---- a node that runs, and whose view is settled, has noted the version that it knows
abbrev pub HasNotedNow : State → Type 0
HasNotedNow n = IsTrue n.runs → IsTrue (has_settled n.membership) → Covers (version_of (settled_of n)) (known n).version

both_cover : (a b : Bool) → is_same (relation_by a b) ≡ true → a ≡ true
both_cover true b is = refl
both_cover false true is = is
both_cover false false is = is

not_other : (v w : Counts) → is_other v w ≡ false → Covers v w
not_other v w is = covers_from_test v w (both_cover (covers v w) (covers w v) (double (is_same (relation_by (covers v w) (covers w v))) is))
  where
    double : (b : Bool) → not b ≡ false → b ≡ true
    double true is = refl
    double false is = absurd (true≢false is)

closes_now : (m : State) → HasNotedNow (closes m).0
closes_now m runs settled = by_due (notes (not m.runs) m.membership) refl
  where
    -- it is not to be noted, for it has been
    known_already : (a b : Bool) → (a && (not (is_some m.membership.settled.view) || b)) ≡ false → a ≡ true → b ≡ false
    known_already true b is settled = second (not (is_some m.membership.settled.view)) b is
      where
        second : (x y : Bool) → (x || y) ≡ false → y ≡ false
        second true y is = absurd (true≢false is)
        second false y is = is
    known_already false b is settled = absurd (true≢false (sym settled))

    rest : (a b : Bool) → (a && b) ≡ false → a ≡ true → b ≡ false
    rest true b is first = is
    rest false b is first = absurd (true≢false (sym first))

    by_due : (b : Bool) → notes (not m.runs) m.membership ≡ b → Covers (version_of (settled_of (closes m).0)) (known m).version
    by_due true is =
        covers_equal (version_of (settled_of (closes m).0)) (known m).version
        (ap (λ (x : SettledModel). version_of x.view) (ap (λ b. if b then after_note (known m).version (known m).view.standings m.membership.settled else m.membership.settled) is))
    by_due false is =
        let none : is_noted m.membership ≡ false = rest (not (stops (not m.runs) m.membership)) (is_noted m.membership) is runs in
        let same : is_other (version_of m.membership.settled.view) (known m).version ≡ false = known_already (has_settled m.membership) (is_other (version_of m.membership.settled.view) (known m).version) none settled in
        subst (λ (x : SettledModel). Covers (version_of x.view) (known m).version) (sym (ap (λ b. if b then after_note (known m).version (known m).view.standings m.membership.settled else m.membership.settled) is))
        (not_other (version_of m.membership.settled.view) (known m).version same)

pub step_now : (e : NodeEvent) (n : State) → IsTrue n.runs → HasNotedNow n → HasNotedNow (step e n).0
step_now e n runs before = subst (λ (o : Outcome). HasNotedNow o.0) (sym (step_is e n runs)) (by_dead (is_dead (me_of n) e))
  where
    x : State
    x = record n { steps = n.steps + 1 }

    by_dead : (b : Bool) → HasNotedNow (if b then (x, action.Dead ∷ []) else and_then concludes (rule e x)).0
    by_dead true = before
    by_dead false = closes_now (rule e x).0
