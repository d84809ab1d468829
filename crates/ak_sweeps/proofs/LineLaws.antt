-- One line for each seed, one list of lines for each sweep; and a line that says that the margin was kept says that there is no double.
use Rattle.std.proofs.Common.{◌≡◌, ◌↔◌, ℕ, zero, suc, ◌+◌, lit<, Bool, true, false, List, [], ◌∷◌, length, take, slice_get, Option, Some, None, is_some, refl, sym, ap, ◌∙◌, subst, arith, true≢false}
use Rattle.std.proofs.Math.Seq.{take-length}
use Rattle.std.proofs.lemmas.Option.{same_Some}
use Rattle.std.specs.Cmp.{both_ways}
use Rattle.ak_schedule.specs.declared.event.Event.{Event}
use Rattle.ak_generate.specs.Fixed.{fixed}
use Rattle.ak_generate.specs.Generator.{seeded}
use Rattle.ak_sweep.specs.declared.line.Line.{Line}
use Rattle.ak_world.specs.declared.margin.Margin.{Margin}
use Rattle.ak_world.specs.declared.margin.Margin.TheVariants.{Kept, Broken}
use Rattle.ak_world.specs.Double.{Doubled, IsFirstDouble}
use Rattle.ak_world.specs.Margin.{IsMargin}
use Rattle.ak_world.specs.World.{empty_world, run}
use Rattle.ak_world.proofs.DoubleRuns.{no_double-of_run}
use Rattle.ak_world.proofs.MarginRuns.{some_margin}
use Rattle.ak_world.proofs.SomeDouble.{some_double}
use Rattle.ak_sweeps.specs.GeneratedRun.{Tells, IsLineOf, KeepsApart}
use Rattle.ak_sweeps.specs.RunContracts.{is_kept}
use Rattle.ak_sweeps.specs.SweepText.{AreLines}
use Rattle.ak_sweeps.proofs.GeneratedRuns.{reached_start, some_rest, one_rest, uids_of_run}

-- ---- what a line says of the margin and of doubles
pub kept_is : (events : List Event) (margin : Margin) → IsMargin fixed events margin → (is_kept margin ≡ true) ↔ IsMargin fixed events Kept
kept_is events Kept is = ((λ e. is), (λ h. refl))
kept_is events (Broken step node member) is = ((λ e. absurd (true≢false (sym e))), (λ kept. absurd (kept is.time is.place node is.who is.untold)))

pub double_is : (events : List Event) (double : Option Doubled) → IsFirstDouble fixed events double → (is_some double ≡ false) ↔ IsFirstDouble fixed events None
double_is events None is = ((λ e. is), (λ h. refl))
double_is events (Some d) is = ((λ e. absurd (true≢false e)), (λ none. absurd (none is.time is.place d.started d.active d.entity is.doubled)))

-- ---- a line that says that the margin was kept says that there is no double
pub keeps_apart : (seed most : ℕ) (line : Line) → IsLineOf seed most line → KeepsApart line
keeps_apart seed most line of kept =
    let events = of.0 in
    let all : take (length events) events ≡ events = take-length events in
    let margin : IsMargin fixed (take (length events) events) Kept = subst (λ es. IsMargin fixed es Kept) (sym all) (of.2.kept.0 kept) in
    of.2.double.1
    (subst (λ es. IsFirstDouble fixed es None) all (no_double-of_run fixed events (uids_of_run seed most events of.1) (lit< tt) 3 (length events) (refl, lit< tt) margin))

-- ---- one line
same_line : (a b : Line) → a.seed ≡ b.seed → a.steps ≡ b.steps → a.packets ≡ b.packets → a.history ≡ b.history → a.kept ≡ b.kept → a.double ≡ b.double → a ≡ b
same_line a b seed steps packets history kept double =
    ap (λ x. record { seed = x; steps = a.steps; packets = a.packets; history = a.history; kept = a.kept; double = a.double }) seed
    ∙ ap (λ x. record { seed = b.seed; steps = x; packets = a.packets; history = a.history; kept = a.kept; double = a.double }) steps
    ∙ ap (λ x. record { seed = b.seed; steps = b.steps; packets = x; history = a.history; kept = a.kept; double = a.double }) packets
    ∙ ap (λ x. record { seed = b.seed; steps = b.steps; packets = b.packets; history = x; kept = a.kept; double = a.double }) history
    ∙ ap (λ x. record { seed = b.seed; steps = b.steps; packets = b.packets; history = b.history; kept = x; double = a.double }) kept
    ∙ ap (λ x. record { seed = b.seed; steps = b.steps; packets = b.packets; history = b.history; kept = b.kept; double = x }) double

both_false : (a b : Bool) → (a ≡ false → b ≡ false) → (b ≡ false → a ≡ false) → a ≡ b
both_false false b there back = sym (there refl)
both_false true false there back = back refl
both_false true true there back = refl

tells_one : (seed : ℕ) (events : List Event) (a b : Line) → Tells seed events a → Tells seed events b → a ≡ b
tells_one seed events a b p q =
    same_line a b (p.seed_is ∙ sym q.seed_is) (p.steps ∙ sym q.steps) (p.packets ∙ sym q.packets) (p.history ∙ sym q.history)
    (both_ways a.kept b.kept (λ e. q.kept.1 (p.kept.0 e)) (λ e. p.kept.1 (q.kept.0 e)))
    (both_false a.double b.double (λ e. q.double.1 (p.double.0 e)) (λ e. p.double.1 (q.double.0 e)))

pub one_line : (seed most : ℕ) (a b : Line) → IsLineOf seed most a → IsLineOf seed most b → a ≡ b
one_line seed most a b p q =
    let events : p.0 ≡ q.0 = one_rest most (seeded seed) empty_world p.0 q.0 p.1 q.1 in
    tells_one seed q.0 a b (subst (λ es. Tells seed es a) events p.2) q.2

pub some_line : (seed most : ℕ) → (line : Line) × IsLineOf seed most line
some_line seed most =
    let on = some_rest most (seeded seed) empty_world [] (reached_start seed) in
    let events = on.0 in
    let margin = some_margin fixed events in
    let double = some_double fixed events in
    let line : Line = record { seed = seed; steps = length events; packets = length (run fixed events).packets; history = length (run fixed events).history; kept = is_kept margin.0; double = is_some double.0 } in
    (line, (events, on.1, record { seed_is = refl; steps = refl; packets = refl; history = refl; kept = kept_is events margin.0 margin.1; double = double_is events double.0 double.1 }))

-- ---- one list of lines
lines_after : (first count most : ℕ) (line : Line) (lines : List Line) → AreLines first (suc count) most (line ∷ lines) → AreLines (first + 1) count most lines
lines_after first count most line lines are = record {
  many = let many = are.many in omega arith;
  each = λ index one at. subst (λ seed. IsLineOf seed most one) (omega arith) (are.each (suc index) one at);
}

pub one_list : (count first most : ℕ) (a b : List Line) → AreLines first count most a → AreLines first count most b → a ≡ b
one_list zero first most [] [] p q = refl
one_list zero first most [] (y ∷ ys) p q = let many = q.many in absurd (omega arith)
one_list zero first most (x ∷ xs) b p q = let many = p.many in absurd (omega arith)
one_list (suc count) first most [] b p q = let many = p.many in absurd (omega arith)
one_list (suc count) first most (x ∷ xs) [] p q = let many = q.many in absurd (omega arith)
one_list (suc count) first most (x ∷ xs) (y ∷ ys) p q =
    ap (λ l. l ∷ xs) (one_line (first + 0) most x y (p.each 0 x refl) (q.each 0 y refl))
    ∙ ap (λ ls. y ∷ ls) (one_list count (first + 1) most xs ys (lines_after first count most x xs p) (lines_after first count most y ys q))

pub some_list : (count first most : ℕ) → (lines : List Line) × AreLines first count most lines
some_list zero first most = ([], record { many = refl; each = λ index line at. absurd (cc) })
some_list (suc count) first most =
    let one = some_line first most in
    let rest = some_list count (first + 1) most in
    (one.0 ∷ rest.0, record { many = let many = rest.1.many in omega arith; each = each one.0 rest.0 one.1 rest.1 })
  where
    each : (line : Line) (lines : List Line) → IsLineOf first most line → AreLines (first + 1) count most lines → (index : ℕ) (l : Line) → slice_get (line ∷ lines) index ≡ Some l → IsLineOf (first + index) most l
    each line lines of are zero l at = subst (λ seed. IsLineOf seed most l) (omega arith) (subst (IsLineOf first most) (same_Some line l at) of)
    each line lines of are (suc index) l at = subst (λ seed. IsLineOf seed most l) (omega arith) (are.each index l at)
