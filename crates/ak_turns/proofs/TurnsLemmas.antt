-- How the turns of a node end.
use Rattle.std.proofs.Common.{◌≡◌, ℕ, ◌+◌, ◌-◌, ◌*◌, ◌≤◌, ◌<◌, ◌⊎◌, Bool, true, false, List, [], Option, Some, None, Result, Ok, Err, sym, ap, subst, inl, inr, arith, append-nil, if◌then◌else◌}
use Rattle.ak_config.specs.declared.config.Config.{Config}
use Rattle.ak_turns.specs.declared.end.End.{End}
use Rattle.ak_turns.specs.declared.end.End.TheVariants.{Memory, Write, Link, Turns}
use Rattle.ak_turns.specs.declared.happening.Happening.{Happening}
use Rattle.ak_turns.specs.declared.timer.Timer.{Timer}
use Rattle.ak_turns.specs.Timer.{is_due, timer_after, ticked, passed}
use Rattle.ak_turns.specs.Outside.{Output, Wire}
use Rattle.ak_turns.specs.Steps.{Progress}
use Rattle.ak_turns.specs.Turns.{GoesOn, begins}
use Rattle.ak_turns.specs.NodeRun.{start_of}
use Rattle.ak_turns.specs.TurnsContracts.{TakesSome, HearsAs, LinkCause, StopWrites, StopsAt, RunsTurns}
use Rattle.ak_turns.proofs.StepLemmas.{come_start, stop_here}
use Rattle.ak_turns.proofs.RunLemmas.{Along, stops_begin, stops_hearing, ends_link}

runs_stopped : (c : Config) (ticks : ℕ) (end : End) (q : Progress) (o0 o : Output) (w0 w : Wire) (r0 : Option (ℕ → ℕ)) → StopsAt c ticks end o0 o w0 w r0 → RunsTurns (Err end) c ticks q o0 o w0 w r0
runs_stopped c ticks Memory q o0 o w0 w r0 s = s
runs_stopped c ticks Write q o0 o w0 w r0 s = s
runs_stopped c ticks Link q o0 o w0 w r0 s = absurd s.stopped.writes
runs_stopped c ticks Turns q o0 o w0 w r0 s = absurd s.stopped.writes

pub runs_as : (c : Config) (ticks : ℕ) (result : Result (Unit {0}) End) (y end : End) (q : Progress) (o0 o : Output) (w0 w : Wire) (r0 : Option (ℕ → ℕ)) → result ≡ Err y → y ≡ end
    → RunsTurns (Err end) c ticks q o0 o w0 w r0 → RunsTurns result c ticks q o0 o w0 w r0
runs_as c ticks result y end q o0 o w0 w r0 is same runs =
    subst (λ (r : Result (Unit {0}) End). RunsTurns r c ticks q o0 o w0 w r0) (sym is) (subst (λ (e : End). RunsTurns (Err e) c ticks q o0 o w0 w r0) (sym same) runs)

pub runs_stop : (c : Config) (ticks : ℕ) (result : Result (Unit {0}) End) (y end : End) (q : Progress) (o0 o : Output) (w0 w : Wire) (r0 : Option (ℕ → ℕ)) → result ≡ Err y → y ≡ end
    → StopsAt c ticks end o0 o w0 w r0 → RunsTurns result c ticks q o0 o w0 w r0
runs_stop c ticks result y end q o0 o w0 w r0 is same s = runs_as c ticks result y end q o0 o w0 w r0 is same (runs_stopped c ticks end q o0 o w0 w r0 s)

-- before anything was done
pub stops_at_once : (c : Config) (ticks : ℕ) (p : Progress) (o : Output) (w : Wire) (r0 : Option (ℕ → ℕ)) → p ≡ start_of c → StopsAt c ticks Memory o o w w r0
stops_at_once c ticks p o w r0 start =
    stops_begin c ticks Memory o o w w r0
    (record { steps = []; cut = []; stopped = stop_here c o o w w [] p (come_start c p o w start); more = begins c; all = sym (append-nil (begins c)); one = omega arith })

-- a receive gave nothing
pub runs_unheard : (c : Config) (ticks : ℕ) (end : End) (o0 o : Output) (w0 w wh : Wire) (r0 r : Option (ℕ → ℕ)) (p : Progress) (time : Timer)
    → Along c ticks o0 w0 r0 p time o w r → GoesOn ticks time → HearsAs (Err end) w wh → RunsTurns (Err end) c ticks p o0 o w0 wh r0
runs_unheard c ticks Memory o0 o w0 w wh r0 r p time a goes h = stops_hearing c ticks o0 o w0 w wh r0 r p time a h
runs_unheard c ticks Link o0 o w0 w wh r0 r p time a goes h = ends_link c ticks o0 o w0 w wh r0 r p time a goes h
runs_unheard c ticks Write o0 o w0 w wh r0 r p time a goes h = absurd h
runs_unheard c ticks Turns o0 o w0 w wh r0 r p time a goes h = absurd h

-- ---- counts
pub some_steps : (p q : Progress) (o o1 : Output) (w w1 : Wire) (come : Option Happening) → TakesSome come (Ok tt) p q o o1 w w1 → q.steps ≤ p.steps + 1
some_steps p q o o1 w w1 None t = let same = ap (λ (x : Progress). x.steps) t.0 in omega (arith, same)
some_steps p q o o1 w w1 (Some h) t = let same : q.steps ≡ p.steps + 1 = ap (λ (x : Progress). x.steps) t.2 in omega (arith, same)

-- a tick, or a reading without one
pub timer_moves : (reading : ℕ) (t s : Timer) → s ≡ timer_after reading t → ((s.ticks ≡ t.ticks + 1) × (s.idle ≡ 0)) ⊎ ((s.ticks ≡ t.ticks) × (s.idle ≡ t.idle + 1))
timer_moves reading t s is = by_case (is_due reading t) is
  where
    by_case : (b : Bool) → s ≡ (if b then ticked reading t else passed reading t) → ((s.ticks ≡ t.ticks + 1) × (s.idle ≡ 0)) ⊎ ((s.ticks ≡ t.ticks) × (s.idle ≡ t.idle + 1))
    by_case true e = inl (ap (λ (x : Timer). x.ticks) e, ap (λ (x : Timer). x.idle) e)
    by_case false e = inr (ap (λ (x : Timer). x.ticks) e, ap (λ (x : Timer). x.idle) e)

-- the bounds of a turn
pub record Bounds (ticks : ℕ) (steps : ℕ) (t : Timer) : Type 0 where
  pub steps_few : steps ≤ 2 + 2 * (t.ticks * 10000001 + t.idle)
  pub ticks_few : t.ticks ≤ ticks

pub bounds_next : (ticks reading p q r : ℕ) (t s : Timer) → s ≡ timer_after reading t → Bounds ticks p t → t.ticks < ticks → t.idle < 10000000 → q ≤ p + 1 → r ≤ q + 1 → Bounds ticks r s
bounds_next ticks reading p q r t s is b few idle one two =
    elim (timer_moves reading t s is) [
      | inl tick ↦ record { steps_few = omega (arith, tick.0, tick.1, b.steps_few, few, idle, one, two); ticks_few = omega (arith, tick.0, few) }
      | inr pass ↦ record { steps_few = omega (arith, pass.0, pass.1, b.steps_few, few, idle, one, two); ticks_few = omega (arith, pass.0, few) }
    ]

pub idle_next : (reading : ℕ) (t s : Timer) → s ≡ timer_after reading t → t.idle < 10000000 → s.idle ≤ 10000000
idle_next reading t s is idle = elim (timer_moves reading t s is) [ inl tick ↦ omega (arith, tick.1) | inr pass ↦ omega (arith, pass.1, idle) ]

pub comes_nearer : (ticks reading : ℕ) (t s : Timer) → s ≡ timer_after reading t → t.ticks < ticks → t.idle < 10000000
    → (ticks - s.ticks) * 10000001 + (10000000 - s.idle) < (ticks - t.ticks) * 10000001 + (10000000 - t.idle)
comes_nearer ticks reading t s is few idle =
    elim (timer_moves reading t s is) [
      | inl tick ↦ omega (arith, tick.0, tick.1, few, idle)
      | inr pass ↦ omega (arith, pass.0, pass.1, few, idle)
    ]

-- ---- causes
-- a stop on the way is none of the link's
pub cause_writes : (end : End) (text : List ℕ) (o0 o : Output) (l0 l1 : ℕ) → StopWrites end text o0 o → l1 ≡ l0 → LinkCause {X = Unit {0}} (Err end) l0 l1
cause_writes Memory text o0 o l0 l1 s e = e
cause_writes Write text o0 o l0 l1 s e = e
cause_writes Link text o0 o l0 l1 s e = absurd s
cause_writes Turns text o0 o l0 l1 s e = absurd s

pub cause_some : (come : Option Happening) (end : End) (p q : Progress) (o o1 : Output) (w w1 : Wire) (l0 l1 : ℕ) → TakesSome come (Err end) p q o o1 w w1 → l1 ≡ l0 → LinkCause {X = Unit {0}} (Err end) l0 l1
cause_some None end p q o o1 w w1 l0 l1 t e = absurd t
cause_some (Some h) Memory p q o o1 w w1 l0 l1 t e = e
cause_some (Some h) Write p q o o1 w w1 l0 l1 t e = e
cause_some (Some h) Link p q o o1 w w1 l0 l1 t e = absurd t
cause_some (Some h) Turns p q o o1 w w1 l0 l1 t e = absurd t

pub cause_as : (result : Result (Unit {0}) End) (y end : End) (l0 l1 : ℕ) → result ≡ Err y → y ≡ end → LinkCause {X = Unit {0}} (Err end) l0 l1 → LinkCause result l0 l1
cause_as result y end l0 l1 is same cause =
    subst (λ (r : Result (Unit {0}) End). LinkCause r l0 l1) (sym is) (subst (λ (e : End). LinkCause {X = Unit {0}} (Err e) l0 l1) (sym same) cause)
