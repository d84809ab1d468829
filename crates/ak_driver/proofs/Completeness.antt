-- A replay that says what it printed has printed the one replay text of its schedule, or there was no memory for it.
use Rattle.std.proofs.Common.{◌≡◌, ◌-◌, ◌^◌, arith, ℕ, List, Option, Some, refl, subst, inl, inr}
use Rattle.std.specs.Io.KnownBytes.{Appends}
use Rattle.ak_outside.specs.Outside.{Rose}
use Rattle.ak_outside.specs.declared.status.Status.{Status}
use Rattle.ak_outside.specs.declared.status.Status.TheVariants.{Done, Double, Usage, Configuration, Schedule, Read, Write, Memory, Link, Turns}
use Rattle.ak_driver.specs.ReplayPromise.{Prints, Promises, IsCompleted}
use Rattle.ak_driver.specs.ReplayText.{IsReplay}
use Rattle.ak_driver.specs.StatusContracts.{ReplayCause}
use Rattle.ak_driver.proofs.OneReplay.{one_replay}

-- of known bytes: the status and text are those of the one replay text
whole_text : (bytes text : List ℕ) (status : ℕ) (old new : Option (List ℕ)) → IsReplay bytes status text → Appends old new text
    → (other : ℕ) (whole : List ℕ) → IsReplay bytes other whole → (status ≡ other) × Appends old new whole
whole_text bytes text status old new is written other whole replay =
    let same = one_replay bytes status other text whole is replay in (same.0, subst (λ (t : List ℕ). Appends old new t) same.1 written)

-- a count that did not change did not rise
no_rise : Rose 0 0 → ⊥
no_rise rose = let risen = rose (λ (e : ◌≡◌ {A = ℕ} 0 (2 ^ 64 - 1)). omega (arith, e)) in omega arith

-- a replay of bytes that were read reads no more
pub caused : (answer : Status) (r0 r1 w0 w1 : ℕ) → r1 ≡ r0 → ReplayCause answer 0 0 w0 w1 → ReplayCause answer r0 r1 w0 w1
caused Done r0 r1 w0 w1 same cause = (same, cause.1)
caused Schedule r0 r1 w0 w1 same cause = (same, cause.1)
caused Memory r0 r1 w0 w1 same cause = (same, cause.1)
caused Read r0 r1 w0 w1 same cause = absurd (no_rise cause.0)
caused Write r0 r1 w0 w1 same cause = cause
caused Double r0 r1 w0 w1 same cause = (same, cause.1)
caused Usage r0 r1 w0 w1 same cause = absurd cause
caused Configuration r0 r1 w0 w1 same cause = absurd cause
caused Link r0 r1 w0 w1 same cause = absurd cause
caused Turns r0 r1 w0 w1 same cause = absurd cause

completes : (bytes : List ℕ) (answer : Status) (r0 r1 w0 w1 : ℕ) (old new : Option (List ℕ)) → (Rose r0 r1 → ⊥) → (Rose w0 w1 → ⊥) → ReplayCause answer r0 r1 w0 w1
    → (left : Option (List ℕ)) → Prints bytes left answer old new → IsCompleted bytes answer old new
completes bytes Done r0 r1 w0 w1 old new reads writes cause left p = λ status text replay. inl (whole_text bytes p.0 0 old new p.1 p.2 status text replay)
completes bytes Schedule r0 r1 w0 w1 old new reads writes cause left p = λ status text replay. inl (whole_text bytes p.0 4 old new p.1 p.2 status text replay)
completes bytes Memory r0 r1 w0 w1 old new reads writes cause left p = λ status text replay. inr refl
completes bytes Read r0 r1 w0 w1 old new reads writes cause left p = absurd (reads cause.0)
completes bytes Write r0 r1 w0 w1 old new reads writes cause left p = absurd (writes cause)
completes bytes Double r0 r1 w0 w1 old new reads writes cause left p = λ status text replay. inl (whole_text bytes p.0 1 old new p.1 p.2 status text replay)
completes bytes Usage r0 r1 w0 w1 old new reads writes cause left p = absurd cause
completes bytes Configuration r0 r1 w0 w1 old new reads writes cause left p = absurd cause
completes bytes Link r0 r1 w0 w1 old new reads writes cause left p = absurd cause
completes bytes Turns r0 r1 w0 w1 old new reads writes cause left p = absurd cause

pub completed : (known : Option (List ℕ)) (answer : Status) (r0 r1 w0 w1 : ℕ) (old new : Option (List ℕ)) → ReplayCause answer r0 r1 w0 w1 → (left : Option (List ℕ)) → Promises known left answer old new
    → (bytes : List ℕ) → known ≡ Some bytes → (Rose r0 r1 → ⊥) → (Rose w0 w1 → ⊥) → IsCompleted bytes answer old new
completed known answer r0 r1 w0 w1 old new cause left p bytes is reads writes =
    completes bytes answer r0 r1 w0 w1 old new reads writes cause left (subst (λ (o : Option (List ℕ)). Promises o left answer old new) is p)
