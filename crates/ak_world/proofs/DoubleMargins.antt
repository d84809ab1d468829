-- Under a static quorum of more than half of the listed addresses a double comes at the step at which the margin is broken, or later.
use Rattle.std.proofs.Common.{◌≡◌, ◌⊎◌, inl, inr, ℕ, ◌+◌, ◌<◌, ◌≤◌, List, [], ◌∷◌, ◌++◌, length, take, sym, subst, arith, append-nil, append_assoc, length-append}
use Rattle.std.proofs.lemmas.Option.{slice_get_within}
use Rattle.ak_address.specs.Unique.{UniqueModel}
use Rattle.ak_settings.specs.Settings.{SettingsModel}
use Rattle.ak_schedule.specs.declared.event.Event.{Event}
use Rattle.ak_world.specs.declared.margin.Margin.{Margin}
use Rattle.ak_world.specs.declared.margin.Margin.TheVariants.{Kept, Broken}
use Rattle.ak_world.specs.Double.{IsDoubled, Doubled, IsFirst}
use Rattle.ak_world.specs.Margin.{IsUntold, IsMargin, IsBrokenBy}
use Rattle.ak_world.specs.SettledLine.{IsOverHalf}
use Rattle.ak_world.specs.Uids.{HaveUids}
use Rattle.ak_world.specs.World.{run}
use Rattle.ak_world.proofs.DoubleLoops.{in_first, first_in}
use Rattle.ak_world.proofs.DoubleMarks.{doubled_sooner, not_less}
use Rattle.ak_world.proofs.DoubleRuns.{kept_first, no_double-of_run}
use Rattle.ak_world.proofs.InRunLemmas.{take_rest}
use Rattle.ak_world.proofs.MarginRuns.{untold_later}

module _ (settings : SettingsModel) where
  -- what was untold in the first events is untold in all
  untold_all : (first more : List Event) (time place node : ℕ) (who : UniqueModel) → IsUntold settings first time place node who → IsUntold settings (first ++ more) time place node who
  untold_all first [] time place node who u = subst (λ l. IsUntold settings l time place node who) (sym (append-nil first)) u
  untold_all first (e ∷ more) time place node who u =
      subst (λ l. IsUntold settings l time place node who) (append_assoc first (e ∷ []) more)
      (untold_all (first ++ e ∷ []) more time place node who (untold_later settings first e time place node who u))

  -- what is doubled in all is doubled in the first events, where it comes in them
  doubled_first : (first more : List Event) (time place node other : ℕ) (x : List ℕ) → time < length first → IsDoubled settings (first ++ more) time place node other x → IsDoubled settings first time place node other x
  doubled_first first [] time place node other x within d = subst (λ l. IsDoubled settings l time place node other x) (append-nil first) d
  doubled_first first (e ∷ more) time place node other x within d =
      doubled_sooner settings first e time place node other x within
      (doubled_first (first ++ e ∷ []) more time place node other x (let many = length-append first (e ∷ []) in omega (arith, many, within))
      (subst (λ l. IsDoubled settings l time place node other x) (sym (append_assoc first (e ∷ []) more)) d))

  module _ (events : List Event) (uids : HaveUids (run settings events)) (least : 1 ≤ settings.margin) (quorum : ℕ) (over_half : IsOverHalf settings quorum) (d : Doubled) (f : IsFirst settings events d) where
    -- so the margin was not kept through the step of the first double
    not_kept : IsMargin settings (take (f.time + 1) events) Kept → ⊥
    not_kept kept =
        let rest = take_rest (f.time + 1) events in
        let s = f.doubled.starts in
        let there = first_in events (f.time + 1) f.time s.event (omega arith) s.did.at in
        no_double-of_run settings events uids least quorum (f.time + 1) over_half kept f.time f.place d.started d.active d.entity
        (doubled_first (take (f.time + 1) events) rest.0 f.time f.place d.started d.active d.entity (slice_get_within (take (f.time + 1) events) f.time s.event there)
        (subst (λ l. IsDoubled settings l f.time f.place d.started d.active d.entity) rest.1 f.doubled))

    pub broken_by : (margin : Margin) → IsMargin settings events margin → IsBrokenBy margin d.step
    broken_by Kept kept = not_kept (kept_first settings events (f.time + 1) kept)
    broken_by (Broken step node member) b = not_less step d.step (λ lt. not_kept (λ time place other who u.
        let rest = take_rest (f.time + 1) events in
        let all = subst (λ l. IsUntold settings l time place other who) (sym rest.1) (untold_all (take (f.time + 1) events) rest.0 time place other who u) in
        let within = (in_first events (f.time + 1) time u.event u.did.at).0 in
        let later = at_most b.time time (b.first time place other who all) in
        let at = b.step_is in
        let doubled_at = f.step_is in
        omega (arith, lt, within, later, at, doubled_at)))
      where
        at_most : (a c : ℕ) {p q : ℕ} → (a < c) ⊎ ((a ≡ c) × (p ≤ q)) → a ≤ c
        at_most a c (inl less) = omega (arith, less)
        at_most a c (inr same) = let is = same.0 in omega (arith, is)
