-- An entity is active by what nodes told exactly where a running node keeps it; and while the removal margin is kept it is so at one
-- node at most.
use Rattle.std.proofs.Common.{◌≡◌, ◌↔◌, inl, inr, ℕ, ◌≤◌, List, [], ◌∷◌, length, take, Some, None, slice_get, refl, sym, ap, ◌∙◌, subst}
use Rattle.ak_settings.specs.Settings.{SettingsModel}
use Rattle.ak_schedule.specs.declared.event.Event.{Event}
use Rattle.ak_world.specs.declared.margin.Margin.TheVariants.{Kept}
use Rattle.ak_world.specs.DoubleMark.{Keeps}
use Rattle.ak_world.specs.Margin.{IsMargin}
use Rattle.ak_world.specs.Places.{IsActiveAt, AreAtOneNode}
use Rattle.ak_world.specs.SettledLine.{IsOverHalf}
use Rattle.ak_world.specs.Uids.{HaveUids}
use Rattle.ak_world.specs.World.{run}
use Rattle.ak_world.proofs.Addressed.{uids_first}
use Rattle.ak_world.proofs.DoubleKept.{kept_was_active}
use Rattle.ak_world.proofs.DoubleRuns.{was_kept, IsKept}
use Rattle.ak_world.proofs.OneHomeRuns.{one_entity}

take_all : {X : Type 0} (xs : List X) → take (length xs) xs ≡ xs
take_all {X} [] = refl
take_all {X} (x ∷ xs) = ap (λ l. x ∷ l) (take_all xs)

past_end : {X : Type 0} (xs : List X) → slice_get xs (length xs) ≡ None
past_end {X} [] = refl
past_end {X} (x ∷ xs) = past_end xs

module _ (settings : SettingsModel) (events : List Event) (i : ℕ) (entity : List ℕ) where
  is_kept : IsActiveAt settings events i entity → IsKept settings events i entity (run settings events)
  is_kept a = elim (was_kept settings events i entity (length events) 0 a) [
    | inl kept ↦ subst (λ l. IsKept settings events i entity (run settings l)) (take_all events) kept
    | inr starts ↦ let at : None ≡ Some starts.1.event = sym (past_end events) ∙ starts.1.did.at in absurd (cc)
  ]

  -- so a world that asks the node tells it
  pub active_means : IsActiveAt settings events i entity ↔ Keeps (run settings events).nodes entity i
  active_means = (
    λ a. let k = is_kept a in record { node = k.0; at = k.1; runs = k.2; active = k.3 },
    λ k. kept_was_active settings events i entity (length events) (subst (λ l. IsKept settings events i entity (run settings l)) (sym (take_all events)) (k.node, k.at, k.runs, k.active)),
  )

pub one_node : (settings : SettingsModel) (events : List Event) → HaveUids (run settings events) → 1 ≤ settings.margin → (quorum time : ℕ) → IsOverHalf settings quorum → IsMargin settings (take time events) Kept → AreAtOneNode settings (take time events)
one_node settings events uids least quorum time over_half kept = λ i j entity here there.
    let k = is_kept settings (take time events) i entity here in
    let l = is_kept settings (take time events) j entity there in
    one_entity settings (take time events) quorum over_half least kept (uids_first settings events time uids) i j k.0 l.0 k.1 l.1 k.2 l.2 entity k.3 l.3
