-- The headline: under a static quorum, where fewer addresses are listed than twice its size and the margin is kept, no entity is
-- ever active on two nodes at once in a replayed schedule. It is enough that fewer addresses have the role.
use Rattle.std.specs.Prelude.{◌≡◌, ◌≢◌, ℕ, List, [], ◌∷◌, ◌++◌, Option, None, Some, codes}
use Rattle.std.specs.Io.KnownBytes.{Appends}
use Rattle.ak_outside.specs.declared.status.Status.{Status}
use Rattle.ak_outside.specs.declared.status.Status.TheVariants as status
use Rattle.ak_world.specs.declared.margin.Margin.{Margin}
use Rattle.ak_world.specs.declared.margin.Margin.TheVariants.{Kept}
use Rattle.ak_world.specs.Double.{Doubled}
use Rattle.ak_world.specs.Margin.{IsBrokenBy}
use Rattle.ak_world.specs.SettledLine.{IsOverHalf}
use Rattle.ak_driver.specs.ReplayText.{Progress, Finished, ReplaysAs}

-- the last two lines of a text that says that all is well
abbrev pub kept_lines : List ℕ
kept_lines = codes "margin kept" ++ 10 ∷ [] ++ codes "doubles none" ++ 10 ∷ []

-- there is no double, and the status is not the one of a double; and at 0 the last two lines that were written say so
pub record SaysNone (double : Option Doubled) (answer : Status) (old new : Option (List ℕ)) : Type 0 where
  pub none : double ≡ None
  pub not_doubled : answer ≢ status.Double
  pub says : answer ≡ status.Done → (before : List ℕ) × Appends old new (before ++ kept_lines)

-- where the margin is kept there is no double, and a double comes at the step at which it is broken, or later
pub record AreApart (margin : Margin) (double : Option Doubled) (answer : Status) (old new : Option (List ℕ)) : Type 0 where
  pub kept : margin ≡ Kept → SaysNone double answer old new
  pub broken : (d : Doubled) → double ≡ Some d → IsBrokenBy margin d.step

-- What the end of a replay of these bytes says of entities, where it comes to its end under a static quorum of more than half of the
-- addresses with the role. (That a double is an entity which is active on two nodes at once, and that the margin and the double of
-- the end are those of the accepted events, say their definitions.)
abbrev pub KeepsEntitiesApart : List ℕ → Status → Option (List ℕ) → Option (List ℕ) → Type 0
KeepsEntitiesApart bytes answer old new =
    (steps : List (List ℕ)) (end : Progress) (margin : Margin) (double : Option Doubled) (quorum : ℕ) → ReplaysAs bytes steps (Finished end margin double) → IsOverHalf end.settings quorum
    → AreApart margin double answer old new
