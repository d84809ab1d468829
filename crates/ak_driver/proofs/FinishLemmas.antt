-- How a replay ends whose lines were all accepted.
use Rattle.std.proofs.Common.{◌≡◌, ℕ, ◌++◌, Bool, List, length, Option, None, Some, is_some, Bor, Ok, refl, sym, ap, ◌∙◌, subst, arith}
use Rattle.ak_driver.specs.declared.replay.Replay.{Replay}
use Rattle.ak_driver.specs.declared.replay.Stage.{Stage}
use Rattle.ak_driver.specs.declared.replay.Stage.TheVariants.{Running}
use Rattle.ak_driver.specs.ReplayContracts.{IsOpened, FinishAnswers, progress, progress_of}
use Rattle.ak_world.specs.Double.{Doubled, IsFirstDouble}
use Rattle.ak_world.proofs.DoubleMarks.{one_first}
use Rattle.ak_world.specs.StepText.{IsSummary, summary_text}
use Rattle.std.specs.Option.{option_copied, option_map}
use Rattle.ak_world.specs.declared.double.Double.{Double}
use Rattle.ak_world.specs.WorldContracts.{WorldModel, doubled_of}

-- there is a double exactly where the world answers one
pub is_some-doubled : (o : Option (Bor Double)) → is_some (option_map doubled_of (option_copied o)) ≡ is_some o
is_some-doubled None = refl
is_some-doubled (Some d) = refl

-- there were as many steps as accepted events, and the double that the summary names is the one that the world keeps
pub finishes : (r : Replay) (w : WorldModel) (before after added : List ℕ) (double : Option Doubled) (doubled : Bool) → r.stage ≡ Running w → IsOpened r.stage r.steps → IsSummary w.settings w.events r.steps w.state added
    → after ≡ before ++ added → IsFirstDouble w.settings w.events double → doubled ≡ is_some double → FinishAnswers (Ok doubled) (progress_of r) before after
finishes r w before after added double doubled is ready summary out first doubled_is =
    let steps : length w.events ≡ r.steps = subst (λ s. IsOpened s r.steps) is ready in
    let same : double ≡ summary.1 = one_first w.settings w.events double summary.1 first summary.3 in
    subst (λ (s : Stage). FinishAnswers (Ok doubled) (progress s r.line) before after) (sym is) (
      omega arith,
      summary.0,
      summary.1,
      summary.2,
      summary.3,
      doubled_is ∙ ap is_some same,
      out ∙ ap (λ text. before ++ text) (summary.4 ∙ ap (λ n. summary_text n summary.0 summary.1 w.state) (sym steps)),
    )
