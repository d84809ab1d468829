use Rattle.ak_world.proofs.FoldRuns.{run_folds}
use Rattle.ak_world.proofs.laws.what_is_known_is_the_fold.Goals as goal

pub returns : goal.returns
returns c = run_folds
