use Rattle.std.proofs.Common.{take}
use Rattle.ak_world.proofs.FinishedRuns.{all_rest}
use Rattle.ak_world.proofs.laws.whoever_is_finished_has_stopped.Goals as goal

pub returns : goal.returns
returns c settings events time least kept = all_rest settings (take time events) kept least
