use Rattle.ak_world.proofs.WaitedRuns.{finished_by}
use Rattle.ak_world.proofs.laws.whoever_is_finished_is_confirmed_or_ended.Goals as goal

pub returns : goal.returns
returns c = finished_by
