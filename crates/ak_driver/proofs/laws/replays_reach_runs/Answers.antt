use Rattle.ak_driver.proofs.OneReplay.{reached}
use Rattle.ak_driver.proofs.laws.replays_reach_runs.Goals as goal

pub returns : goal.returns
returns c = reached
