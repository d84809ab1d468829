use Rattle.ak_world.proofs.InRunLemmas.{confirmed_stopped}
use Rattle.ak_world.proofs.laws.confirmed_means_stopped.Goals as goal

pub returns : goal.returns
returns c = confirmed_stopped
