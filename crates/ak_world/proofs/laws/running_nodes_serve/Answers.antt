use Rattle.ak_world.proofs.InRunLemmas.{all_serve}
use Rattle.ak_world.proofs.laws.running_nodes_serve.Goals as goal

pub returns : goal.returns
returns c = all_serve
