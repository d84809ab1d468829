use Rattle.ak_node.proofs.NodeLemmas.{updates_once}
use Rattle.ak_node.proofs.laws.steps_update_once.Goals as goal

pub returns : goal.returns
returns c = updates_once
