use Rattle.ak_coordinator.proofs.CoordinatorLaws.{allotted_is, allotted_nowhere}
use Rattle.ak_coordinator.proofs.laws.shards_are_placed_at_given_loads.Goals as goal

pub returns-clause-placed : goal.returns-clause-placed
returns-clause-placed c = allotted_is

pub returns-clause-nowhere : goal.returns-clause-nowhere
returns-clause-nowhere c = allotted_nowhere
