use Rattle.ak_coordinator.proofs.CoordinatorLaws.{learnt_each, learnt_many}
use Rattle.ak_coordinator.proofs.laws.learning_takes_the_greater.Goals as goal

pub returns-clause-each : goal.returns-clause-each
returns-clause-each c = learnt_each

pub returns-clause-many : goal.returns-clause-many
returns-clause-many c = learnt_many
