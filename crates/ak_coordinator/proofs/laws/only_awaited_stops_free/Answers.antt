use Rattle.ak_coordinator.proofs.CoordinatorLaws.{awaited_means}
use Rattle.ak_coordinator.proofs.laws.only_awaited_stops_free.Goals as goal

pub returns-clause-awaited : goal.returns-clause-awaited
returns-clause-awaited c = awaited_means
