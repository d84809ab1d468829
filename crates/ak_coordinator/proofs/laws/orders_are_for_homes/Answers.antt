use Rattle.ak_coordinator.proofs.OrderLaws.{orders_each, orders_mean}
use Rattle.ak_coordinator.proofs.laws.orders_are_for_homes.Goals as goal

pub returns-clause-each : goal.returns-clause-each
returns-clause-each c = orders_each

pub returns-clause-meaning : goal.returns-clause-meaning
returns-clause-meaning c = orders_mean
