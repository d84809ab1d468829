use Rattle.std.proofs.Common.{◌≡◌, ◌++◌, drop}
use Rattle.ak_coordinator.specs.Tick.{orders_from}
use Rattle.ak_coordinator.proofs.orders.orders_of.Given as goal

-- with those of the shards that are left, all are there
abbrev pub invariant-shards : goal.invariant-shards
invariant-shards l = l.orders.items ++ orders_from l.shard (drop l.shard l.entries) ≡ orders_from 0 l.entries
