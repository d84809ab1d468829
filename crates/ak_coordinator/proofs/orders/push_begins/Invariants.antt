use Rattle.std.proofs.Common.{◌≡◌, ◌++◌, map, drop}
use Rattle.ak_address.specs.Uniques.{in_order}
use Rattle.ak_coordinator.specs.Tick.{begin_order}
use Rattle.ak_coordinator.proofs.orders.push_begins.Given as goal

-- with those that are left, all are there
abbrev pub invariant-waits : goal.invariant-waits
invariant-waits l = l.orders.items ++ map (begin_order l.shard l.number) (drop l.index (in_order l.waits)) ≡ l.initial.orders.items ++ map (begin_order l.shard l.number) (in_order l.waits)
