use Rattle.std.proofs.Common.{◌≡◌, ◌++◌, map, drop}
use Rattle.ak_sharding.specs.Coordinates.{gives_order}
use Rattle.ak_sharding.proofs.coordinates.give_each.Given as goal

-- with the orders that are left, all are given
abbrev pub invariant-orders : goal.invariant-orders
invariant-orders l = l.actions ++ map (gives_order l.around l.live) (drop l.order-index l.orders) ≡ l.fn.actions ++ map (gives_order l.around l.live) l.orders
