use Rattle.ak_address.proofs.Failing.{on_err_not}
use Rattle.std.proofs.Common.{[], arith}
use Rattle.ak_coordinator.proofs.RoomLemmas.{ordered_at}
use Rattle.ak_coordinator.proofs.orders.orders_of.Goals as goal

-- where it fails, something is ordered
pub returns-in_err-push_orders-clause-memory : goal.returns-in_err-push_orders-clause-memory
returns-in_err-push_orders-clause-memory c =
    on_err_not c.from_residual.result _ [] (ordered_at c.args.entries.now c.shards.shard c.at.result.now (omega arith) c.at.ensures c.in_err-push_orders.ensures.memory)
