use Rattle.std.proofs.Common.{inr, subst, ap, ◌∙◌}
use Rattle.std.proofs.lemmas.Result.{on_err_weaker}
use Rattle.ak_address.proofs.Failing.{on_err}
use Rattle.ak_coordinator.specs.Tick.{after_tick, orders_from, TakesRoom}
use Rattle.ak_sharding.specs.Coordinates.{TickTakesRoom}
use Rattle.ak_sharding.proofs.coordinates.ticks.Goals as goal

pub returns-in_err-orders-clause-memory : goal.returns-in_err-orders-clause-memory
returns-in_err-orders-clause-memory c =
    let settings = c.around.inside.settings.now in
    on_err c.from_residual.result (subst (λ around. TickTakesRoom around c.args.table.now) c.around.view_is
    (subst (λ granted. TakesRoom granted c.around.inside.settled.now.view settings.margin settings.threshold settings.limit c.args.table.now) c.granted.ensures c.in_err-orders.ensures.memory))

-- what is ordered is given
pub returns-clause-memory : goal.returns-clause-memory
returns-clause-memory c =
    let settings = c.around.inside.settings.now in
    let ordered = c.deref.ensures.value
    ∙ c.in_ok-orders.ensures.orders
    ∙ ap (λ granted. orders_from 0 (after_tick granted c.around.inside.settled.now.view settings.margin settings.threshold settings.limit c.args.table.now)) c.granted.ensures in
    on_err_weaker c.give_each.result (λ some. subst (λ around. TickTakesRoom around c.args.table.now) c.around.view_is (inr (inr (λ none. some (ordered ∙ none))))) c.give_each.ensures.memory
