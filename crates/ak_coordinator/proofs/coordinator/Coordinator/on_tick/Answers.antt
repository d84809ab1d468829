use Rattle.std.proofs.Common.{◌≡◌, ◌≢◌, ◌⊎◌, inl, inr, [], map, subst, ◌∙◌, arith}
use Rattle.std.proofs.lemmas.Result.{on_err_weaker}
use Rattle.std.proofs.lemmas.Grind.{common_steps}
use Rattle.ak_address.proofs.Failing.{on_err}
use Rattle.ak_coordinator.specs.Tick.{noticed, hurried, after_begin, after_tick, orders_from, AnyWaited, ComparesLoads}
use Rattle.ak_coordinator.proofs.TickLemmas.{all_noticed}
use Rattle.ak_coordinator.proofs.coordinator.Coordinator.on_tick.Goals as goal

-- after the shards were looked at for finished nodes
pub returns-in_err-begin_one-clause-memory : goal.returns-in_err-begin_one-clause-memory
returns-in_err-begin_one-clause-memory c =
    let granted = c.args.granted.now in
    let settled = c.args.settled.now.view in
    let margin = c.args.settings.now.margin in
    let threshold = c.args.settings.now.threshold in
    let limit = c.args.settings.now.limit in
    let seen : c.notice_each.new.entries ≡ map (noticed margin settled) c.args.self.now = grind (arith, common_steps) in
    on_err c.from_residual-in_err-begin_one.result (inr (subst (λ table. ComparesLoads granted settled limit table ⊎ (orders_from 0 (map hurried (after_begin granted settled margin threshold limit table)) ≢ [])) seen (c.in_err-begin_one.ensures {u = tt}).memory))

pub returns-clause-memory : goal.returns-clause-memory
returns-clause-memory c =
    let granted = c.args.granted.now in
    let settled = c.args.settled.now.view in
    let margin = c.args.settings.now.margin in
    let threshold = c.args.settings.now.threshold in
    let limit = c.args.settings.now.limit in
    let seen : c.hurry_each.new.entries ≡ after_tick granted settled margin threshold limit c.args.self.now = grind (arith, common_steps) in
    on_err_weaker c.orders_of.result (λ some. inr (inr (subst (λ table. orders_from 0 table ≢ []) seen some))) c.orders_of.ensures.memory

-- where finished nodes are looked at in vain, nodes are still waited for
pub returns-in_err-notice_each-clause-memory : goal.returns-in_err-notice_each-clause-memory
returns-in_err-notice_each-clause-memory c =
    on_err c.from_residual.result (inl (subst AnyWaited (λ i. map (noticed (c.settings.view_is i).margin c.args.settled.now.view) (c.self.view_is i)) (c.in_err-notice_each.ensures {u = tt}).memory))

-- the shards were looked at for finished nodes, and no more
pub returns-in_err-begin_one-clause-lost : goal.returns-in_err-begin_one-clause-lost
returns-in_err-begin_one-clause-lost c =
    on_err c.from_residual-in_err-begin_one.result (inl (all_noticed c.args.settings.now.margin c.args.settled.now.view c.args.self.now c.begin_one.new.entries
    ((c.in_err-begin_one.ensures {u = tt}).err
    ∙ c.in_ok-notice_each.ensures.ok
    ∙ (λ i. map (noticed (c.settings.view_is i).margin c.args.settled.now.view) (c.self.view_is i)))))
