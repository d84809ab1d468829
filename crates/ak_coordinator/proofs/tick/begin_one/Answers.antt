use Rattle.std.proofs.Common.{refl, inr, ap, ◌∙◌, ◌<◌, arith}
use Rattle.ak_address.proofs.Failing.{on_err}
use Rattle.ak_settled.specs.Settled.{standings_of}
use Rattle.ak_coordinator.specs.Tick.{moving, first_leaver}
use Rattle.ak_coordinator.proofs.RoomLemmas.{begins_ordered}
use Rattle.ak_coordinator.proofs.tick.begin_one.Goals as goal

-- where whoever is waited for finds no memory, a shard begins
pub returns-in_err-waits-clause-memory : goal.returns-in_err-waits-clause-memory
returns-in_err-waits-clause-memory c =
    let table = c.args.entries.now in
    let many = c.moving.ensures in
    let limit = ap (λ s. s.limit) c.settings.view_is in
    let few : moving table < c.args.settings.now.limit = (let lt = c.if-moving-settings.false in omega arith) in
    on_err c.from_residual-in_err-waits.result (inr (begins_ordered c.args.granted.now c.args.settled.now.view c.args.settings.now.margin c.args.settings.now.threshold c.args.settings.now.limit table table c.in_ok-shard.field-0 c.in-Some.shard
    refl few
    (c.in_ok-shard.ensures.first ∙ ap (λ threshold. first_leaver c.args.granted.now (standings_of c.args.settled.now.view) threshold table) (ap (λ s. s.threshold) c.settings.view_is))
    c.in-Some.is c.in_ok-shard.ensures.placed))
