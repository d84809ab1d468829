use Rattle.std.proofs.Common.{◌≡◌, ◌+◌, ◌-◌, ◌++◌, length, replicate, ap, ◌∙◌, arith}
use Rattle.ak_region.specs.Slot.{untold}
use Rattle.ak_region.proofs.told.reach.Goals as goal

pub returns-clause-told : goal.returns-clause-told
returns-clause-told c =
    let i = c.shards.invariant in
    let before = length c.args.told.now.items in
    i.told ∙ ap (λ k. c.args.told.now.items ++ replicate k untold) (let e : c.shards._shard - before ≡ c.args.shard + 1 - before = omega (arith, i.within, i.many) in e)
