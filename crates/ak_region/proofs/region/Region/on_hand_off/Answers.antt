use Rattle.std.proofs.Common.{◌≡◌, ap, ◌∙◌}
use Rattle.std.proofs.lemmas.List.{get_or_default}
use Rattle.ak_region.specs.Slot.{untold, handed_off}
use Rattle.ak_region.proofs.StoredLemmas.{kept_as, slot_changed}
use Rattle.ak_region.proofs.HousedLemmas.{stored_change}
use Rattle.ak_region.proofs.region.Region.on_hand_off.Goals as goal

pub returns-clause-after : goal.returns-clause-after
returns-clause-after c =
    let r = c.self.inside in
    let now = c.reach.new.told.items in
    let same : kept_as r.division r.shards r.told.items r.buffer.items r.most ≡ c.args.self.now = search in
    slot_changed c.args.self.now r.division r.shards r.told.items now r.buffer.items r.most c.args.shard c.hand_off.new.self (handed_off c.args.number) same c.self.invariant.fits c.requires c.reach.ensures.told
    (c.hand_off.ensures.after ∙ ap (handed_off c.args.number) (c.index_mut.ensures.value ∙ get_or_default now c.args.shard c.index_mut.result.now untold c.reach.ensures.reached))

pub invariant_of-self : goal.invariant_of-self
invariant_of-self c =
    let r = c.self.inside in
    let now = c.reach.new.told.items in
    let same : kept_as r.division r.shards r.told.items r.buffer.items r.most ≡ c.args.self.now = search in
    stored_change c.args.self.now r.division r.shards _ _ r.most c.args.shard r.homes.items r.told.items now r.buffer.items c.hand_off.new.self (handed_off c.args.number) same c.self.invariant c.reach.ensures.room c.requires c.reach.ensures.told
    (c.hand_off.ensures.after ∙ ap (handed_off c.args.number) (c.index_mut.ensures.value ∙ get_or_default now c.args.shard c.index_mut.result.now untold c.reach.ensures.reached))
    (λ slot housed. housed)
