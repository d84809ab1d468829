use Rattle.std.proofs.Common.{◌≡◌, true, ap, ◌∙◌}
use Rattle.std.proofs.lemmas.List.{get_or_default}
use Rattle.ak_region.specs.declared.slot.Hosting.TheVariants.{New}
use Rattle.ak_region.specs.Slot.{untold, after_host}
use Rattle.ak_region.specs.Housed.{is_among, with_home}
use Rattle.ak_region.proofs.StoredLemmas.{kept_as, slot_changed}
use Rattle.ak_region.proofs.HousedLemmas.{itself_with, stored_with, stored_change, hosted_there}
use Rattle.ak_region.proofs.region.Region.on_host.Goals as goal

pub returns-clause-after : goal.returns-clause-after
returns-clause-after c =
    let r = c.self.inside in
    let now = c.reach.new.told.items in
    let same : kept_as r.division r.shards r.told.items r.buffer.items r.most ≡ c.args.self.now = search in
    slot_changed c.args.self.now r.division r.shards r.told.items now r.buffer.items r.most c.args.shard c.host.new.self (after_host c.args.me.now c.args.number New) same c.self.invariant.fits c.requires c.reach.ensures.told
    (c.host.ensures ∙ ap (λ home. after_host home c.args.number New c.index_mut.result.now) c.in_ok-home.ensures ∙ ap (after_host c.args.me.now c.args.number New) (c.index_mut.ensures.value ∙ get_or_default now c.args.shard c.index_mut.result.now untold c.reach.ensures.reached))

pub invariant_of-self-2 : goal.invariant_of-self-2
invariant_of-self-2 c =
    let r = c.self.inside in
    let now = c.reach.new.told.items in
    let same : kept_as r.division r.shards r.told.items r.buffer.items r.most ≡ c.args.self.now = search in
    let homes = c.add_home.new.homes.items in
    let is : homes ≡ with_home r.homes.items c.args.me.now = c.in_ok-add_home.ensures.ok in
    let there : is_among homes c.args.me.now ≡ true = ap (λ l. is_among l c.args.me.now) is ∙ itself_with r.homes.items c.args.me.now in
    stored_change c.args.self.now r.division r.shards _ _ r.most c.args.shard homes r.told.items now r.buffer.items c.host.new.self (after_host c.args.me.now c.args.number New) same
    (stored_with r.division r.shards _ r.most r.homes.items homes c.args.me.now r.told.items r.buffer.items c.self.invariant is)
    c.reach.ensures.room c.requires c.reach.ensures.told
    (c.host.ensures ∙ ap (λ home. after_host home c.args.number New c.index_mut.result.now) c.in_ok-home.ensures ∙ ap (after_host c.args.me.now c.args.number New) (c.index_mut.ensures.value ∙ get_or_default now c.args.shard c.index_mut.result.now untold c.reach.ensures.reached))
    (λ slot housed. hosted_there homes c.args.me.now c.args.number New slot there housed)
