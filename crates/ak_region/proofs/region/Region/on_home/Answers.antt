use Rattle.std.proofs.Common.{◌≡◌, true, slice_index_or, sym, ap, ◌∙◌}
use Rattle.std.proofs.lemmas.List.{get_or_default}
use Rattle.ak_region.specs.Slot.{untold, is_known_at, at_home}
use Rattle.ak_region.specs.Region.{slot_of}
use Rattle.ak_region.specs.Housed.{is_among, with_home}
use Rattle.ak_region.proofs.StoredLemmas.{at_all, kept_as, slot_changed}
use Rattle.ak_region.proofs.EmptyLemmas.{known_home_stays}
use Rattle.ak_region.proofs.HousedLemmas.{itself_with, stored_with, stored_change}
use Rattle.ak_region.proofs.region.Region.on_home.Goals as goal

pub returns-clause-ok : goal.returns-clause-ok
returns-clause-ok c =
    let r = c.self.inside in
    let now = c.reach.new.told.items in
    let same : kept_as r.division r.shards r.told.items r.buffer.items r.most ≡ c.args.self.now = search in
    slot_changed c.args.self.now r.division r.shards r.told.items now r.buffer.items r.most c.args.shard c.set_home.new.self (at_home c.args.owner.now) same c.self.invariant.fits c.requires c.reach.ensures.told
    (c.set_home.ensures ∙ ap (λ home. at_home home c.index_mut.result.now) c.in_ok-home.ensures ∙ ap (at_home c.args.owner.now) (c.index_mut.ensures.value ∙ get_or_default now c.args.shard c.index_mut.result.now untold c.reach.ensures.reached))

pub invariant_of-self-2 : goal.invariant_of-self-2
invariant_of-self-2 c =
    let r = c.self.inside in
    let now = c.reach.new.told.items in
    let same : kept_as r.division r.shards r.told.items r.buffer.items r.most ≡ c.args.self.now = search in
    let homes = c.add_home.new.homes.items in
    let is : homes ≡ with_home r.homes.items c.args.owner.now = c.in_ok-add_home.ensures.ok in
    let there : is_among homes c.args.owner.now ≡ true = ap (λ l. is_among l c.args.owner.now) is ∙ itself_with r.homes.items c.args.owner.now in
    stored_change c.args.self.now r.division r.shards _ _ r.most c.args.shard homes r.told.items now r.buffer.items c.set_home.new.self (at_home c.args.owner.now) same
    (stored_with r.division r.shards _ r.most r.homes.items homes c.args.owner.now r.told.items r.buffer.items c.self.invariant is)
    c.reach.ensures.room c.requires c.reach.ensures.told
    (c.set_home.ensures ∙ ap (λ home. at_home home c.index_mut.result.now) c.in_ok-home.ensures ∙ ap (at_home c.args.owner.now) (c.index_mut.ensures.value ∙ get_or_default now c.args.shard c.index_mut.result.now untold c.reach.ensures.reached))
    (λ slot _. there)

pub returns-then-is_known_at-clause-ok : goal.returns-then-is_known_at-clause-ok
returns-then-is_known_at-clause-ok c =
    let r = c.self.inside in
    known_home_stays c.args.self.now c.args.shard c.args.owner.now (ap (is_known_at c.args.owner.now) (ap (λ region. slot_of region c.args.shard) (sym c.self.view_is) ∙ at_all r.shards r.told.items c.args.shard) ∙ ap (λ told. is_known_at c.args.owner.now (slice_index_or told c.args.shard untold)) (sym c.deref.ensures.value) ∙ sym c.is_known_at.ensures ∙ c.if-is_known_at.true)
