use Rattle.std.proofs.Common.{◌≡◌, map, sym, ap, subst, ◌∙◌}
use Rattle.std.specs.List.{list_all, filter}
use Rattle.ak_member.specs.Standing.{is_member}
use Rattle.ak_region.specs.Slot.{without_stranger}
use Rattle.ak_region.specs.Stored.{IsStored}
use Rattle.ak_region.proofs.StoredLemmas.{kept_as, strangers_gone}
use Rattle.ak_region.proofs.HomesWalk.{left_whole}
use Rattle.ak_region.proofs.HousedLemmas.{nothing_forgotten, stored_forgotten}
use Rattle.ak_region.proofs.region.Region.forget.Goals as goal

pub returns : goal.returns
returns c =
    let r = c.self.inside in
    let same : kept_as r.division r.shards r.told.items r.buffer.items r.most ≡ c.args.self.now = search in
    strangers_gone c.args.members.now c.args.self.now r.division r.shards r.told.len r.told.items c.forget_strangers.new.slots r.buffer.items r.most same r.told.ok.0
    (c.forget_strangers.ensures ∙ ap (map (without_stranger c.args.members.now)) c.deref_mut-2.ensures.value)

pub returns-then-are_members : goal.returns-then-are_members
returns-then-are_members c =
    let r = c.self.inside in
    let same : kept_as r.division r.shards r.told.items r.buffer.items r.most ≡ c.args.self.now = search in
    same
    ∙ nothing_forgotten c.args.members.now c.args.self.now r.division r.shards _ r.most r.homes.items r.told.items r.buffer.items same c.self.invariant
    (ap (list_all (is_member c.args.members.now)) (sym c.deref_mut.ensures.value) ∙ sym c.if-are_members.ensures.value)

-- the walk leaves the homes as they are
pub invariant_of-self : goal.invariant_of-self
invariant_of-self c =
    let r = c.self.inside in
    subst (λ homes. IsStored r.division r.shards r.told.cap r.most homes r.told.items r.buffer.items)
    (sym (left_whole r.homes.len r.homes.items c.are_members.new.homes r.homes.ok.0 (c.are_members.ensures.same ∙ c.deref_mut.ensures.value))) c.self.invariant

pub invariant_of-self-2 : goal.invariant_of-self-2
invariant_of-self-2 c =
    let r = c.self.inside in
    stored_forgotten c.args.members.now r.division r.shards _ r.most r.told.len r.homes.items c.keep_members.new.homes.items r.told.items c.forget_strangers.new.slots r.buffer.items c.self.invariant r.told.ok.0
    (c.forget_strangers.ensures ∙ ap (map (without_stranger c.args.members.now)) c.deref_mut-2.ensures.value)
    (c.keep_members.ensures ∙ ap (filter (is_member c.args.members.now))
    (left_whole r.homes.len r.homes.items c.are_members.new.homes r.homes.ok.0 (c.are_members.ensures.same ∙ c.deref_mut.ensures.value)))
