use Rattle.std.proofs.Common.{◌-◌, min, slice_get, ap, ◌∙◌, arith}
use Rattle.std.specs.FinMap as map
use Rattle.std.specs.HashMap.{spare}
use Rattle.indexmap.proofs.CallerLemmas.{index_map_len-with_value_at}
use Rattle.ak_member.specs.Slots.{SlotsModel, standings_of}
use Rattle.ak_member.proofs.SlotLemmas.{in_order_set, slot_set}
use Rattle.ak_member.proofs.AgeLemmas.{but_for_written}
use Rattle.ak_member.proofs.slots.Slots.set.Goals as goal

pub enter-requires-clause-left : goal.enter-requires-clause-left
enter-requires-clause-left c = but_for_written c.self.inside.slots.entries c.args.slot c.args.standing c.leave.new.by_age.items c.leave.ensures.left

pub enter-requires-clause-room : goal.enter-requires-clause-room
enter-requires-clause-room c =
    let same = index_map_len-with_value_at c.self.inside.slots c.args.slot c.args.standing in omega (arith, same, c.self.invariant.roomy, c.leave.ensures.room)

pub invariant_of-self : goal.invariant_of-self
invariant_of-self c =
    let e = c.pair_mut-known.ensures in
    let same = index_map_len-with_value_at c.self.inside.slots c.args.slot c.args.standing in
    record {
      in_order = in_order_set c.self.inside.slots c.args.slot c.args.standing e.unique _ _ e.value c.self.inside.order.items c.self.invariant.in_order;
      ages = c.enter.ensures.all;
      roomy = omega (arith, same, c.self.invariant.roomy, c.leave.ensures.room, c.enter.ensures.room);
    }

pub returns-clause-known : goal.returns-clause-known
returns-clause-known c who x at =
    slot_set c.self.inside.slots c.args.slot c.args.standing c.pair_mut-known.ensures.unique who x (ap (λ (s : SlotsModel). slice_get s.entries c.args.slot) c.self.view_is ∙ at)
    ∙ ap (λ (s : SlotsModel). map.insert (standings_of s.entries) who c.args.standing) c.self.view_is

pub returns-clause-room : goal.returns-clause-room
returns-clause-room c =
    let same = index_map_len-with_value_at c.self.inside.slots c.args.slot c.args.standing in
    let kept = c.enter.ensures.room ∙ c.leave.ensures.room in
    (λ i. min (spare c.self.inside.slots) (min (c.self.inside.order.cap - c.self.inside.order.len) (kept i - same i))) ∙ ap (λ (s : SlotsModel). s.room) c.self.view_is
