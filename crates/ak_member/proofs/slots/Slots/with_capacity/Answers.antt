use Rattle.ak_member.proofs.AgedSlots.{keeps_none}
use Rattle.ak_member.proofs.slots.Slots.with_capacity.Goals as goal

pub invariant_of-result : goal.invariant_of-result
invariant_of-result c = keeps_none _ _ _ _ c.in_ok-slots.ensures.empty c.in_ok-order.ensures.items c.in_ok-by_age.ensures.items
