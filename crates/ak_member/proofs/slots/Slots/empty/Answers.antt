use Rattle.ak_member.proofs.AgedSlots.{keeps_none}
use Rattle.ak_member.proofs.slots.Slots.empty.Goals as goal

pub invariant_of-result : goal.invariant_of-result
invariant_of-result c = keeps_none _ _ _ _ c.new.ensures.empty c.new-2.ensures.items c.new-3.ensures.items
