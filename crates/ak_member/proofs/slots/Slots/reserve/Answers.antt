use Rattle.std.proofs.Common.{arith}
use Rattle.ak_member.proofs.AgedSlots.{few_ages}
use Rattle.ak_member.proofs.slots.Slots.reserve.Goals as goal

pub overflow_sub-len : goal.overflow_sub-len
overflow_sub-len c =
    omega (arith, few_ages c.self.inside.slots.entries c.self.inside.by_age.items c.self.invariant.ages, c.len.ensures.len, c.len-2.ensures, c.self.inside.by_age.ok.0)
