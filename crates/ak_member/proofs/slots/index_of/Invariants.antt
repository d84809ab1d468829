use Rattle.std.proofs.Common.{◌-◌, ◌≤◌, length}
use Rattle.ak_address.specs.Unique.{unique_cmp}
use Rattle.ak_address.proofs.Pairs.{IsAboveBefore, IsBelowFrom}
use Rattle.ak_member.specs.Slots.{picked}
use Rattle.ak_member.proofs.slots.index_of.Given as goal

-- the process is above the slots before the low index, and below those from the high one on
abbrev pub invariant-halves : goal.invariant-halves
invariant-halves l = record {
  in_order : l.low ≤ l.high;
  in_range : l.high ≤ length l.order;
  above : IsAboveBefore unique_cmp l.who (picked l.order l.slots.entries) l.low;
  below : IsBelowFrom unique_cmp l.who (picked l.order l.slots.entries) l.high;
}

abbrev pub decreases-halves : goal.decreases-halves
decreases-halves l = l.high - l.low
