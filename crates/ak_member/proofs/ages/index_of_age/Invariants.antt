use Rattle.std.proofs.Common.{◌-◌, ◌≤◌, length}
use Rattle.ak_address.proofs.Pairs.{IsAboveBefore, IsBelowFrom}
use Rattle.ak_member.specs.Ages.{age_cmp, key_at, keyed}
use Rattle.ak_member.proofs.ages.index_of_age.Given as goal

-- the number and the process are above the slots before the low index, and below those from the high one on
abbrev pub invariant-halves : goal.invariant-halves
invariant-halves l = record {
  in_order : l.low ≤ l.high;
  in_range : l.high ≤ length l.by_age;
  above : IsAboveBefore age_cmp (l.number, l.who) (keyed (key_at l.slots.entries) l.by_age) l.low;
  below : IsBelowFrom age_cmp (l.number, l.who) (keyed (key_at l.slots.entries) l.by_age) l.high;
}

abbrev pub decreases-halves : goal.decreases-halves
decreases-halves l = l.high - l.low
