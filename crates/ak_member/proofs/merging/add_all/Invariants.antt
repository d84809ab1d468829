use Rattle.std.proofs.Common.{◌≡◌, ◌++◌, length, reverse}
use Rattle.ak_member.specs.Merging.{CanBeAdded}
use Rattle.ak_member.specs.Slots.{standings_of}
use Rattle.ak_member.proofs.merging.add_all.Given as goal

-- those that are left can be added, and are the last of all
abbrev pub invariant-new : goal.invariant-new
invariant-new l = record {
  can : CanBeAdded (standings_of l.slots.entries) l.slots.room (reverse l.left.items);
  all : l.slots.entries ++ reverse l.left.items ≡ l.fn.slots.entries ++ reverse l.fn.new.items;
}

abbrev pub decreases-new : goal.decreases-new
decreases-new l = length l.left.items
