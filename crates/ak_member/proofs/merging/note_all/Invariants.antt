use Rattle.std.proofs.Common.{◌≡◌, drop}
use Rattle.std.specs.FinMap as map
use Rattle.ak_member.specs.Merging.{all_noted}
use Rattle.ak_member.specs.Slots.{standings_of}
use Rattle.ak_member.proofs.merging.note_all.Given as goal

-- the pairs that are left make of what is noted what all of them make
abbrev pub invariant-pairs : goal.invariant-pairs
invariant-pairs l = record {
  left : all_noted (drop l.pair (map.entries (standings_of l.other.entries))) (standings_of l.slots.entries) ≡ all_noted (map.entries (standings_of l.other.entries)) (standings_of l.fn.slots.entries);
  room : l.slots.room ≡ l.fn.slots.room;
}
