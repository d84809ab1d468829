use Rattle.std.proofs.Common.{◌≡◌, ◌≤◌, drop, length, reverse}
use Rattle.std.specs.FinMap as map
use Rattle.ak_member.specs.Merging.{unknown}
use Rattle.ak_member.specs.Slots.{standings_of}
use Rattle.ak_member.proofs.merging.unknown_of.Given as goal

-- the unknown ones from the pair on, the last first
abbrev pub invariant-pairs : goal.invariant-pairs
invariant-pairs l = record {
  in_range : l.pair ≤ length (map.entries (standings_of l.other.entries));
  so_far : reverse l.new.items ≡ unknown (standings_of l.slots.entries) (drop l.pair (map.entries (standings_of l.other.entries)));
}

abbrev pub decreases-pairs : goal.decreases-pairs
decreases-pairs l = l.pair
