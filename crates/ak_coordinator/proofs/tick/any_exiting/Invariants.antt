use Rattle.std.proofs.Common.{◌≡◌, drop}
use Rattle.std.specs.List.{list_any}
use Rattle.std.specs.FinMap as map
use Rattle.ak_member.specs.Standing.{member_pairs, members_of}
use Rattle.ak_coordinator.specs.Tick.{is_exiting_pair}
use Rattle.ak_coordinator.proofs.tick.any_exiting.Given as goal

-- no member before the pair is Exiting
abbrev pub invariant-pairs : goal.invariant-pairs
invariant-pairs l = list_any is_exiting_pair (member_pairs (drop l.pair (map.entries l.members))) ≡ list_any is_exiting_pair (members_of l.members)
