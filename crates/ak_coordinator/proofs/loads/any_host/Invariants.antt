use Rattle.std.proofs.Common.{◌≡◌, drop}
use Rattle.std.specs.List.{list_any}
use Rattle.std.specs.FinMap as map
use Rattle.ak_member.specs.Standing.{member_pairs, members_of}
use Rattle.ak_coordinator.specs.Coordinator.{may_host}
use Rattle.ak_coordinator.proofs.loads.any_host.Given as goal

-- no member before the pair may host
abbrev pub invariant-pairs : goal.invariant-pairs
invariant-pairs l = list_any (may_host l.granted) (member_pairs (drop l.pair (map.entries l.members))) ≡ list_any (may_host l.granted) (members_of l.members)
