use Rattle.std.proofs.Common.{◌≡◌, drop}
use Rattle.std.specs.FinMap as map
use Rattle.std.specs.List.{list_any}
use Rattle.ak_member.specs.Standing.{member_pairs}
use Rattle.ak_membership.specs.Membership.{has_member_beside, is_beside}
use Rattle.ak_membership.proofs.members.has_member_beside.Given as goal

-- no member of the pairs so far is there
abbrev pub invariant-pairs : goal.invariant-pairs
invariant-pairs l = has_member_beside l.who l.members ≡ list_any (λ m. is_beside l.who m.0) (member_pairs (drop l.pair (map.entries l.members)))
