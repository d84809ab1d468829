use Rattle.std.proofs.Common.{◌≡◌, drop}
use Rattle.std.specs.List.{list_any}
use Rattle.std.specs.FinMap as map
use Rattle.ak_downing.specs.Sides.{seen_with}
use Rattle.ak_member.specs.Standing.{member_pairs}
use Rattle.ak_reach.specs.Unreachable.{unreachable_members}
use Rattle.ak_membership.specs.Tick.{is_lost}
use Rattle.ak_membership.proofs.lost.has_lost.Given as goal

-- no member of the pairs so far is lost
abbrev pub invariant-pairs : goal.invariant-pairs
invariant-pairs l = list_any (is_lost (unreachable_members (seen_with l.members l.rows)) l.me) (member_pairs (map.entries l.members)) ≡ list_any (is_lost (unreachable_members (seen_with l.members l.rows)) l.me) (member_pairs (drop l.pair (map.entries l.members)))
