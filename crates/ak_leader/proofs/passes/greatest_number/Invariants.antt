use Rattle.std.proofs.Common.{◌≡◌, max, drop}
use Rattle.std.specs.FinMap as map
use Rattle.ak_member.specs.Standing.{member_pairs, members_of}
use Rattle.ak_leader.specs.Leader.{greatest_number}
use Rattle.ak_leader.proofs.passes.greatest_number.Given as goal

-- the greatest so far, or one of the pairs that are left, is the greatest
abbrev pub invariant-pairs : goal.invariant-pairs
invariant-pairs l = max l.greatest (greatest_number (member_pairs (drop l.pair (map.entries l.members)))) ≡ greatest_number (members_of l.members)
