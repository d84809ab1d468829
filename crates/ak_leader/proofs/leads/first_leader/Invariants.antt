use Rattle.std.proofs.Common.{◌≡◌, drop}
use Rattle.std.specs.FinMap as map
use Rattle.ak_member.specs.Standing.{member_pairs}
use Rattle.ak_reach.specs.Unreachable.{unreachable_members}
use Rattle.ak_leader.specs.Leader.{may_lead, leader}
use Rattle.ak_leader.proofs.LeaderLaws.{first_of}
use Rattle.ak_leader.proofs.leads.first_leader.Given as goal

-- the first of the pairs that are left leads
abbrev pub invariant-pairs : goal.invariant-pairs
invariant-pairs l =
    first_of (may_lead (unreachable_members (record { standings = l.members; rows = l.rows }))) (member_pairs (drop l.pair (map.entries l.members)))
    ≡ leader (record { standings = l.members; rows = l.rows })
