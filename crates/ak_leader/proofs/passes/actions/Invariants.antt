use Rattle.std.proofs.Common.{◌≡◌, ◌++◌, drop}
use Rattle.std.specs.FinMap as map
use Rattle.ak_member.specs.Standing.{member_pairs}
use Rattle.ak_reach.specs.Unreachable.{unreachable_members}
use Rattle.ak_leader.specs.Leader.{all_led, leaders_effects}
use Rattle.ak_leader.proofs.passes.actions.Given as goal

-- with those of the pairs that are left, all effects are there
abbrev pub invariant-pairs : goal.invariant-pairs
invariant-pairs l =
    l.effects ++ all_led (unreachable_members (record { standings = l.members; rows = l.rows })) l.confirmed l.number (member_pairs (drop l.pair (map.entries l.members)))
    ≡ leaders_effects (record { standings = l.members; rows = l.rows }) l.confirmed
