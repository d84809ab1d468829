use Rattle.std.proofs.Common.{◌≡◌, drop}
use Rattle.ak_address.specs.Uniques.{has}
use Rattle.ak_reach.specs.Unreachable.{unreachable_members}
use Rattle.ak_reach.specs.Walk.{with_all_reported}
use Rattle.ak_reach.proofs.UnreachableLaws.{known_ones}
use Rattle.ak_reach.proofs.unreachable.unreachable_members.Given as goal

-- with those of the pairs that are left, all are there
abbrev pub invariant-pairs : goal.invariant-pairs
invariant-pairs l =
    with_all_reported (has (unreachable_members (record { standings = l.members; rows = l.rows }))) (drop l.pair (known_ones l.members)) l.them
    ≡ unreachable_members (record { standings = l.members; rows = l.rows })
