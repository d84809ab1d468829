use Rattle.std.proofs.Common.{◌≡◌, drop}
use Rattle.std.specs.List.{list_all}
use Rattle.std.specs.FinMap as map
use Rattle.ak_member.specs.Standing.{member_pairs}
use Rattle.ak_reach.specs.Unreachable.{unreachable_members}
use Rattle.ak_converge.specs.Convergence.{agrees, is_converged}
use Rattle.ak_converge.proofs.converge.all_agree.Given as goal

-- all agree where those of the pairs that are left do
abbrev pub invariant-pairs : goal.invariant-pairs
invariant-pairs l =
    list_all (agrees (unreachable_members (record { standings = l.members; rows = l.rows })) l.seen) (member_pairs (drop l.pair (map.entries l.members)))
    ≡ is_converged (record { standings = l.members; rows = l.rows }) l.seen
