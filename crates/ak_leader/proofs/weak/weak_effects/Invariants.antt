use Rattle.std.proofs.Common.{◌≡◌, ◌++◌, drop}
use Rattle.std.specs.FinMap as map
use Rattle.ak_reach.specs.Unreachable.{unreachable_members}
use Rattle.ak_leader.specs.Leader.{weak_effects}
use Rattle.ak_leader.proofs.WeakLaws.{let_in_among}
use Rattle.ak_leader.proofs.weak.weak_effects.Given as goal

-- the effects so far, and those of the pairs that are left
abbrev pub invariant-pairs : goal.invariant-pairs
invariant-pairs l =
    l.effects ++ let_in_among (unreachable_members (record { standings = l.members; rows = l.rows })) (drop l.pair (map.entries l.members)) ≡ weak_effects (record { standings = l.members; rows = l.rows })
