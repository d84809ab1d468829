use Rattle.std.proofs.Common.{◌≡◌, ◌++◌, drop}
use Rattle.std.specs.FinMap as map
use Rattle.ak_downing.proofs.SideLemmas.{downed_among}
use Rattle.ak_membership.specs.Membership.{is_beside, replaced}
use Rattle.ak_membership.proofs.members.downed_beside.Given as goal

-- the effects so far, and those of the pairs that are left
abbrev pub invariant-pairs : goal.invariant-pairs
invariant-pairs l = l.effects ++ downed_among (is_beside l.who) (drop l.pair (map.entries l.members)) ≡ replaced l.who l.members
