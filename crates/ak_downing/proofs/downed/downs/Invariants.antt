use Rattle.std.proofs.Common.{◌≡◌, ◌++◌, drop}
use Rattle.std.specs.FinMap as map
use Rattle.ak_reach.specs.Unreachable.{unreachable_members}
use Rattle.ak_downing.specs.Downing.{is_against, downs}
use Rattle.ak_downing.specs.Sides.{seen_with}
use Rattle.ak_downing.proofs.SideLemmas.{downed_among}
use Rattle.ak_downing.proofs.downed.downs.Given as goal

-- the effects so far, and those of the pairs that are left
abbrev pub invariant-pairs : goal.invariant-pairs
invariant-pairs l = l.effects ++ downed_among (is_against l.decision (unreachable_members (seen_with l.members l.rows)) l.me) (drop l.pair (map.entries l.members)) ≡ downs l.decision (seen_with l.members l.rows) l.me
