use Rattle.std.proofs.Common.{◌≡◌}
use Rattle.std.specs.FinMap as map
use Rattle.ak_downing.proofs.SideLemmas.{first_left}
use Rattle.ak_downing.proofs.side.first_counted.Given as goal

-- the first of the pairs that are left is the first of all
abbrev pub invariant-pairs : goal.invariant-pairs
invariant-pairs l = first_left l.role (map.entries l.members) l.pair ≡ first_left l.role (map.entries l.members) 0
