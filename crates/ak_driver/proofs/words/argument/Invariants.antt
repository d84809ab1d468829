use Rattle.std.proofs.Common.{◌≤◌, ◌^◌, ◌-◌}
use Rattle.ak_driver.proofs.words.argument.Given as goal

-- a size of nothing would not grow where it is doubled
abbrev pub invariant-sizes : goal.invariant-sizes
invariant-sizes g l = 1 ≤ l.size

-- a buffer has fewer bytes than there are numbers
abbrev pub decreases-sizes : goal.decreases-sizes
decreases-sizes g l = 2 ^ 64 - l.size
