use Rattle.std.proofs.Common.{drop}
use Rattle.ak_allocation.specs.Allocation.{first_of, IsIndexOf}
use Rattle.ak_allocation.proofs.allocation.first_by.Given as goal

-- the first one of those that were passed is found: these are the rest of the list, since the loop begins at its end
abbrev pub invariant-loads : goal.invariant-loads
invariant-loads l = IsIndexOf l.loads l.first (first_of l.side (drop l.index l.loads))
