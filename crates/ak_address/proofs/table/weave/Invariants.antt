use Rattle.std.proofs.Common.{◌≡◌, ◌+◌, ◌-◌, ◌≤◌, ◌++◌, length, drop}
use Rattle.ak_address.specs.Unique.{unique_cmp}
use Rattle.ak_address.specs.Pairs.{woven}
use Rattle.ak_address.proofs.table.weave.Given as goal

-- the pairs so far, and after them what the pairs that are left are woven to
abbrev pub invariant-pairs : goal.invariant-pairs
invariant-pairs g l = record {
  in_left : l.i ≤ length l.left;
  in_right : l.j ≤ length l.right;
  woven_so_far : l.pairs.items ++ woven unique_cmp g.V.Merge.merged (drop l.i l.left) (drop l.j l.right) ≡ woven unique_cmp g.V.Merge.merged l.left l.right;
}

abbrev pub decreases-pairs : goal.decreases-pairs
decreases-pairs g l = (length l.left - l.i) + (length l.right - l.j)
