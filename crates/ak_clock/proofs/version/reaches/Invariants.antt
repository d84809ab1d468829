use Rattle.std.proofs.Common.{◌≡◌, ◌≤◌, drop}
use Rattle.std.specs.FinMap as map
use Rattle.ak_clock.specs.Walk.{reached}
use Rattle.ak_clock.proofs.version.reaches.Given as goal

-- what is left of both answers for all of both
abbrev pub invariant-pairs : goal.invariant-pairs
invariant-pairs l = record {
  not_after : l.j ≤ l.i;
  so_far : reached (drop l.i (map.entries l.counts)) (drop l.j (map.entries l.others)) ≡ reached (map.entries l.counts) (map.entries l.others);
}
