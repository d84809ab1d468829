use Rattle.std.proofs.Common.{◌≡◌, drop, map}
use Rattle.std.specs.FinMap as finmap
use Rattle.ak_sight.specs.Counted.{mark}
use Rattle.ak_sight.proofs.count.counts_alike.Given as goal

-- the marks are the same where those that are left are
abbrev pub invariant-pairs : goal.invariant-pairs
invariant-pairs l = map mark (drop l.pair (finmap.entries l.other)) ≡ map mark (drop l.pair (finmap.entries l.one)) → map mark (finmap.entries l.other) ≡ map mark (finmap.entries l.one)
