use Rattle.std.proofs.Common.{◌≡◌, drop}
use Rattle.std.specs.List.{fold}
use Rattle.std.specs.FinMap as map
use Rattle.ak_settled.specs.Settled.{unconfirmed_pairs, unconfirmed}
use Rattle.ak_settled.specs.Ticks.{counts_of, with_unmarked}
use Rattle.ak_settled.proofs.settled.counters_for.Given as goal

-- with those that are left, all are there
abbrev pub invariant-pairs : goal.invariant-pairs
invariant-pairs l =
    fold (with_unmarked (counts_of l.before)) l.counters (unconfirmed_pairs (drop l.pair (map.entries l.members))) ≡ fold (with_unmarked (counts_of l.before)) map.empty (unconfirmed l.members)
