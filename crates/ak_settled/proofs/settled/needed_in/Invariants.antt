use Rattle.std.proofs.Common.{◌≡◌, drop}
use Rattle.std.specs.List.{fold}
use Rattle.std.specs.FinMap as map
use Rattle.ak_address.specs.Uniques.{no_one, with_one}
use Rattle.ak_settled.specs.Settled.{needed_pairs}
use Rattle.ak_settled.specs.Ticks.{counts_of}
use Rattle.ak_settled.proofs.settled.needed_in.Given as goal

-- with those that are left, all are there
abbrev pub invariant-pairs : goal.invariant-pairs
invariant-pairs l =
    fold with_one l.them (needed_pairs l.margin (counts_of l.counters) (drop l.pair (map.entries l.members))) ≡ fold with_one no_one (needed_pairs l.margin (counts_of l.counters) (map.entries l.members))
