use Rattle.std.proofs.Common.{◌≡◌, drop}
use Rattle.std.specs.List.{fold}
use Rattle.std.specs.FinMap as map
use Rattle.ak_address.specs.Uniques.{no_one, with_one}
use Rattle.ak_settled.specs.Settled.{standings_of}
use Rattle.ak_singleton.proofs.NeededLemmas.{kept_but}
use Rattle.ak_singleton.proofs.needed.needed_but.Given as goal

-- with those that are left, all are there
abbrev pub invariant-pairs : goal.invariant-pairs
invariant-pairs l =
    let pairs = map.entries (standings_of l.settled.view) in
    fold with_one l.them (kept_but l.margin l.settled.view l.others (drop l.pair pairs)) ≡ fold with_one no_one (kept_but l.margin l.settled.view l.others pairs)
