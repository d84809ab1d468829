use Rattle.std.proofs.Common.{◌≡◌, drop}
use Rattle.std.specs.List.{fold, filter}
use Rattle.ak_address.specs.Uniques.{no_one, with_one, in_order}
use Rattle.ak_coordinator.specs.Tick.{is_unfinished}
use Rattle.ak_coordinator.proofs.tick.unfinished.Given as goal

-- with those that are left, all are there
abbrev pub invariant-whos : goal.invariant-whos
invariant-whos l =
    fold with_one l.left (filter (is_unfinished l.margin l.settled.view) (drop l.index (in_order l.whos))) ≡ fold with_one no_one (filter (is_unfinished l.margin l.settled.view) (in_order l.whos))
