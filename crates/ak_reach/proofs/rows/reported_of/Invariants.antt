use Rattle.std.proofs.Common.{◌≡◌, drop}
use Rattle.ak_address.specs.Uniques.{no_one, in_order}
use Rattle.ak_reach.specs.Reach.{reported}
use Rattle.ak_reach.specs.Walk.{with_all_reported}
use Rattle.ak_reach.proofs.rows.reported_of.Given as goal

-- with those that are left, all are there
abbrev pub invariant-subjects : goal.invariant-subjects
invariant-subjects l =
    with_all_reported (reported l.rows l.observers) (drop l.index (in_order l.subjects)) l.them
    ≡ with_all_reported (reported l.rows l.observers) (in_order l.subjects) no_one
