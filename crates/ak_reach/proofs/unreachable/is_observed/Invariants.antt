use Rattle.std.proofs.Common.{◌≡◌, drop}
use Rattle.std.specs.List.{list_any}
use Rattle.std.specs.FinMap as map
use Rattle.ak_reach.specs.Walk.{row_shows}
use Rattle.ak_reach.proofs.unreachable.is_observed.Given as goal

-- what the rows that are left say, all say
abbrev pub invariant-rows : goal.invariant-rows
invariant-rows l = list_any (row_shows l.members l.who) (drop l.index (map.entries l.rows)) ≡ list_any (row_shows l.members l.who) (map.entries l.rows)
