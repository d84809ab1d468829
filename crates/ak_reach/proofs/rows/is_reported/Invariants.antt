use Rattle.std.proofs.Common.{◌≡◌, drop}
use Rattle.std.specs.List.{list_any}
use Rattle.std.specs.FinMap as map
use Rattle.ak_address.specs.Uniques.{in_order}
use Rattle.ak_reach.specs.Reach.{row_has, reported}
use Rattle.ak_reach.proofs.rows.is_reported.Given as goal

-- what the observers that are left say, all say
abbrev pub invariant-observers : goal.invariant-observers
invariant-observers l = list_any (λ observer. row_has (map.get l.rows observer) l.subject) (drop l.index (in_order l.observers)) ≡ reported l.rows l.observers l.subject
