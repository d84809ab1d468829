use Rattle.std.proofs.Common.{◌≡◌, drop, Some}
use Rattle.std.specs.List.{list_any}
use Rattle.ak_address.specs.Uniques.{in_order}
use Rattle.ak_generate.specs.Generated.{is_at, is_in_use}
use Rattle.ak_generate.proofs.event.is_in_use.Given as goal

-- those that are left decide
abbrev pub invariant-running : goal.invariant-running
invariant-running l = list_any (λ who. is_at l.at (Some who)) (drop l.index (in_order l.running)) ≡ is_in_use l.at l.running
