use Rattle.std.proofs.Common.{◌≡◌, drop}
use Rattle.std.specs.FinMap as map
use Rattle.ak_address.specs.Unique.{unique_cmp}
use Rattle.ak_address.proofs.table.value_along.Given as goal

-- the process is none of those so far
abbrev pub invariant-entries : goal.invariant-entries
invariant-entries g l = map.find unique_cmp l.who l.entries ≡ map.find unique_cmp l.who (drop l.entry-index l.entries)
