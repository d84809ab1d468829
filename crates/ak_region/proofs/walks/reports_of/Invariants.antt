use Rattle.std.proofs.Common.{◌≡◌, ◌++◌, drop}
use Rattle.ak_region.specs.Region.{reports_from}
use Rattle.ak_region.proofs.walks.reports_of.Given as goal

-- with those of the shards that are left, all are there
abbrev pub invariant-slots : goal.invariant-slots
invariant-slots l = l.reports.items ++ reports_from l.shard (drop l.shard l.slots) ≡ reports_from 0 l.slots
