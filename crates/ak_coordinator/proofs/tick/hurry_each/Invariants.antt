use Rattle.std.proofs.Common.{◌≡◌, ◌++◌, map, take, drop}
use Rattle.ak_coordinator.specs.Tick.{hurried}
use Rattle.ak_coordinator.proofs.tick.hurry_each.Given as goal

-- those before the shard are changed
abbrev pub invariant-shards : goal.invariant-shards
invariant-shards l = l.entries ≡ map hurried (take l.shard l.initial.entries) ++ drop l.shard l.initial.entries
