use Rattle.std.proofs.Common.{◌≡◌, ◌+◌, ◌≤◌, length, drop}
use Rattle.std.specs.List.{filter}
use Rattle.ak_coordinator.specs.Entry.{moves}
use Rattle.ak_coordinator.proofs.tick.moving.Given as goal

-- with those that are left, all are counted
abbrev pub invariant-shards : goal.invariant-shards
invariant-shards l = record {
  counted : l.moving + length (filter moves (drop l.shard l.entries)) ≡ length (filter moves l.entries);
  small : l.moving ≤ l.shard;
}
