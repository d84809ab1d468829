use Rattle.std.proofs.Common.{◌≡◌, ◌+◌, ◌≤◌, length, drop}
use Rattle.std.specs.List.{filter}
use Rattle.ak_address.specs.Unique.{UniqueModel}
use Rattle.ak_address.specs.Counters.{counter}
use Rattle.ak_coordinator.specs.Entry.{is_at}
use Rattle.ak_coordinator.proofs.loads.homes_in.Given as goal

-- with those that are left, all are counted
abbrev pub invariant-shards : goal.invariant-shards
invariant-shards l = record {
  counted : (who : UniqueModel) → counter l.counts who + length (filter (is_at who) (drop l.shard l.entries)) ≡ length (filter (is_at who) l.entries);
  small : (who : UniqueModel) → counter l.counts who ≤ l.shard;
}
