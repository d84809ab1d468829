use Rattle.std.proofs.Common.{◌≡◌, replicate}
use Rattle.std.specs.List.{range_with_len}
use Rattle.indexmap.specs.IndexMap.{keys, values}
use Rattle.ak_coordinator.specs.Entry.{unplaced}
use Rattle.ak_coordinator.proofs.entries.Entries.unplaced.Given as goal

-- the shards before this one are there
abbrev pub invariant-shards : goal.invariant-shards
invariant-shards l = record {
  keys : keys l.by_shard ≡ range_with_len 0 l.shard;
  values : values l.by_shard ≡ replicate l.shard unplaced;
}
