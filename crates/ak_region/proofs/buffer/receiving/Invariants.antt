use Rattle.std.proofs.Common.{◌≡◌, ◌-◌, ◌≤◌, ◌++◌, false, length, map, replicate, take}
use Rattle.ak_region.specs.Slot.{receives}
use Rattle.ak_region.proofs.buffer.receiving.Given as goal

abbrev pub invariant-told : goal.invariant-told
invariant-told l = l.passed.items ≡ map receives (take l.slot-index l.told)

-- those that were told of, and then those before this shard
abbrev pub invariant-untold : goal.invariant-untold
invariant-untold l = record {
  passed : l.passed.items ≡ map receives l.told ++ replicate (l._shard - length l.told) false;
  many : length l.told ≤ l._shard;
  within : l._shard ≤ l.shards;
}
