use Rattle.std.proofs.Common.{◌≡◌, ◌+◌, ◌-◌, ◌≤◌, max, ◌++◌, length, replicate}
use Rattle.std.specs.Prelude.{vec_capacity}
use Rattle.ak_region.specs.Slot.{untold}
use Rattle.ak_region.proofs.told.reach.Given as goal

-- as many slots as the shards before this one
abbrev pub invariant-shards : goal.invariant-shards
invariant-shards l = record {
  told : l.told.items ≡ l.initial.told.items ++ replicate (l._shard - length l.initial.told.items) untold;
  many : length l.initial.told.items ≤ l._shard;
  within : l._shard ≤ max (l.shard + 1) (length l.initial.told.items);
  room : vec_capacity l.told ≡ vec_capacity l.initial.told;
}
