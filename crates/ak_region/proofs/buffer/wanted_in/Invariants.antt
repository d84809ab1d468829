use Rattle.std.proofs.Common.{◌≡◌, ℕ, false, ◌<◌, ◌||◌, ◌==◌, length, take, get_or}
use Rattle.std.specs.List.{list_any}
use Rattle.ak_region.specs.Slot.{untold, receives}
use Rattle.ak_region.specs.Stored.{all_slots}
use Rattle.ak_region.specs.Turns.{wanted_among}
use Rattle.ak_region.proofs.buffer.wanted_in.Given as goal

-- passed over are the shards that receive and those that were found
abbrev pub invariant-messages : goal.invariant-messages
invariant-messages l = record {
  many : length l.passed.items ≡ length (all_slots l.shards l.told);
  passed : (shard : ℕ) → shard < length (all_slots l.shards l.told) → get_or l.passed.items shard false ≡ (receives (get_or (all_slots l.shards l.told) shard untold) || list_any (λ n. n == shard) l.wanted.items);
  found : l.wanted.items ≡ wanted_among l.division (all_slots l.shards l.told) (take l.index l.buffer.items);
}
