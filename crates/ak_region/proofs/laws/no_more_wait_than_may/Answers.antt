use Rattle.std.proofs.Common.{ℕ, Bool, true, false, not, ◌≤◌, List, length, cond, arith}
use Rattle.std.proofs.lemmas.List.Filters.{length-filter_both}
use Rattle.std.proofs.Common.{refl}
use Rattle.ak_shard_id.specs.Division.{DivisionModel}
use Rattle.ak_region.specs.RegionModel.{Message}
use Rattle.ak_region.specs.Slot.{can_flush}
use Rattle.ak_region.specs.Region.{slot_of, is_for, others_than_for}
use Rattle.ak_region.proofs.laws.no_more_wait_than_may.Goals as goal

shorter : (division : DivisionModel) (shard : ℕ) (messages : List Message) → length (others_than_for division shard messages) ≤ length messages
shorter division shard messages =
    let both = length-filter_both (is_for division shard) (λ m. not (is_for division shard m)) (λ m. refl) messages in
    omega arith

either : (b : Bool) (division : DivisionModel) (shard most : ℕ) (messages : List Message) → length messages ≤ most → length (cond b (others_than_for division shard messages) messages) ≤ most
either true division shard most messages le = let s = shorter division shard messages in omega arith
either false division shard most messages le = le

pub returns-clause-flushed : goal.returns-clause-flushed
returns-clause-flushed c me shard region le = either (can_flush me (slot_of region shard)) region.division shard region.most region.messages le
