use Rattle.std.proofs.Common.{arith}
use Rattle.ak_region.specs.Slot.{without_stranger}
use Rattle.ak_shard_id.proofs.Walks.{written}
use Rattle.ak_region.proofs.walks.forget_strangers.Goals as goal

pub slots-preserved : goal.slots-preserved
slots-preserved c =
    written (without_stranger c.args.members.now) _ c.slots.slot-index c.slots.slots c.slot-item.result _ (omega arith) c.slots.invariant c.forget.ensures
