use Rattle.std.proofs.Common.{ap, ◌∙◌, arith}
use Rattle.ak_shard_id.proofs.Walks.{written}
use Rattle.ak_coordinator.specs.Entry.{unplaced}
use Rattle.ak_coordinator.specs.Tick.{hurried}
use Rattle.ak_coordinator.proofs.tick.hurry_each.Goals as goal

pub shards-preserved : goal.shards-preserved
shards-preserved c = written hurried _ c.shards.shard c.shards.entries unplaced _ (omega arith) c.shards.invariant (c.hurry.ensures ∙ ap hurried c.at_mut.ensures.value)
