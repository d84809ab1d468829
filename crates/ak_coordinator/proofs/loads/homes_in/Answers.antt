use Rattle.std.proofs.Common.{arith}
use Rattle.ak_coordinator.proofs.LoadLemmas.{counted_none, counted_next, counted_few}
use Rattle.ak_coordinator.proofs.EntryLemmas.{entry_there}
use Rattle.ak_coordinator.proofs.loads.homes_in.Goals as goal

pub shards-init : goal.shards-init
shards-init c = record {
  counted = λ who. let none = counted_none c.empty-counts.result c.empty-counts.ensures who in omega arith;
  small = λ who. let none = counted_none c.empty-counts.result c.empty-counts.ensures who in omega arith;
}

pub shards-preserved : goal.shards-preserved
shards-preserved c = record {
  counted = λ who. counted_next c.args.entries.now c.shards.shard c.at.result.now (entry_there c.args.entries.now c.shards.shard c.at.result.now (omega arith) c.at.ensures) c.shards.counts c.count_home.new.counts c.in_ok-count_home.ensures who _ (c.shards.invariant.counted who);
  small = λ who. counted_few c.shards.counts c.count_home.new.counts c.at.result.now c.in_ok-count_home.ensures who c.shards.shard (c.shards.invariant.small who);
}
