use Rattle.std.proofs.Common.{nat_eq, ap, ◌∙◌}
use Rattle.indexmap.specs.IndexMap.{insert_entry}
use Rattle.ak_coordinator.specs.Entry.{unplaced}
use Rattle.ak_coordinator.proofs.EntryLemmas.{added_keys, added_values}
use Rattle.ak_coordinator.proofs.entries.Entries.unplaced.Goals as goal

pub shards-preserved : goal.shards-preserved
shards-preserved c =
    let es = c.shards.by_shard.entries in
    let after = c.insert.new.self.entries in
    let is = c.in_ok-insert.ensures.entries ∙ ap (insert_entry nat_eq es c.shards.shard) c.unplaced.ensures in
    record {
      keys = added_keys es after c.shards.shard unplaced c.shards.invariant.keys is;
      values = added_values es after c.shards.shard unplaced c.shards.invariant.keys is c.shards.invariant.values;
    }
