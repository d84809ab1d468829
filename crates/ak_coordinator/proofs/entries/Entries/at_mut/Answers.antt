use Rattle.std.proofs.Common.{refl, sym, ap, ◌∙◌, set, slice_get}
use Rattle.std.specs.List.{range_with_len}
use Rattle.indexmap.proofs.CallerLemmas.{keys-with_value_at, index_map_len-with_value_at}
use Rattle.ak_coordinator.proofs.EntryLemmas.{values_written, entry_is}
use Rattle.ak_coordinator.proofs.entries.Entries.at_mut.Goals as goal

pub invariant_of-self-lent : goal.invariant_of-self-lent
invariant_of-self-lent c w =
    keys-with_value_at c.self.inside.by_shard c.args.shard w
    ∙ c.self.invariant
    ∙ ap (range_with_len 0) (sym (index_map_len-with_value_at c.self.inside.by_shard c.args.shard w))

pub returns : goal.returns
returns c = (
  (
    refl,
    λ w. values_written c.self.inside.by_shard.entries c.args.shard w ∙ ap (λ table. set table c.args.shard w) c.self.view_is,
  ),
  record { writes_back = tt; value = entry_is c.args.self.now c.args.shard c.index_mut.result.now (ap (λ table. slice_get table c.args.shard) (sym c.self.view_is) ∙ c.index_mut.ensures.value) },
)
