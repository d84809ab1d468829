-- What the entries end as, once a `&mut` to one of them has ended.
use Rattle.std.specs.Prelude.{ℕ}
use Rattle.std.specs.Borrow.{Lends, MutBor, Fml}
use Rattle.ak_coordinator.specs.Table.{ShardEntry, ShardTable}
use Rattle.ak_coordinator.specs.Coordinator.{with_entry}
use Rattle.ak_coordinator.specs.contracts.entries.Entries as entries
use Rattle.ak_coordinator.specs.contracts.entry.Entry as entry

-- the shard has what was last written through r, and the others stay as they are
abbrev pub LendsEntry : MutBor ShardTable → ℕ → MutBor ShardEntry → Fml
LendsEntry table shard r = Lends entries.the_row entry.the_row table r (with_entry table.now shard)
