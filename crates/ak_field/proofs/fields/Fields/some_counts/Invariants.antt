use Rattle.std.proofs.Common.{None}
use Rattle.std.specs.FinMap as map
use Rattle.ak_field.specs.Reading.{items_at}
use Rattle.ak_field.specs.Lists.{counted_at}
use Rattle.ak_field.proofs.Items.{Reached}
use Rattle.ak_field.proofs.fields.Fields.some_counts.Given as goal

abbrev pub invariant-counts : goal.invariant-counts
invariant-counts l = Reached counted_at (map.entries l.version) l.many l.counter l.self (items_at counted_at None l.many l.fn.self)
