use Rattle.std.proofs.Common.{None}
use Rattle.ak_field.specs.Reading.{items_at}
use Rattle.ak_field.specs.Parts.{index_at}
use Rattle.ak_field.proofs.Items.{Reached}
use Rattle.ak_field.proofs.fields.Fields.some_indices.Given as goal

abbrev pub invariant-list : goal.invariant-list
invariant-list l = Reached (index_at l.many) l.list l.length l.counter l.self (items_at (index_at l.many) None l.length l.fn.self)
