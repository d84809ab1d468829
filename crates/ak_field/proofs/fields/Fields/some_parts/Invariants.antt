use Rattle.std.proofs.Common.{None}
use Rattle.ak_field.specs.Reading.{items_at}
use Rattle.ak_field.specs.Parts.{part_at}
use Rattle.ak_field.proofs.Items.{Reached}
use Rattle.ak_field.proofs.fields.Fields.some_parts.Given as goal

abbrev pub invariant-parts : goal.invariant-parts
invariant-parts l = Reached (part_at l.many) l.parts l.many l.counter l.self (items_at (part_at l.many) None l.many l.fn.self)
