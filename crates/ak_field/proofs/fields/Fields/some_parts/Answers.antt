use Rattle.std.proofs.Common.{None}
use Rattle.std.proofs.lemmas.Result.{err_from_is_err_and}
use Rattle.ak_field.specs.Reading.{items_at}
use Rattle.ak_field.specs.Parts.{part_at}
use Rattle.ak_field.proofs.Items.{goes_on, ends, is_done}
use Rattle.ak_field.proofs.fields.Fields.some_parts.Goals as goal

pub returns-in_err-add_part : goal.returns-in_err-add_part
returns-in_err-add_part c =
    let item = part_at c.args.many in
    let p = err_from_is_err_and c.from_residual-in_err-add_part.result c.from_residual-in_err-add_part.ensures.1 in
    rw (p.1, p.2) (ends item c.in_err-add_part.field-0.0 c.parts.parts c.args.many c.parts.counter c.parts.self (items_at item None c.args.many c.args.self.now) c.parts-test.true c.in_err-add_part.ensures c.parts.invariant)

pub parts-preserved : goal.parts-preserved
parts-preserved c =
    let item = part_at c.args.many in
    let added = c.in_ok-add_part.ensures in
    goes_on item c.parts.parts c.add_part.new.parts c.args.many c.parts.counter c.parts.self c.add_part.new.self (items_at item None c.args.many c.args.self.now) c.parts-test.true added.0 added.1 added.2 c.parts.invariant

pub returns : goal.returns
returns c =
    let item = part_at c.args.many in
    is_done item c.parts.parts c.args.many c.parts.counter c.parts.self (items_at item None c.args.many c.args.self.now) c.parts-test.false c.parts.invariant
