use Rattle.std.proofs.Common.{None}
use Rattle.std.proofs.lemmas.Result.{err_from_is_err_and}
use Rattle.ak_field.specs.Reading.{items_at}
use Rattle.ak_field.specs.Parts.{index_at}
use Rattle.ak_field.proofs.Items.{goes_on, ends, is_done}
use Rattle.ak_field.proofs.fields.Fields.some_indices.Goals as goal

pub returns-in_err-add_index : goal.returns-in_err-add_index
returns-in_err-add_index c =
    let item = index_at c.args.many in
    let p = err_from_is_err_and c.from_residual-in_err-add_index.result c.from_residual-in_err-add_index.ensures.1 in
    rw (p.1, p.2) (ends item c.in_err-add_index.field-0.0 c.list.list c.args.length c.list.counter c.list.self (items_at item None c.args.length c.args.self.now) c.list-test.true c.in_err-add_index.ensures c.list.invariant)

pub list-preserved : goal.list-preserved
list-preserved c =
    let item = index_at c.args.many in
    let added = c.in_ok-add_index.ensures in
    goes_on item c.list.list c.add_index.new.list c.args.length c.list.counter c.list.self c.add_index.new.self (items_at item None c.args.length c.args.self.now) c.list-test.true added.0 added.1 added.2 c.list.invariant

pub returns : goal.returns
returns c =
    let item = index_at c.args.many in
    is_done item c.list.list c.args.length c.list.counter c.list.self (items_at item None c.args.length c.args.self.now) c.list-test.false c.list.invariant
