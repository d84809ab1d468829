use Rattle.std.proofs.Common.{refl}
use Rattle.std.proofs.lemmas.Option.{slice_get_read}
use Rattle.ak_field.specs.Parts.{part}
use Rattle.ak_field.proofs.Written.{goes_on}
use Rattle.ak_field.proofs.write_lists.write_each_part.Goals as goal

pub list-preserved : goal.list-preserved
list-preserved c =
    let at = slice_get_read c.args.list.now _ c.list.one-index c.one-item.result refl c.list-test.true c.one-item.is in
    goes_on part c.args.list.now c.args.out.now.items c.list.one-index c.list.out.items c.write_part.new.out.items c.one-item.result at c.in_ok-write_part.ensures c.list.invariant
