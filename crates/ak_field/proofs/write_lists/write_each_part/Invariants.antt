use Rattle.ak_field.specs.Parts.{part}
use Rattle.ak_field.proofs.Written.{Written}
use Rattle.ak_field.proofs.write_lists.write_each_part.Given as goal

abbrev pub invariant-list : goal.invariant-list
invariant-list l = Written part l.list l.fn.out.items l.one-index l.out.items
