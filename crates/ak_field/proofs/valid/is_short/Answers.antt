use Rattle.std.proofs.Common.{arith}
use Rattle.ak_field.proofs.ValidLists.{is_short_when}
use Rattle.ak_field.proofs.valid.is_short.Goals as goal

pub returns : goal.returns
returns c = is_short_when c.args.counts.now c.are_counted.result (omega arith) c.are_counted.ensures
