use Rattle.std.proofs.Common.{arith}
use Rattle.ak_field.proofs.ValidLists.{are_reports_when}
use Rattle.ak_field.proofs.valid.are_reports.Goals as goal

pub returns : goal.returns
returns c = are_reports_when c.args.list.now c.all_pass.result (omega arith) c.all_pass.ensures
