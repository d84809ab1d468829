use Rattle.std.proofs.Common.{arith}
use Rattle.ak_field.proofs.Measured.{reports_measured}
use Rattle.ak_field.proofs.measure.reports_len.Goals as goal

pub returns : goal.returns
returns c = omega (arith, reports_measured c.args.list.now)
