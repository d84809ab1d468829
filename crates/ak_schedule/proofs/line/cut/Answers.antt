use Rattle.ak_schedule.proofs.Cutting.{cut_at, cut_none}
use Rattle.ak_schedule.proofs.line.cut.Goals as goal

pub returns : goal.returns
returns c = cut_at c.args.byte c.args.bytes.now c.in-Some.index c.in-Some.ensures

pub returns-in_default : goal.returns-in_default
returns-in_default c = cut_none c.args.byte c.args.bytes.now c.in_default.ensures
