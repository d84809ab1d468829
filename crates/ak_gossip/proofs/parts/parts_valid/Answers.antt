use Rattle.std.proofs.Common.{arith}
use Rattle.ak_gossip.proofs.PartsOrder.{parts_when}
use Rattle.ak_gossip.proofs.parts.parts_valid.Goals as goal

pub returns : goal.returns
returns c = parts_when c.args.parts.now c.uniques_ascend.result (omega arith) (c.each_valid.ensures.0 c.if-not-each_valid.false) c.uniques_ascend.ensures
