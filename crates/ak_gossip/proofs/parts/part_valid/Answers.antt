use Rattle.std.proofs.Common.{ap, ◌∙◌, arith}
use Rattle.ak_gossip.specs.PartsWalk.{ascend_from}
use Rattle.ak_gossip.proofs.PartsOrder.{part_when}
use Rattle.ak_gossip.proofs.parts.part_valid.Goals as goal

pub returns-then-row_valid : goal.returns-then-row_valid
returns-then-row_valid c =
    part_when c.args.many c.args.part.now c.indices_ascend.result (omega arith) (c.state_valid.ensures.0 c.if-not-state_valid.false)
    (c.row_valid.ensures.0 c.if-row_valid.true).0 (c.row_valid.ensures.0 c.if-row_valid.true).1
    (c.indices_ascend.ensures ∙ ap (ascend_from 0 c.args.many) c.as_slice.ensures)
