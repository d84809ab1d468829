use Rattle.std.proofs.Common.{◌≡◌}
use Rattle.ak_driver.specs.declared.replay.Stop.TheVariants.{Refused}
use Rattle.ak_driver.proofs.ReplayLoop.{refused_end}
use Rattle.ak_driver.proofs.replay.ended.Goals as goal

pub returns-in-Err-Refused-clause-ended : goal.returns-in-Err-Refused-clause-ended
returns-in-Err-Refused-clause-ended g c =
    let f : c.in-Err-Refused.field-0 ≡ Refused c.in-Err-Refused.code = rw c.in-Err-Refused.is at c.in-Err-Refused.field-0-is in
    refused_end c.args.end c.in-Err-Refused.field-0 c.in-Err-Refused.code _ _ _ _ _ _ _ c.in-Err-Refused.is f c.refused.ensures.refused
