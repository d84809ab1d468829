use Rattle.std.proofs.Common.{inr}
use Rattle.ak_turns.proofs.node.refuse_config.Goals as goal

pub returns-in-Err-clause-refuses : goal.returns-in-Err-clause-refuses
returns-in-Err-clause-refuses g c = inr c.written-in-Err.ensures.written
