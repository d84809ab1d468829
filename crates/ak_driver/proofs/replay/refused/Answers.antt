use Rattle.std.proofs.Common.{◌∙◌}
use Rattle.ak_driver.proofs.ReplayLoop.{refusal_starved}
use Rattle.ak_driver.proofs.replay.refused.Goals as goal

pub returns-in-Err-clause-refused : goal.returns-in-Err-clause-refused
returns-in-Err-clause-refused g c =
    refusal_starved _ _ _ _ _ _ _ _ (c.deref-in-Err.ensures.value ∙ c.in-Err.ensures.err) c.out_of_memory.ensures.written
