use Rattle.ak_meaning.proofs.CauseRuns.{each_caused}
use Rattle.ak_meaning.proofs.FounderRuns.{founder_was_told}
use Rattle.ak_meaning.proofs.laws.each_entry_has_a_cause.Goals as goal

pub returns : goal.returns
returns c = record { caused = each_caused; founder = founder_was_told }
