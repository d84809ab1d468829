use Rattle.ak_meaning.proofs.StandstillRuns.{decision_stood}
use Rattle.ak_meaning.proofs.laws.a_decision_waits_for_a_standstill.Goals as goal

pub returns : goal.returns
returns c = decision_stood
