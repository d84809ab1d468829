use Rattle.ak_settled.proofs.SettledLaws.{candidate_needed}
use Rattle.ak_settled.proofs.laws.candidate_is_needed.Goals as goal

pub returns : goal.returns
returns c = candidate_needed
