use Rattle.ak_settled.proofs.SettledLaws.{finished_means}
use Rattle.ak_settled.proofs.laws.finished_are_tombstones.Goals as goal

pub returns : goal.returns
returns c = finished_means
