use Rattle.ak_clock.proofs.VersionLaws.{relation_exact}
use Rattle.ak_clock.proofs.laws.relations_are_exact.Goals as goal

pub returns : goal.returns
returns c = λ r v w p q. relation_exact v w p q r
