use Rattle.ak_meaning.proofs.ResolverLaws.{decides_by_quorum}
use Rattle.ak_meaning.proofs.laws.a_quorum_decides.Goals as goal

pub returns : goal.returns
returns c = decides_by_quorum
