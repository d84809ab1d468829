use Rattle.ak_meaning.proofs.ResolverLaws.{decides_by_majority, one_side_goes_on}
use Rattle.ak_meaning.proofs.laws.a_majority_decides.Goals as goal

pub returns : goal.returns
returns c = record { numbers = decides_by_majority; sides = λ role v w me you who divided counts. one_side_goes_on role v w me you divided who counts }
