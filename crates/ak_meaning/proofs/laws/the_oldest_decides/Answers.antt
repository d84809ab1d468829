use Rattle.ak_meaning.proofs.OldestSides.{decides_by_oldest, oldest_kept, one_oldest_side}
use Rattle.ak_meaning.proofs.laws.the_oldest_decides.Goals as goal

pub returns : goal.returns
returns c = record { exactly = decides_by_oldest; kept = oldest_kept; sides = λ asked role v w me you who divided counts. one_oldest_side asked role v w me you divided who counts }
