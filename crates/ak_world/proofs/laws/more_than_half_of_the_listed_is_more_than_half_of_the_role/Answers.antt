use Rattle.ak_world.proofs.RoleLemmas.{listed_over_half}
use Rattle.ak_world.proofs.laws.more_than_half_of_the_listed_is_more_than_half_of_the_role.Goals as goal

pub returns : goal.returns
returns c = listed_over_half
