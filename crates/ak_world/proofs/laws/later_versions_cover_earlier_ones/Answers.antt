use Rattle.ak_world.proofs.HeldInOrder.{held_in_order}
use Rattle.ak_world.proofs.laws.later_versions_cover_earlier_ones.Goals as goal

pub returns : goal.returns
returns c = held_in_order
