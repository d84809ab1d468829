use Rattle.ak_world.proofs.Noted.{settled_is, noted_in_order}
use Rattle.ak_world.proofs.laws.settled_views_are_of_the_history.Goals as goal

pub returns : goal.returns
returns c = record { settled = settled_is; grows = noted_in_order }
