use Rattle.ak_world.proofs.SeenHeld.{seen_held}
use Rattle.ak_world.proofs.laws.who_has_seen_a_version_held_it.Goals as goal

pub returns : goal.returns
returns c = seen_held
