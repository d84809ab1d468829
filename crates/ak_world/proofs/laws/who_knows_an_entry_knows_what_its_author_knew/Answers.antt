use Rattle.ak_world.proofs.MadeFrom.{each_made, known_is_closed}
use Rattle.ak_world.proofs.laws.who_knows_an_entry_knows_what_its_author_knew.Goals as goal

pub returns : goal.returns
returns c = record { made = each_made; closed = known_is_closed }
