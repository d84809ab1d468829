use Rattle.ak_world.proofs.UpdateLemmas.{updates_entered}
use Rattle.ak_world.proofs.laws.updates_number_their_entries.Goals as goal

pub returns : goal.returns
returns c = updates_entered
