use Rattle.ak_world.proofs.InRunLemmas.{named_started}
use Rattle.ak_world.proofs.laws.who_is_named_was_started.Goals as goal

pub returns : goal.returns
returns c = named_started
