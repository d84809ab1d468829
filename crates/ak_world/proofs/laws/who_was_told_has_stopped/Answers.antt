use Rattle.ak_world.specs.Margin.{stopped}
use Rattle.ak_world.proofs.Told.{told_stops}
use Rattle.ak_world.proofs.laws.who_was_told_has_stopped.Goals as goal

pub returns : goal.returns
returns c = record { stopped = told_stops; told = λ settings events time who is. stopped is }
