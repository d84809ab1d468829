use Rattle.ak_world.proofs.MarginRuns.{some_margin, one_margin}
use Rattle.ak_world.proofs.laws.each_run_has_one_margin.Goals as goal

pub returns : goal.returns
returns c = record { some = some_margin; one = one_margin }
