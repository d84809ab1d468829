use Rattle.ak_world.proofs.DoubleMarks.{one_first}
use Rattle.ak_world.proofs.SomeDouble.{some_double}
use Rattle.ak_world.proofs.laws.each_run_has_one_first_double.Goals as goal

pub returns : goal.returns
returns c = record { some = some_double; one = one_first }
