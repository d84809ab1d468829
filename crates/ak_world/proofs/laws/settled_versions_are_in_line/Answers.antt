use Rattle.ak_world.proofs.SettledRuns.{in_line, noted_was_settled}
use Rattle.ak_world.proofs.laws.settled_versions_are_in_line.Goals as goal

pub returns : goal.returns
returns c = record { line = in_line; noted = noted_was_settled }
