use Rattle.std.proofs.Common.{refl}
use Rattle.ak_line.proofs.ExampleRun.{is_allowed}
use Rattle.ak_line.proofs.laws.guards_can_be_met.Goals as goal

pub returns : goal.returns
returns c = record { allowed = is_allowed; hosted = (refl, refl); number = refl }
