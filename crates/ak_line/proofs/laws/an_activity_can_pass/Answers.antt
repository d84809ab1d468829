use Rattle.std.proofs.Common.{refl, arith}
use Rattle.ak_line.specs.Example.{granted, granted_next}
use Rattle.ak_line.proofs.ExampleRun.{passing_allowed}
use Rattle.ak_line.proofs.laws.an_activity_can_pass.Goals as goal

pub returns : goal.returns
returns c = record {
  allowed = passing_allowed;
  first = (refl, granted, refl);
  first_home = (refl, refl);
  second = (refl, granted_next, refl);
  second_home = (refl, refl);
  finished = (0, omega arith, refl);
}
