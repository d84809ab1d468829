use Rattle.std.proofs.Common.{take, refl, lit<, lit≤}
use Rattle.ak_world.specs.Worked.{three, passing}
use Rattle.ak_world.proofs.WorkedFirst.{b_15}
use Rattle.ak_world.proofs.WorkedSecond.{c_33}
use Rattle.ak_world.proofs.WorkedLemmas.{active_in}
use Rattle.ak_world.proofs.WorkedWorlds.{done_15, done_33, comes_15, comes_33}
use Rattle.ak_world.proofs.laws.an_activity_can_pass_to_another_node.Goals as goal

pub returns : goal.returns
returns c = record {
  over_half = (refl, lit< tt);
  waits = lit≤ tt;
  kept = comes_33.kept;
  first = active_in three (take 15 passing) done_15.world 0 b_15 comes_15 refl (refl, refl);
  second = active_in three passing done_33.world 1 c_33 comes_33 refl (refl, refl);
}
