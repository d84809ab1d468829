use Rattle.std.proofs.Common.{refl, lit<, lit≤}
use Rattle.ak_world.specs.Worked.{alone, rise}
use Rattle.ak_world.proofs.WorkedLemmas.{active_in}
use Rattle.ak_world.proofs.WorkedRise.{a_4, done_4, comes_4}
use Rattle.ak_world.proofs.laws.a_node_can_become_active.Goals as goal

pub returns : goal.returns
returns c = record {
  over_half = (refl, lit< tt);
  waits = lit≤ tt;
  kept = comes_4.kept;
  active = active_in alone rise done_4.world 0 a_4 comes_4 refl (refl, refl);
}
