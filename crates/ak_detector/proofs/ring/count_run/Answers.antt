use Rattle.std.proofs.Common.{take, arith}
use Rattle.std.specs.FinMap as map
use Rattle.ak_detector.proofs.RingLaws.{counted_next, there_in}
use Rattle.ak_detector.proofs.ring.count_run.Goals as goal

pub pairs-preserved : goal.pairs-preserved
pairs-preserved c = record {
  fewer = omega (arith, c.left_after-left.ensures, c.pairs.invariant.fewer);
  left_is = counted_next (take c.args.to (map.entries c.args.members.now)) c.pairs.pair _ c.pairs.left _ _ (there_in c.args.to c.pairs.pair (map.entries c.args.members.now) _ c.pairs-test.true c.member_at.ensures) c.left_after-left.ensures c.pairs.invariant.left_is;
}
