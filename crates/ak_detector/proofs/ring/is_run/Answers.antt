use Rattle.std.proofs.Common.{take, arith, true≢false, sym}
use Rattle.std.specs.FinMap as map
use Rattle.ak_address.specs.Uniques.{in_order}
use Rattle.ak_detector.proofs.RingLaws.{begins_next, begins_not, agrees_fewer, there_in}
use Rattle.ak_detector.proofs.ring.is_run.Goals as goal

pub pairs-preserved : goal.pairs-preserved
pairs-preserved c = record {
  fewer = (let less = agrees_fewer c.pairs.left c.in-Some.next _ _ c.in-Some.ensures in omega (arith, c.pairs.invariant.fewer));
  same = begins_next (in_order c.args.watched.now) (take c.args.to (map.entries c.args.members.now)) c.pairs.pair c.args.end c.pairs.left _
      (there_in c.args.to c.pairs.pair (map.entries c.args.members.now) _ c.pairs-test.true c.member_at.ensures) c.in-Some.next _ (omega (arith, c.if-left-eq0.false)) (omega (arith, c.pairs.invariant.fewer, c.requires)) c.in-Some.ensures c.pairs.invariant.same;
}

-- another stands there
pub returns-in-None : goal.returns-in-None
returns-in-None c = (
  λ no. absurd (true≢false (sym no)),
  λ all. absurd
      (begins_not (in_order c.args.watched.now) (take c.args.to (map.entries c.args.members.now)) c.pairs.pair c.args.end c.pairs.left _
      (there_in c.args.to c.pairs.pair (map.entries c.args.members.now) _ c.pairs-test.true c.member_at.ensures) (omega (arith, c.if-left-eq0.false)) c.in-None.ensures (c.pairs.invariant.same.1 all)),
)
