use Rattle.std.proofs.Common.{take, arith}
use Rattle.std.specs.FinMap as map
use Rattle.ak_address.proofs.Failing.{on_err}
use Rattle.ak_detector.specs.Sides.{names_of}
use Rattle.ak_detector.proofs.DetectorLemmas.{taking_next}
use Rattle.ak_detector.proofs.RingLaws.{run_none, there_in}
use Rattle.ak_detector.proofs.RingOrder.{keeps_names}
use Rattle.ak_detector.proofs.ring.add_run.Goals as goal

pub pairs-preserved : goal.pairs-preserved
pairs-preserved c =
    taking_next names_of keeps_names (take c.args.to (map.entries c.args.members.now)) c.pairs.pair c.pairs.left _ c.pairs.ring _ _ _ _
    (there_in c.args.to c.pairs.pair (map.entries c.args.members.now) _ c.pairs-test.true c.member_at.ensures) (c.in_ok-left.ensures {u = tt}).ok.0 (c.in_ok-left.ensures {u = tt}).ok.1 c.pairs.invariant

pub returns-in_err-left-clause-memory : goal.returns-in_err-left-clause-memory
returns-in_err-left-clause-memory c =
    on_err _ (run_none c.args.from c.args.to c.pairs.pair (map.entries c.args.members.now) _ (omega (arith, c.pairs.auto.pair)) c.pairs-test.true c.member_at.ensures (c.in_err-left.ensures {u = tt}).memory)
