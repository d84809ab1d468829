use Rattle.std.proofs.Common.{arith}
use Rattle.ak_clock.proofs.WalkLemmas.{same_pairs}
use Rattle.ak_clock.proofs.version.are_same.Goals as goal

pub returns : goal.returns
returns c _ = same_pairs c.args.pairs.now c.args.others.now (omega arith) (λ k lt. c.pairs.invariant k (omega (arith, lt, c.pairs-test.false)))
