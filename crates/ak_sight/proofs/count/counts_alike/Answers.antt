use Rattle.std.proofs.Common.{arith, refl}
use Rattle.std.specs.FinMap as map
use Rattle.ak_sight.proofs.CountLemmas.{marked_here, marked_end}
use Rattle.ak_sight.proofs.count.counts_alike.Goals as goal

pub pairs-preserved : goal.pairs-preserved
pairs-preserved c = λ rest. c.pairs.invariant (marked_here (map.entries c.args.one.now) (map.entries c.args.other.now) c.pairs.pair (c.if-not-counts_alike_at.ensures refl) rest)

pub returns : goal.returns
returns c = λ _. c.pairs.invariant (marked_end (map.entries c.args.one.now) (map.entries c.args.other.now) c.pairs.pair
    (let past = map.len-entries c.args.one.now in omega (arith, c.uniques-pairs.ensures, c.pairs-test.false))
    (let past = map.len-entries c.args.other.now in omega (arith, c.uniques-pairs.ensures, c.uniques.ensures, c.if-pairs-uniques.false, c.pairs-test.false)))
