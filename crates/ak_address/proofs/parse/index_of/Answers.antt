use Rattle.std.proofs.Common.{arith}
use Rattle.ak_address.proofs.Reading.{index_is}
use Rattle.ak_address.proofs.parse.index_of.Goals as goal

pub returns-then-byte-separator : goal.returns-then-byte-separator
returns-then-byte-separator c =
    index_is c.args.bytes.now c.args.separator c.bytes.i (omega arith) c.bytes.invariant (λ _. c.if-byte-separator.true)

pub returns : goal.returns
returns c =
    index_is c.args.bytes.now c.args.separator _ (omega arith) (λ k below. c.bytes.invariant k (omega arith)) (λ below. absurd (omega arith))
