use Rattle.std.proofs.Common.{refl, arith}
use Rattle.ak_member.proofs.SameLemmas.{same_elements}
use Rattle.ak_member.proofs.slots.are_same.Goals as goal

pub returns : goal.returns
returns c =
    (λ _. same_elements c.args.one.now.entries c.args.other.now.entries (omega (arith, c.if-len-many.false)) (λ k lt. c.slots.invariant k (omega (arith, lt, c.slots-test.false))), λ _. refl)
