use Rattle.std.proofs.Common.{refl, arith}
use Rattle.ak_member.proofs.SameLemmas.{same_elements}
use Rattle.ak_packet.proofs.same.are_same.Goals as goal

pub returns : goal.returns
returns g c =
    (λ _. same_elements c.args.one.now c.args.other.now (omega (arith, c.if-other-many.false)) (λ k lt. c.elements.invariant k (omega (arith, lt, c.elements-test.false))), λ _. refl)
