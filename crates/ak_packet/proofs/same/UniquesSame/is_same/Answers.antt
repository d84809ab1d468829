use Rattle.std.proofs.Common.{refl, arith}
use Rattle.ak_address.specs.Uniques.{in_order}
use Rattle.ak_address.proofs.UniquesLaws.{length-in_order}
use Rattle.ak_member.proofs.SameLemmas.{same_elements}
use Rattle.ak_packet.proofs.SameLemmas.{same_in_order}
use Rattle.ak_packet.proofs.same.UniquesSame.is_same.Goals as goal

pub returns : goal.returns
returns c =
    let own = length-in_order c.args.self.now in
    let others = length-in_order c.args.other.now in (
      λ _.
          same_in_order c.args.self.now c.args.other.now
          (same_elements (in_order c.args.self.now) (in_order c.args.other.now) (omega (arith, own, others, c.if-len-many.false)) (λ k lt. c.processes.invariant k (omega (arith, lt, own, c.processes-test.false)))),
      λ _. refl,
    )
