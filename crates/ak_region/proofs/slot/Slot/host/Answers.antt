use Rattle.std.proofs.Common.{◌<◌, sym, subst, arith}
use Rattle.std.proofs.lemmas.Option.{same_Some}
use Rattle.ak_region.proofs.MarkLemmas.{newly_hosts}
use Rattle.ak_region.proofs.slot.Slot.host.Goals as goal

pub invariant_of-self : goal.invariant_of-self
invariant_of-self c =
    let newer = (newly_hosts c.args.number c.args.self.now c.requires).1 in
    record {
      newest = λ n is. sym (same_Some _ _ is);
      positive = λ n is. subst (λ k. 0 < k) (same_Some _ _ is) (omega (arith, newer));
    }
