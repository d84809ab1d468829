use Rattle.std.proofs.Common.{sym, subst, arith}
use Rattle.ak_address.specs.Unique.{IsAddress}
use Rattle.ak_generate.proofs.GenerateLemmas.{address_is_one}
use Rattle.ak_generate.proofs.process.address.Goals as goal

pub invariant_of-result : goal.invariant_of-result
invariant_of-result c =
    subst (λ host. IsAddress (record { host = host; port = 1 })) (sym (c.in_ok-host.ensures {u = tt}))
    (address_is_one c.args.number (omega arith))
