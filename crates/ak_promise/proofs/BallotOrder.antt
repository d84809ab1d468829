-- The order of ballots is total, and only equal ones tie.
use Rattle.std.proofs.Common.{ℕ, ap}
use Rattle.std.specs.Ordering.{nat_cmp}
use Rattle.std.specs.Cmp.{IsTotalOrder}
use Rattle.std.specs.FinMap.{IsAntisymmetric}
use Rattle.std.proofs.lemmas.Cmp.{on_total, then_total, nat_cmp_total}
use Rattle.std.proofs.lemmas.Map.Lookups.{exact_pairs, exact_unsigned}
use Rattle.ak_address.specs.Unique.{UniqueModel, unique_cmp}
use Rattle.ak_address.proofs.OrderLemmas.{unique_total, unique_exact}
use Rattle.ak_promise.specs.Ballot.{ballot_cmp}

pub ballot_total : IsTotalOrder ballot_cmp
ballot_total = then_total (on_total (λ b. b.term) nat_cmp_total) (on_total (λ b. b.unique) unique_total)

pub ballot_exact : IsAntisymmetric ballot_cmp
ballot_exact b c tied =
    ap (λ (p : ℕ × UniqueModel). record { term = p.0; unique = p.1 }) (exact_pairs nat_cmp unique_cmp exact_unsigned unique_exact (b.term, b.unique) (c.term, c.unique) tied)
