use Rattle.ak_clock.proofs.VersionLaws.{merged-comm, merged-assoc, merged-idem}
use Rattle.ak_clock.proofs.laws.merges_in_any_order.Goals as goal

pub returns : goal.returns
returns c = record { commutative = merged-comm; associative = merged-assoc; idempotent = merged-idem }
