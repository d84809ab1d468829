use Rattle.ak_meaning.proofs.RingLaws.{ring_is}
use Rattle.ak_meaning.proofs.laws.a_ring_passes_over_nobody.Goals as goal

pub returns : goal.returns
returns c = ring_is
