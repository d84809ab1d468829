use Rattle.std.proofs.Common.{ap, ◌∙◌}
use Rattle.std.specs.FinMap as map
use Rattle.ak_entity.specs.Stored.{pairs_of}
use Rattle.ak_entity.proofs.StoredLemmas.{nothing_stored}
use Rattle.ak_entity.proofs.entities.Entities.empty.Goals as goal

pub returns : goal.returns
returns c = ap map.from_sorted (ap pairs_of c.new-active.ensures.empty) ∙ nothing_stored
