use Rattle.std.proofs.Common.{◌<◌, sym, subst}
use Rattle.ak_field.specs.Ranges.{IsEntity}
use Rattle.ak_generate.proofs.CensusLemmas.{entity_is_one}
use Rattle.ak_generate.proofs.event.entity.Goals as goal

pub of-requires : goal.of-requires
of-requires c = subst IsEntity (sym (c.in_ok-name.ensures {u = tt})) (entity_is_one c.from.result (subst (λ n. n < 20) (sym c.from.ensures) c.requires))
