use Rattle.ak_membership.proofs.ObservedLaws.{observes_nothing, nothing_observed}
use Rattle.ak_membership.proofs.laws.rows_name_who_is_silent.Goals as goal

pub returns : goal.returns
returns c = λ m. (observes_nothing m, nothing_observed m)
