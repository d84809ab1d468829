use Rattle.ak_singleton.proofs.RulesMeant.{activation_is}
use Rattle.ak_singleton.proofs.laws.activations_are_exact.Goals as goal

pub returns : goal.returns
returns c = activation_is
