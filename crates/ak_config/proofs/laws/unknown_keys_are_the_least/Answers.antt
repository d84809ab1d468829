use Rattle.ak_config.proofs.LeastLemmas.{least_is}
use Rattle.ak_config.proofs.laws.unknown_keys_are_the_least.Goals as goal

pub returns : goal.returns
returns c = least_is
