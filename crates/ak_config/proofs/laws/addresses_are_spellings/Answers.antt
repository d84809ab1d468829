use Rattle.ak_config.proofs.AddressLemmas.{found_spelled, spelled_found}
use Rattle.ak_config.proofs.laws.addresses_are_spellings.Goals as goal

pub returns-clause-found : goal.returns-clause-found
returns-clause-found c = found_spelled

pub returns-clause-only : goal.returns-clause-only
returns-clause-only c = spelled_found
