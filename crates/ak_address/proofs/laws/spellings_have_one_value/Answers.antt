use Rattle.ak_address.proofs.SpellingLemmas.{number_same, address_same, unique_same}
use Rattle.ak_address.proofs.laws.spellings_have_one_value.Goals as goal

pub returns : goal.returns
returns c = record { numbers = number_same; addresses = address_same; uniques = unique_same }
