use Rattle.ak_address.proofs.SpellingLemmas.{number_text_spells, address_text_spells, unique_text_spells}
use Rattle.ak_address.proofs.laws.texts_are_spellings.Goals as goal

pub returns : goal.returns
returns c = record { numbers = number_text_spells; addresses = address_text_spells; uniques = unique_text_spells }
