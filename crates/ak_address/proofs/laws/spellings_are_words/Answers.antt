use Rattle.ak_address.proofs.SpellingLemmas.{number_word, digits_in_range, address_word, unique_word}
use Rattle.ak_address.proofs.laws.spellings_are_words.Goals as goal

pub returns : goal.returns
returns c = record { numbers = number_word; digits = λ bytes n number. digits_in_range bytes number.digits; addresses = address_word; uniques = unique_word }
