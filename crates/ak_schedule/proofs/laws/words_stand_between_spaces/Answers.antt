use Rattle.std.proofs.Common.{refl}
use Rattle.ak_schedule.proofs.LineParts.{first_word, last_word}
use Rattle.ak_schedule.proofs.laws.words_stand_between_spaces.Goals as goal

pub returns : goal.returns
returns c = record { none = refl; space = λ line. refl; first = first_word; last = last_word }
