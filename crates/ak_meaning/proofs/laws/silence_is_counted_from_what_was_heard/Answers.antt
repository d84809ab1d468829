use Rattle.ak_meaning.proofs.SilenceLaws.{silent_by_ticks, has_last}
use Rattle.ak_meaning.proofs.laws.silence_is_counted_from_what_was_heard.Goals as goal

pub returns : goal.returns
returns c = record { counted = λ me deadline who before since happening last. silent_by_ticks me deadline who before since happening last; moment = has_last }
