use Rattle.ak_meaning.proofs.SilenceLaws.{watched_means}
use Rattle.ak_meaning.proofs.laws.others_are_watched_while_silent.Goals as goal

pub returns : goal.returns
returns c = watched_means
