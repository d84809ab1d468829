use Rattle.ak_meaning.proofs.ListeningRuns.{silent_since}
use Rattle.ak_meaning.proofs.laws.silence_is_counted_over_runs.Goals as goal

pub returns : goal.returns
returns c = silent_since
