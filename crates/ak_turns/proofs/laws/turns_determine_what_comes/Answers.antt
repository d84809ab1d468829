use Rattle.ak_turns.proofs.Determined.{come_determined}
use Rattle.ak_turns.proofs.laws.turns_determine_what_comes.Goals as goal

pub returns : goal.returns
returns c = come_determined
