use Rattle.ak_history.proofs.ViewsMerged.{view-prefix}
use Rattle.ak_history.proofs.laws.later_entries_change_nothing.Goals as goal

pub returns : goal.returns
returns c = view-prefix
