use Rattle.ak_history.proofs.ViewsMerged.{view-merged}
use Rattle.ak_history.proofs.laws.views_are_merged.Goals as goal

pub returns : goal.returns
returns c = view-merged
