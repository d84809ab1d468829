use Rattle.ak_history.proofs.ViewsMerged.{view-covered}
use Rattle.ak_history.proofs.laws.covering_versions_show_more.Goals as goal

pub returns : goal.returns
returns c = view-covered
