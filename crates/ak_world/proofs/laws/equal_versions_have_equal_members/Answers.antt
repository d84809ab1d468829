use Rattle.ak_world.proofs.FoldRuns.{same_views}
use Rattle.ak_world.proofs.laws.equal_versions_have_equal_members.Goals as goal

pub returns : goal.returns
returns c = same_views
