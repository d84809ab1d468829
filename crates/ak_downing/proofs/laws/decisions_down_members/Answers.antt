use Rattle.ak_downing.proofs.DownedLaws.{downs_members, node_spared}
use Rattle.ak_downing.proofs.laws.decisions_down_members.Goals as goal

pub returns : goal.returns
returns c = record { members = downs_members; spared = node_spared }
