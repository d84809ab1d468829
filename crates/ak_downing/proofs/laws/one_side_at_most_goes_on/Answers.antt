use Rattle.ak_downing.proofs.OldestLaws.{not_both_oldest}
use Rattle.ak_downing.proofs.SidesLaws.{not_both_quorums, not_both_majorities}
use Rattle.ak_downing.proofs.laws.one_side_at_most_goes_on.Goals as goal

pub returns-clause-quorum : goal.returns-clause-quorum
returns-clause-quorum c = not_both_quorums

pub returns-clause-majority : goal.returns-clause-majority
returns-clause-majority c = not_both_majorities

pub returns-clause-oldest : goal.returns-clause-oldest
returns-clause-oldest c = not_both_oldest
