-- The order of ballots as a relation.
use Rattle.std.specs.Prelude.{◌≡◌}
use Rattle.std.specs.declared.cmp.Ordering.TheVariants.{Less}
use Rattle.ak_promise.specs.Ballot.{BallotModel, ballot_cmp}

-- the first ballot is above the second
abbrev pub IsLater : BallotModel → BallotModel → Type 0
IsLater b c = ballot_cmp c b ≡ Less
