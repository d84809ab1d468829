use Rattle.ak_promise.proofs.BallotOrder.{ballot_total, ballot_exact}
use Rattle.ak_promise.proofs.laws.ballots_are_ordered.Goals as goal

pub returns : goal.returns
returns c = record { total = ballot_total; exact = ballot_exact }
