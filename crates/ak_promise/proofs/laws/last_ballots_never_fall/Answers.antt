use Rattle.ak_promise.proofs.PromiseLaws.{last_asked, last_released}
use Rattle.ak_promise.proofs.laws.last_ballots_never_fall.Goals as goal

pub returns : goal.returns
returns c = record { asked = last_asked; released = last_released }
