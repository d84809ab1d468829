use Rattle.ak_singleton.proofs.SingletonLaws.{own_is_higher, renewed_is_higher}
use Rattle.ak_singleton.proofs.laws.new_ballots_are_higher.Goals as goal

pub returns : goal.returns
returns c = record { opened = own_is_higher; renewed = renewed_is_higher }
