use Rattle.ak_address.proofs.SharedAddress.{shared_address}
use Rattle.ak_address.proofs.laws.quorums_share_an_address.Goals as goal

pub returns : goal.returns
returns c = shared_address
