use Rattle.ak_region.proofs.WantedLaws.{wanted_is}
use Rattle.ak_region.proofs.laws.wanted_shards_have_messages.Goals as goal

pub returns : goal.returns
returns c = wanted_is
