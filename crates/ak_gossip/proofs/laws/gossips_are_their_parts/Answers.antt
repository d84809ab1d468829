use Rattle.ak_gossip.proofs.PartsLaws.{valid_parts, one_gossip}
use Rattle.ak_gossip.proofs.laws.gossips_are_their_parts.Goals as goal

pub returns : goal.returns
returns c = record { valid = valid_parts; one = one_gossip }
