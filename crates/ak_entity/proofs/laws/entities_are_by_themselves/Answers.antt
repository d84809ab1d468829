use Rattle.ak_entity.proofs.EntityLaws.{own_delivery, other_delivery, stopped_shard}
use Rattle.ak_entity.proofs.laws.entities_are_by_themselves.Goals as goal

pub returns : goal.returns
returns c = record { own = own_delivery; others = other_delivery; stopped = stopped_shard }
