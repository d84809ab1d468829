use Rattle.ak_member.proofs.ViewLaws.{views_idempotent, views_associative, views_commutative}
use Rattle.ak_member.proofs.laws.views_are_merged.Goals as goal

pub returns : goal.returns
returns c = record { idempotent = views_idempotent; associative = views_associative; commutative = views_commutative }
