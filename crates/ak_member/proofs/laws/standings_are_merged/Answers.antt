use Rattle.ak_member.proofs.StandingLaws.{standing_commutative, standing_associative, standing_idempotent}
use Rattle.ak_member.proofs.laws.standings_are_merged.Goals as goal

pub returns : goal.returns
returns c = record { commutative = standing_commutative; associative = standing_associative; idempotent = standing_idempotent }
