use Rattle.ak_member.proofs.ViewLaws.{get-merged_standings, standings_commutative, standings_associative, standings_idempotent}
use Rattle.ak_member.proofs.laws.members_are_merged.Goals as goal

pub returns : goal.returns
returns c = record { pointwise = get-merged_standings; commutative = standings_commutative; associative = standings_associative; idempotent = standings_idempotent }
