use Rattle.ak_meaning.proofs.RoleMembers.{same_decision, same_reached}
use Rattle.ak_meaning.proofs.laws.a_decision_depends_on_role_members.Goals as goal

pub returns : goal.returns
returns c = record { decision = same_decision; reached = same_reached }
