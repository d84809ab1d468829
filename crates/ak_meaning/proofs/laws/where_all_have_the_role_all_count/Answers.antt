use Rattle.ak_meaning.proofs.RoleMembers.{counted_have_role, decided_over_all, joining_have_role, joining_over_all, reached_over_all, settled_over_all}
use Rattle.ak_meaning.proofs.laws.where_all_have_the_role_all_count.Goals as goal

pub returns : goal.returns
returns c = record {
  settled = settled_over_all;
  reached = reached_over_all;
  decision = decided_over_all;
  founding = joining_over_all;
  runs = λ settings events same g there. (counted_have_role settings events same g there, joining_have_role settings events same g there);
}
