use Rattle.std.proofs.Common.{refl}
use Rattle.ak_member.specs.Age.{counted_pairs, least_pair}
use Rattle.ak_member.specs.Standing.{members_of}
use Rattle.ak_member.proofs.AgedSlots.{one_oldest}
use Rattle.ak_member.proofs.OldestLaws.{oldest_is}
use Rattle.ak_member.proofs.members.Members.oldest.Goals as goal

-- there is one oldest, and the first by age is it
pub returns-clause-value : goal.returns-clause-value
returns-clause-value c = one_oldest c.args.self.now _ _ c.first_by_age.ensures (oldest_is c.args.self.now (least_pair (counted_pairs (members_of c.args.self.now))) refl)
