use Rattle.std.specs.FinMap as map
use Rattle.ak_address.specs.Distinct.{distinct}
use Rattle.ak_member.specs.Age.{role_addresses}
use Rattle.ak_member.proofs.CountedLaws.{CountedTo, role_among}
use Rattle.ak_member.proofs.age.count_in.Given as goal

abbrev pub invariant-pairs : goal.invariant-pairs
invariant-pairs l = CountedTo (role_among l.role) l.addresses (map.entries l.members) l.pair (distinct (role_addresses l.role l.members))
