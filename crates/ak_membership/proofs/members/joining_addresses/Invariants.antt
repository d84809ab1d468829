use Rattle.std.proofs.Common.{◌≡◌, ◌≤◌, List}
use Rattle.std.specs.FinMap as map
use Rattle.ak_address.specs.Distinct.{distinct}
use Rattle.ak_address.specs.Unique.{AddressModel}
use Rattle.ak_member.proofs.CountedLaws.{CountedTo}
use Rattle.ak_membership.specs.Tick.{joining_addresses}
use Rattle.ak_membership.proofs.WalkLemmas.{joining_role}
use Rattle.ak_sight.specs.Counted.{roles_among}
use Rattle.ak_membership.proofs.members.joining_addresses.Given as goal

abbrev pub invariant-pairs : goal.invariant-pairs
invariant-pairs l = record {
  few : l.addresses.count ≤ l.pair;
  counted : (role : List AddressModel) → l.tally.roles ≡ roles_among role (map.entries l.members) → CountedTo (joining_role role) l.addresses (map.entries l.members) l.pair (distinct (joining_addresses role l.members));
}
