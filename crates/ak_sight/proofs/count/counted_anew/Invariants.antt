use Rattle.std.proofs.Common.{◌≡◌, ◌++◌, drop}
use Rattle.std.specs.FinMap as map
use Rattle.ak_converge.specs.Tally.{uses_of}
use Rattle.ak_member.specs.Age.{role_addresses}
use Rattle.ak_sight.specs.Counted.{roles_among}
use Rattle.ak_sight.proofs.CountLemmas.{UsedTo}
use Rattle.ak_sight.proofs.count.counted_anew.Given as goal

abbrev pub invariant-pairs : goal.invariant-pairs
invariant-pairs l = record {
  used : UsedTo l.role l.tally.numbers.uses (map.entries l.new) l.pair (uses_of (role_addresses l.role l.new));
  roles : l.tally.roles ++ roles_among l.role (drop l.pair (map.entries l.new)) ≡ roles_among l.role (map.entries l.new);
}
