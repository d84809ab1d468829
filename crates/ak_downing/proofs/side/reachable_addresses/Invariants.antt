use Rattle.std.specs.FinMap as map
use Rattle.ak_member.proofs.CountedLaws.{CountedTo}
use Rattle.ak_downing.specs.Downing.{reachable_addresses}
use Rattle.ak_downing.specs.Sides.{seen_with}
use Rattle.ak_downing.proofs.SideLemmas.{beside_among}
use Rattle.ak_downing.proofs.side.reachable_addresses.Given as goal

abbrev pub invariant-pairs : goal.invariant-pairs
invariant-pairs l =
    CountedTo (beside_among l.role (seen_with l.members l.rows) l.me) l.addresses (map.entries l.members) l.pair (reachable_addresses l.role (seen_with l.members l.rows) l.me)
