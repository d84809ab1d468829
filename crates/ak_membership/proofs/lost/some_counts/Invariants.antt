use Rattle.std.proofs.Common.{◌≡◌, drop}
use Rattle.std.specs.List.{list_any}
use Rattle.std.specs.FinMap as map
use Rattle.ak_member.specs.Age.{counts}
use Rattle.ak_member.specs.Standing.{member_pairs}
use Rattle.ak_membership.specs.Tick.{some_counts}
use Rattle.ak_membership.proofs.lost.some_counts.Given as goal

-- no member of the pairs so far counts
abbrev pub invariant-pairs : goal.invariant-pairs
invariant-pairs l = some_counts l.members ≡ list_any (λ m. counts m.1.0) (member_pairs (drop l.pair (map.entries l.members)))
