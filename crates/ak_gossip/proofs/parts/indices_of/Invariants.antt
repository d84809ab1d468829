use Rattle.std.proofs.Common.{◌≡◌, ◌++◌, drop}
use Rattle.ak_address.specs.Uniques.{in_order}
use Rattle.ak_gossip.specs.PartsWalk.{indices_among}
use Rattle.ak_gossip.proofs.parts.indices_of.Given as goal

-- with the indices of the others it comes to those of all subjects
abbrev pub invariant-subjects : goal.invariant-subjects
invariant-subjects l = l.indices ++ indices_among l.everybody (drop l.place (in_order l.set)) ≡ indices_among l.everybody (in_order l.set)
