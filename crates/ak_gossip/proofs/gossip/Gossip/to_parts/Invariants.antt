use Rattle.std.proofs.Common.{◌≡◌, ◌++◌, drop}
use Rattle.std.specs.Prelude as list
use Rattle.std.specs.FinMap as map
use Rattle.ak_gossip.specs.Parts.{part_of, parts_of}
use Rattle.ak_gossip.proofs.gossip.Gossip.to_parts.Given as goal

-- with the parts of the others it comes to all parts
abbrev pub invariant-indices : goal.invariant-indices
invariant-indices l = l.parts ++ list.map (part_of l.self) (drop l.index (map.entries l.self.view.standings)) ≡ parts_of l.self
