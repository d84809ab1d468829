use Rattle.std.proofs.Common.{◌≡◌, drop}
use Rattle.std.specs.FinMap as map
use Rattle.ak_gossip.specs.PartsWalk.{with_counts}
use Rattle.ak_gossip.proofs.parts.version_of.Given as goal

-- with the parts that are left it comes to what all come to
abbrev pub invariant-parts : goal.invariant-parts
invariant-parts l = with_counts l.version (drop l.part-index l.parts) ≡ with_counts map.empty l.parts
