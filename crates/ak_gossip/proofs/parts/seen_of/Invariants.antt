use Rattle.std.proofs.Common.{◌≡◌, drop}
use Rattle.ak_address.specs.Uniques.{no_one}
use Rattle.ak_gossip.specs.PartsWalk.{with_seen}
use Rattle.ak_gossip.proofs.parts.seen_of.Given as goal

-- with the parts that are left it comes to what all come to
abbrev pub invariant-parts : goal.invariant-parts
invariant-parts l = with_seen l.seen (drop l.part-index l.parts) ≡ with_seen no_one l.parts
