use Rattle.std.proofs.Common.{◌≡◌, drop}
use Rattle.ak_member.specs.Standing.{nobody}
use Rattle.ak_gossip.specs.PartsWalk.{with_standings}
use Rattle.ak_gossip.proofs.parts.members_of.Given as goal

-- with the parts that are left it comes to what all come to
abbrev pub invariant-parts : goal.invariant-parts
invariant-parts l = with_standings l.members (drop l.part-index l.parts) ≡ with_standings nobody l.parts
