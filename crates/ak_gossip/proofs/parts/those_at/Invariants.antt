use Rattle.std.proofs.Common.{◌≡◌, drop}
use Rattle.ak_address.specs.Uniques.{no_one}
use Rattle.ak_gossip.specs.PartsWalk.{with_indices}
use Rattle.ak_gossip.proofs.parts.those_at.Given as goal

-- with the indices that are left it comes to what all come to
abbrev pub invariant-indices : goal.invariant-indices
invariant-indices l = with_indices l.parts l.them (drop l.index-index l.indices) ≡ with_indices l.parts no_one l.indices
