use Rattle.std.proofs.Common.{◌≡◌, drop}
use Rattle.ak_gossip.specs.PartsWalk.{ascend_from}
use Rattle.ak_gossip.proofs.parts.indices_ascend.Given as goal

-- the indices that are left ascend from the least on exactly where all do
abbrev pub invariant-indices : goal.invariant-indices
invariant-indices l = ascend_from l.least l.end (drop l.index-index l.indices) ≡ ascend_from 0 l.end l.indices
