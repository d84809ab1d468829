use Rattle.std.proofs.Common.{◌≡◌, None, drop, option_copied}
use Rattle.ak_gossip.specs.PartsWalk.{ascend_after}
use Rattle.ak_gossip.proofs.parts.uniques_ascend.Given as goal

-- the parts that are left ascend after the last one exactly where all do
abbrev pub invariant-parts : goal.invariant-parts
invariant-parts l = ascend_after (option_copied l.last) (drop l.part-index l.parts) ≡ ascend_after None l.parts
