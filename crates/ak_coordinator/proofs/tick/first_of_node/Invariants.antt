use Rattle.std.proofs.Common.{◌≡◌, drop}
use Rattle.ak_coordinator.specs.Tick.{first_from, leaves_node}
use Rattle.ak_coordinator.proofs.tick.first_of_node.Given as goal

-- none of those before the shard passes
abbrev pub invariant-shards : goal.invariant-shards
invariant-shards l = first_from l.shard (leaves_node l.who) (drop l.shard l.entries) ≡ first_from 0 (leaves_node l.who) l.entries
