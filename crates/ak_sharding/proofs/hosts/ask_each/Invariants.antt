use Rattle.std.proofs.Common.{◌≡◌, ◌++◌, map, drop}
use Rattle.ak_wire.specs.declared.envelope.Message.TheVariants as message
use Rattle.ak_sharding.specs.Sharding.{to_process}
use Rattle.ak_sharding.proofs.hosts.ask_each.Given as goal

-- with the shards that are left, the homes of all are asked for
abbrev pub invariant-wanted : goal.invariant-wanted
invariant-wanted l =
    l.actions ++ map (λ shard. to_process l.me l.last.unique (message.GetHome l.last shard)) (drop l.shard-index l.wanted)
    ≡ l.fn.actions ++ map (λ shard. to_process l.me l.last.unique (message.GetHome l.last shard)) l.wanted
