use Rattle.std.proofs.Common.{◌≡◌, ◌++◌, drop}
use Rattle.ak_sharding.specs.Sharding.{routes_each}
use Rattle.ak_sharding.proofs.sharding.Sharding.routes_each.Given as goal

-- with the messages that are left, all are routed
abbrev pub invariant-messages : goal.invariant-messages
invariant-messages l = record {
  state : (routes_each l.me (drop l.message-index l.messages) l.self).0 ≡ (routes_each l.me l.messages l.fn.self).0;
  actions : l.actions ++ (routes_each l.me (drop l.message-index l.messages) l.self).1 ≡ l.fn.actions ++ (routes_each l.me l.messages l.fn.self).1;
}
