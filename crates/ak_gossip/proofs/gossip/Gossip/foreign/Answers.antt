use Rattle.std.proofs.Common.{subst}
use Rattle.ak_clock.specs.Version.{Relates}
use Rattle.ak_gossip.proofs.SeenLemmas.{not_foreign_same, not_foreign_after}
use Rattle.ak_gossip.proofs.gossip.Gossip.foreign.Goals as goal

pub returns-in-Same : goal.returns-in-Same
returns-in-Same c =
    let v = c.args.self.now.version in
    let w = c.args.incoming.now.version in
    not_foreign_same v w c.args.me.now (subst (λ r. Relates r v w) c.in-Same.is c.requires)

pub returns-in-After : goal.returns-in-After
returns-in-After c =
    let v = c.args.self.now.version in
    let w = c.args.incoming.now.version in
    not_foreign_after v w c.args.me.now (subst (λ r. Relates r v w) c.in-After.is c.requires)
