use Rattle.std.proofs.Common.{sym, subst}
use Rattle.ak_gossip.specs.Gossip.{IsGossip}
use Rattle.ak_gossip.proofs.InvariantLemmas.{nothing_kept}
use Rattle.ak_gossip.proofs.gossip.Gossip.empty.Goals as goal

pub invariant_of-result : goal.invariant_of-result
invariant_of-result c = subst IsGossip (sym c.nothing.ensures) nothing_kept
