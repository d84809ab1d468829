use Rattle.std.proofs.Common.{sym, subst}
use Rattle.ak_gossip.specs.Gossip.{IsGossip}
use Rattle.ak_gossip.proofs.InvariantLemmas.{seen_by_kept}
use Rattle.ak_gossip.proofs.gossip.Gossip.take_newer.Goals as goal

pub invariant_of-drop : goal.invariant_of-drop
invariant_of-drop c = subst IsGossip (sym c.in_ok-known.ensures) (seen_by_kept c.args.me.now c.incoming.inside.known c.incoming.invariant)
