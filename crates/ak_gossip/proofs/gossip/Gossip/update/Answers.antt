use Rattle.std.proofs.Common.{sym, ap, ◌∙◌, subst}
use Rattle.ak_address.specs.Uniques.{UniqueSet, with_one}
use Rattle.ak_gossip.specs.Gossip.{IsGossip}
use Rattle.ak_gossip.specs.Ownership.{said_by}
use Rattle.ak_gossip.proofs.gossip.Gossip.update.Goals as goal

pub invariant_of-drop : goal.invariant_of-drop
invariant_of-drop c =
    subst IsGossip (sym (c.in_ok-known.ensures ∙ ap (said_by c.in_ok-tables.tables) (c.in_ok-insert.ensures.ok ∙ ap (λ (s : UniqueSet). with_one s c.args.author.now) c.empty-only_author.ensures)))
    c.in_ok-tables.ensures.lawful
