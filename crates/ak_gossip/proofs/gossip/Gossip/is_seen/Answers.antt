use Rattle.std.proofs.Common.{sym, ◌∙◌}
use Rattle.ak_address.specs.Uniques.{those, union}
use Rattle.ak_member.specs.Standing.{is_member}
use Rattle.ak_gossip.specs.Gossip.{GossipState, seen_by, same}
use Rattle.ak_gossip.proofs.SeenLemmas.{among_all, seen_by_as}
use Rattle.ak_gossip.proofs.gossip.Gossip.is_seen.Goals as goal

pub returns-then-are_among : goal.returns-then-are_among
returns-then-are_among c has_it =
    let known : GossipState = c.self.inside.known in
    let heard : GossipState = c.incoming.inside.known in
    let them = c.seen-seen.result.now in
    sym c.self.view_is
    ∙ (λ i. record known { seen = sym c.seen-seen.ensures i })
    ∙ seen_by_as c.args.me.now (same known heard) c.members.result.now them them c.members.ensures
    (among_all them c.seen.result.now (c.are_among.ensures c.if-are_among.true) (is_member known.view.standings)
    ∙ (λ i. union (c.seen-seen.ensures i) (those (c.seen.ensures i) (is_member known.view.standings))))
    (c.has_member.ensures has_it)
    ∙ (λ i. seen_by c.args.me.now (same (c.self.view_is i) (c.incoming.view_is i)))
