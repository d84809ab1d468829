use Rattle.std.proofs.Common.{◌∙◌, sym, subst}
use Rattle.ak_address.specs.Uniques.{those, union}
use Rattle.ak_member.specs.Standing.{is_member}
use Rattle.ak_gossip.specs.Gossip.{IsGossip, same}
use Rattle.ak_gossip.proofs.InvariantLemmas.{seen_by_kept, same_kept}
use Rattle.ak_gossip.proofs.SeenLemmas.{seen_by_as}
use Rattle.ak_gossip.proofs.gossip.Gossip.take_same.Goals as goal

pub invariant_of-self : goal.invariant_of-self
invariant_of-self c =
    subst IsGossip
    (sym (c.in_ok-known.ensures
    ∙ seen_by_as c.args.me.now (same c.self.inside.known c.incoming.inside.known) c.members-members.result.now c.add_member.new.seen c.add_members.new.seen
    c.members-members.ensures
    (c.in_ok-add_members.ensures ∙ (λ i. union ((c.in_ok-seen.ensures.ok ∙ c.seen.ensures) i) (those (c.seen-2.ensures i) (is_member (c.members-members.ensures i)))))
    c.in_ok-add_member.ensures))
    (seen_by_kept c.args.me.now (same c.self.inside.known c.incoming.inside.known) (same_kept c.self.inside.known c.incoming.inside.known c.self.invariant))
