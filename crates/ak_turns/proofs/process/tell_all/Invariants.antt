use Rattle.std.proofs.Common.{◌≡◌, drop}
use Rattle.ak_node.specs.Sends.{AreValid}
use Rattle.ak_turns.specs.Outside.{wire}
use Rattle.ak_turns.proofs.SendLemmas.{Told}
use Rattle.ak_turns.proofs.process.tell_all.Given as goal

-- by the actions that are left, since how the link answers their sends is known only once they are asked
abbrev pub invariant-actions : goal.invariant-actions
invariant-actions g l =
    Told l.gossip l.first l.actions l.initial.out.items
    (wire (g.L.Link.bound l.initial.link) (g.L.Link.sends l.initial.link) (g.L.Link.losses l.initial.link) (g.L.Link.coming l.initial.link))
    l.number (drop l.action-index l.actions) l.out.items
    (wire (g.L.Link.bound l.link) (g.L.Link.sends l.link) (g.L.Link.losses l.link) (g.L.Link.coming l.link))
    × AreValid (drop l.action-index l.actions)
    × (g.L.Link.faults l.link ≡ g.L.Link.faults l.initial.link)
