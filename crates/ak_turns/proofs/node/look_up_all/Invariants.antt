use Rattle.std.proofs.Common.{◌≡◌}
use Rattle.ak_turns.specs.Outside.{wire}
use Rattle.ak_turns.proofs.node.look_up_all.Given as goal

-- the link has neither bound, sent, lost nor heard, and has not failed
abbrev pub invariant-listed : goal.invariant-listed
invariant-listed g l =
    (wire (g.L.Link.bound l.link) (g.L.Link.sends l.link) (g.L.Link.losses l.link) (g.L.Link.coming l.link)
    ≡ wire (g.L.Link.bound l.initial.link) (g.L.Link.sends l.initial.link) (g.L.Link.losses l.initial.link) (g.L.Link.coming l.initial.link))
    × (g.L.Link.faults l.link ≡ g.L.Link.faults l.initial.link)
