use Rattle.std.proofs.Common.{ap, ◌∙◌, sym}
use Rattle.ak_address.specs.Changed.{keys_of}
use Rattle.ak_detector.specs.Detector.{watching}
use Rattle.ak_detector.proofs.RingLaws.{watches_on}
use Rattle.ak_detector.proofs.detector.Detector.watches_already.Goals as goal

pub returns-clause-same : goal.returns-clause-same
returns-clause-same c = λ deadline is.
    ap (watching c.args.me.now c.args.members.now deadline) (sym c.self.view_is)
    ∙ watches_on c.args.me.now c.args.members.now deadline c.self.inside.counters c.self.inside.watched c.self.invariant (c.is_ring.ensures.0 is)
    ∙ c.self.view_is

pub returns-clause-ring : goal.returns-clause-ring
returns-clause-ring c =
    let keys = ap keys_of (sym c.self.view_is) in (
      λ is. keys ∙ sym c.self.invariant ∙ c.is_ring.ensures.0 is,
      λ ring. c.is_ring.ensures.1 (c.self.invariant ∙ sym keys ∙ ring),
    )
