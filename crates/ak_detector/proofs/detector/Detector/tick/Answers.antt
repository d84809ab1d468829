use Rattle.std.proofs.Common.{sym, ap, ◌∙◌}
use Rattle.ak_address.specs.Changed.{keys_of}
use Rattle.ak_detector.proofs.DetectorLemmas.{keys-ticked}
use Rattle.ak_detector.proofs.detector.Detector.tick.Goals as goal

pub invariant_of-self : goal.invariant_of-self
invariant_of-self c = c.self.invariant ∙ sym (ap keys_of c.raise_all.ensures ∙ keys-ticked c.args.deadline c.self.inside.counters)
