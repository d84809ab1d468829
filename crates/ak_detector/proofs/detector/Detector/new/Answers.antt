use Rattle.std.proofs.Common.{sym, ap, ◌∙◌}
use Rattle.ak_address.specs.Changed.{keys_of}
use Rattle.ak_detector.proofs.DetectorLemmas.{keys-none}
use Rattle.ak_detector.proofs.detector.Detector.new.Goals as goal

pub invariant_of-result : goal.invariant_of-result
invariant_of-result c = c.empty-watched.ensures ∙ keys-none ∙ sym (ap keys_of c.empty-counters.ensures)
