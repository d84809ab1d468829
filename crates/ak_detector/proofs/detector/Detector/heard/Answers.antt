use Rattle.std.proofs.Common.{if◌then◌else◌, sym, ap, ◌∙◌}
use Rattle.std.specs.FinMap as map
use Rattle.ak_address.specs.Changed.{keys_of}
use Rattle.ak_detector.proofs.DetectorLemmas.{keys-heard}
use Rattle.ak_detector.proofs.detector.Detector.heard.Goals as goal

pub invariant_of-self : goal.invariant_of-self
invariant_of-self c =
    let before = c.self.inside.counters in
    c.self.invariant
    ∙ sym (ap keys_of (c.update.ensures.after ∙ ap (λ b. if b then map.insert before c.args.who.now 0 else before) c.update.ensures.has) ∙ keys-heard c.args.who.now before)
