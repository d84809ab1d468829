use Rattle.std.proofs.Common.{ap, ◌∙◌}
use Rattle.ak_address.specs.Uniques.{has}
use Rattle.ak_detector.specs.Detector.{silent, ticked}
use Rattle.ak_detector.proofs.DetectorLemmas.{silent_by_next}
use Rattle.ak_detector.proofs.detector.Detector.is_silent_next.Goals as goal

pub returns : goal.returns
returns c =
    c.is_above.ensures
    ∙ ap (λ them. has them c.args.who.now) (silent_by_next c.args.deadline c.requires c.self.inside.counters ∙ ap (λ counters. silent c.args.deadline (ticked c.args.deadline counters)) c.self.view_is)
