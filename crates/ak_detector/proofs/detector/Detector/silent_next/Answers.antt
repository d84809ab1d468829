use Rattle.std.proofs.Common.{◌≢◌, subst, ap, ◌∙◌}
use Rattle.ak_address.proofs.Failing.{on_err}
use Rattle.ak_address.specs.Uniques.{no_one}
use Rattle.ak_detector.specs.Detector.{silent, ticked}
use Rattle.ak_detector.proofs.DetectorLemmas.{silent_by_next}
use Rattle.ak_detector.proofs.detector.Detector.silent_next.Goals as goal

pub returns-clause-ok : goal.returns-clause-ok
returns-clause-ok c = (c.in_ok-them.ensures {u = tt}).ok ∙ silent_by_next c.args.deadline c.requires c.self.inside.counters ∙ ap (λ counters. silent c.args.deadline (ticked c.args.deadline counters)) c.self.view_is

pub returns-in_err-them-clause-memory : goal.returns-in_err-them-clause-memory
returns-in_err-them-clause-memory c = on_err _ (subst (λ s. s ≢ no_one) (silent_by_next c.args.deadline c.requires c.self.inside.counters ∙ ap (λ counters. silent c.args.deadline (ticked c.args.deadline counters)) c.self.view_is) (c.in_err-them.ensures {u = tt}).memory)
