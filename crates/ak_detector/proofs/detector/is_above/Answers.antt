use Rattle.std.proofs.Common.{sym, ap, ◌∙◌}
use Rattle.ak_detector.proofs.DetectorLemmas.{is_silent_by, has-silent}
use Rattle.ak_detector.proofs.detector.is_above.Goals as goal

pub returns-in-Some : goal.returns-in-Some
returns-in-Some c = sym (has-silent c.args.deadline c.args.counters.now c.args.who.now ∙ ap (is_silent_by c.args.deadline) (sym c.in-Some.ensures))

pub returns-in-None : goal.returns-in-None
returns-in-None c = sym (has-silent c.args.deadline c.args.counters.now c.args.who.now ∙ ap (is_silent_by c.args.deadline) (sym c.in-None.ensures))
