use Rattle.ak_outside.proofs.LineLemmas.{no_cause}
use Rattle.ak_outside.proofs.lines.LineReader.next.Goals as goal

pub returns-in-Some-clause-cause : goal.returns-in-Some-clause-cause
returns-in-Some-clause-cause g c = no_cause c.in-Some.next (g.S.Source.faults c.args.input.now) (g.S.Source.faults c.reads.input) c.in-Some.ensures.never_failed c.reads.invariant.0
