use Rattle.ak_schedule.specs.Line.{words}
use Rattle.ak_schedule.proofs.EventWords.{one_at}
use Rattle.ak_schedule.proofs.read.one_unique.Goals as goal

pub returns-in-Some : goal.returns-in-Some
returns-in-Some c = one_at (words c.args.rest.now) c.in-Some.word.now c.unique_of.result c.in-Some.ensures c.unique_of.ensures
