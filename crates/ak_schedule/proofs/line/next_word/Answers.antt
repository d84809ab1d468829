use Rattle.ak_schedule.proofs.Cutting.{no_word, word_cut, word_to_the_end}
use Rattle.ak_schedule.proofs.line.next_word.Goals as goal

pub returns-in_default : goal.returns-in_default
returns-in_default c = no_word c.args.line.now c.in_default.ensures

pub returns-in-Some-cut : goal.returns-in-Some-cut
returns-in-Some-cut c = word_cut c.args.line.now c.in-Some-cut.word.now c.in-Some-cut.rest.now c.in-Some.spaces c.in-Some.ensures c.in-Some-cut.ensures

pub returns-in-None : goal.returns-in-None
returns-in-None c = word_to_the_end c.args.line.now c.in-Some.spaces c.in-Some.ensures c.in-None.ensures
