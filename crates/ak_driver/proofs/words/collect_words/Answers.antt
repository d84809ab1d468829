use Rattle.std.proofs.Common.{subst, sym, rules}
use Rattle.ak_driver.proofs.WordsLemmas.{SoFar, one_more, all_words}
use Rattle.ak_driver.proofs.words.collect_words.Goals as goal

pub words-preserved : goal.words-preserved
words-preserved g c =
    subst (SoFar (g.A.Arguments.arguments c.args.arguments.now)) (sym c.in_ok-push.ensures.items)
    (one_more (g.A.Arguments.arguments c.args.arguments.now) c.words.words.items c.in-Some.word c.words.invariant (search rules))

pub returns-clause-all : goal.returns-clause-all
returns-clause-all g c = all_words (g.A.Arguments.arguments c.args.arguments.now) c.words.words.items c.words.invariant (search rules)
