use Rattle.std.proofs.Common.{◌≡◌, ◌++◌, length}
use Rattle.ak_schedule.specs.Line.{words}
use Rattle.ak_schedule.proofs.header.words_of.Given as goal

-- the words that were seen, and those that come after them
abbrev pub invariant-words : goal.invariant-words
invariant-words l = l.texts.items ++ words l.rest ≡ words l.line

abbrev pub decreases-words : goal.decreases-words
decreases-words l = length l.rest
