use Rattle.std.proofs.Common.{◌-◌, ◌^◌, length}
use Rattle.ak_driver.proofs.WordsLemmas.{SoFar}
use Rattle.ak_driver.proofs.words.collect_words.Given as goal

-- the words that are kept are all before the next one, since how many they are says which argument comes next
abbrev pub invariant-words : goal.invariant-words
invariant-words g l = SoFar (g.A.Arguments.arguments l.arguments) l.words.items

-- a list has fewer words than there are numbers
abbrev pub decreases-words : goal.decreases-words
decreases-words g l = 2 ^ 64 - length l.words.items
