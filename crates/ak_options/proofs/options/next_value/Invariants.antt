use Rattle.std.proofs.Common.{◌≡◌, List, length}
use Rattle.ak_options.specs.Options.{Pair, words_of}
use Rattle.ak_options.proofs.OptionLemmas.{HasAll}
use Rattle.ak_options.proofs.options.next_value.Given as goal

-- the pairs that were passed have other names, so that what has the name is all in those that are left
abbrev pub invariant-pairs : goal.invariant-pairs
invariant-pairs l = (pairs : List Pair) → l.words ≡ words_of pairs → HasAll l.name pairs l.left

-- each pair takes two words away
abbrev pub decreases-pairs : goal.decreases-pairs
decreases-pairs l = length l.left
