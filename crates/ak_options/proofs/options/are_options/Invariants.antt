use Rattle.std.proofs.Common.{◌↔◌, length, map}
use Rattle.ak_options.proofs.OptionLemmas.{AreOptions}
use Rattle.ak_options.proofs.options.are_options.Given as goal

-- each pair that was passed has one of the names, so that it is for the words that are left to decide
abbrev pub invariant-pairs : goal.invariant-pairs
invariant-pairs l = AreOptions (map (λ one. one.now) l.names) l.words ↔ AreOptions (map (λ one. one.now) l.names) l.left

-- each pair takes two words away
abbrev pub decreases-pairs : goal.decreases-pairs
decreases-pairs l = length l.left
