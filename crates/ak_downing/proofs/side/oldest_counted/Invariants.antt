use Rattle.std.proofs.Common.{option_map}
use Rattle.std.specs.FinMap as map
use Rattle.ak_downing.proofs.LeastLemmas.{LeastTo}
use Rattle.ak_downing.proofs.side.oldest_counted.Given as goal

abbrev pub invariant-pairs : goal.invariant-pairs
invariant-pairs l = LeastTo l.role (option_map (λ r. (r.0.now, r.1)) l.oldest) (map.entries l.members) l.pair
