use Rattle.ak_singleton.proofs.NeededLemmas.{NobodyBefore}
use Rattle.ak_singleton.proofs.needed.has_all_needed.Given as goal

-- nobody before the pair is needed and is none of these
abbrev pub invariant-pairs : goal.invariant-pairs
invariant-pairs l = NobodyBefore l.margin l.settled.view l.these l.pair
