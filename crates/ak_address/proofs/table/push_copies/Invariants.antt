use Rattle.std.proofs.Common.{◌≡◌, ◌++◌, take}
use Rattle.ak_address.proofs.table.push_copies.Given as goal

-- the pairs so far stand after those that were there
abbrev pub invariant-pairs : goal.invariant-pairs
invariant-pairs g l = l.pairs.items ≡ l.initial.pairs.items ++ take l.pair-index l.more
