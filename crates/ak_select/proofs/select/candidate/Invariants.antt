use Rattle.std.proofs.Common.{◌≡◌, drop, slice_get, option_copied}
use Rattle.std.specs.FinMap as map
use Rattle.ak_select.specs.Walk.{candidates_among}
use Rattle.ak_select.proofs.select.candidate.Given as goal

-- so many of the candidates that are left come before the one that is wanted
abbrev pub invariant-pairs : goal.invariant-pairs
invariant-pairs l =
    slice_get (candidates_among (record { standings = l.members; rows = l.rows }) l.me (option_copied l.seen) (drop l.pair (map.entries l.members))) l.left
    ≡ slice_get (candidates_among (record { standings = l.members; rows = l.rows }) l.me (option_copied l.seen) (map.entries l.members)) l.index
