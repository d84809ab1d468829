use Rattle.std.proofs.Common.{◌≡◌, take, reverse}
use Rattle.ak_history.specs.Walk.{with_all_covered}
use Rattle.ak_history.proofs.history.shown_by.Given as goal

-- what is seen of the entries so far
abbrev pub invariant-entries : goal.invariant-entries
invariant-entries l = l.shown ≡ with_all_covered l.version (reverse (take l.entry-index l.entries))
