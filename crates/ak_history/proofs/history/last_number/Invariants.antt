use Rattle.std.proofs.Common.{◌≡◌, ◌-◌, take, reverse}
use Rattle.ak_history.specs.History.{entries_of}
use Rattle.ak_history.proofs.history.last_number.Given as goal

-- none of the newer entries is the author's
abbrev pub invariant-entries : goal.invariant-entries
invariant-entries l = entries_of l.author (reverse (take (l.many - l.back) l.entries)) ≡ entries_of l.author (reverse l.entries)
