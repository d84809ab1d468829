use Rattle.std.proofs.Common.{◌≡◌, drop}
use Rattle.std.specs.List.{list_any}
use Rattle.std.specs.FinMap as map
use Rattle.ak_member.specs.Standing.{member_pairs}
use Rattle.ak_sight.specs.Sight.{is_otherwise, shows_otherwise}
use Rattle.ak_sight.proofs.sight.shows_otherwise.Given as goal

-- no member of the pairs so far is shown otherwise
abbrev pub invariant-pairs : goal.invariant-pairs
invariant-pairs l = shows_otherwise l.one.view l.other.view ≡ list_any (λ m. is_otherwise l.one.view l.other.view m.0) (member_pairs (drop l.pair (map.entries l.one.view.standings)))
