use Rattle.std.proofs.Common.{◌≡◌, drop}
use Rattle.std.specs.List.{fold}
use Rattle.std.specs.FinMap as map
use Rattle.ak_address.specs.Uniques.{in_order}
use Rattle.ak_address.specs.Counters.{counter}
use Rattle.ak_detector.proofs.detector.counters_for.Given as goal

-- with those that are left, all are there
abbrev pub invariant-watched : goal.invariant-watched
invariant-watched l =
    fold (λ c who. map.insert c who (counter l.before who)) l.counters (drop l.index (in_order l.watched)) ≡ fold (λ c who. map.insert c who (counter l.before who)) map.empty (in_order l.watched)
