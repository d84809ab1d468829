use Rattle.ak_clock.proofs.VersionLaws.{covers_itself, covers_along, covers_both_ways}
use Rattle.ak_clock.proofs.laws.covering_is_an_order.Goals as goal

pub returns : goal.returns
returns c = record { reflexive = covers_itself; transitive = covers_along; antisymmetric = covers_both_ways }
