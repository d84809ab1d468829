use Rattle.ak_link.specs.Names.{AddsFound}
use Rattle.ak_link.proofs.names.find.Given as goal

abbrev pub invariant-addresses : goal.invariant-addresses
invariant-addresses g l =
    (goal.iterator-addresses g).can_next l.address-iterator ×
    (goal.iterator-addresses g).is_finite l.address-iterator ×
    AddsFound l.at.host l.initial.found.items l.found.items
