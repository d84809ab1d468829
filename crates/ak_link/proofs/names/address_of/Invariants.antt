use Rattle.std.proofs.Common.{◌≡◌, drop}
use Rattle.ak_link.specs.Names.{address_of}
use Rattle.ak_link.proofs.names.address_of.Given as goal

abbrev pub invariant-hosts : goal.invariant-hosts
invariant-hosts l = address_of l.host l.v4 l.found ≡ address_of l.host l.v4 (drop l.one-index l.found)
