use Rattle.std.proofs.Common.{◌≡◌, drop}
use Rattle.ak_link.specs.Names.{is_found}
use Rattle.ak_link.proofs.names.is_found.Given as goal

abbrev pub invariant-hosts : goal.invariant-hosts
invariant-hosts l = is_found l.host l.found ≡ is_found l.host (drop l.one-index l.found)
