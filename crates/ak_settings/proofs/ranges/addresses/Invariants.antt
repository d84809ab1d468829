use Rattle.std.proofs.Common.{take}
use Rattle.std.specs.List.{AllByRecursion}
use Rattle.ak_address.specs.Unique.{IsAddress}
use Rattle.ak_settings.proofs.ranges.addresses.Given as goal

abbrev pub invariant-addresses : goal.invariant-addresses
invariant-addresses l = AllByRecursion IsAddress (take l.each-index l.listed)
