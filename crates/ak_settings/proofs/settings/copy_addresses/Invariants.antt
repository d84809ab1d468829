use Rattle.std.proofs.Common.{◌≡◌, take}
use Rattle.ak_settings.proofs.settings.copy_addresses.Given as goal

-- as many as were seen
abbrev pub invariant-addresses : goal.invariant-addresses
invariant-addresses l = l.copies.items ≡ take l.each-index l.listed
