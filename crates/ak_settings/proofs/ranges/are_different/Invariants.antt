use Rattle.std.proofs.Common.{◌≡◌, drop}
use Rattle.ak_settings.specs.Settings.{all_different}
use Rattle.ak_settings.proofs.ranges.are_different.Given as goal

abbrev pub invariant-addresses : goal.invariant-addresses
invariant-addresses l = all_different l.listed ≡ all_different (drop l.i l.listed)
