use Rattle.std.proofs.Common.{◌≡◌}
use Rattle.ak_address.specs.Start.{first_bytes}
use Rattle.ak_address.proofs.text.start_of.Given as goal

-- the bytes before the place, as a number
abbrev pub invariant-places : goal.invariant-places
invariant-places l = l.start ≡ first_bytes l.place l.bytes
