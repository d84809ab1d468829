use Rattle.std.proofs.Common.{◌≡◌, take, fold}
use Rattle.std.specs.FinMap as map
use Rattle.ak_packet.specs.Hashed.{plus}
use Rattle.ak_packet.proofs.hashing.total.Given as goal

abbrev pub invariant-counts : goal.invariant-counts
invariant-counts l = l.sum ≡ fold plus 0 (take l.index (map.entries l.version))
