use Rattle.std.proofs.Common.{◌≡◌, ℕ, ◌<◌, Some, slice_get}
use Rattle.std.specs.FinMap as map
use Rattle.ak_address.specs.Unique.{IsUnique}
use Rattle.ak_wire.specs.Datagram.{Process}
use Rattle.ak_wire.proofs.checking.processes.Given as goal

abbrev pub invariant-members : goal.invariant-members
invariant-members l = (i : ℕ) (pair : Process) → i < l.index → slice_get (map.entries l.members) i ≡ Some pair → IsUnique pair.0
