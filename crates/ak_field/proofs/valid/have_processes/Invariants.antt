use Rattle.std.proofs.Common.{◌≡◌, ℕ, ◌<◌, Some, slice_get}
use Rattle.ak_address.specs.Unique.{IsUnique}
use Rattle.ak_gossip.specs.declared.part.Part.{Part}
use Rattle.ak_field.proofs.valid.have_processes.Given as goal

abbrev pub invariant-list : goal.invariant-list
invariant-list l = (i : ℕ) (p : Part) → i < l.one-index → slice_get l.list i ≡ Some p → IsUnique p.unique
