use Rattle.std.proofs.Common.{◌≡◌, ℕ, ◌<◌, Some, slice_get}
use Rattle.std.specs.FinMap as map
use Rattle.ak_address.specs.Unique.{UniqueModel, IsUnique}
use Rattle.ak_field.specs.Ranges.{IsNumber}
use Rattle.ak_field.proofs.valid.are_counted.Given as goal

abbrev pub invariant-counts : goal.invariant-counts
invariant-counts l = (i : ℕ) (pair : UniqueModel × ℕ) → i < l.index → slice_get (map.entries l.counts) i ≡ Some pair → IsUnique pair.0 × IsNumber pair.1
