use Rattle.std.proofs.Common.{◌≤◌, ◌*◌}
use Rattle.std.specs.FinMap as map
use Rattle.ak_field.specs.Spelling.{counted}
use Rattle.ak_field.proofs.Measured.{Measured}
use Rattle.ak_field.proofs.measure.counts_len.Given as goal

abbrev pub invariant-counts : goal.invariant-counts
invariant-counts l = record { sum : Measured counted (map.entries l.counts) l.index l.total; few : l.total ≤ 83 * l.index }
