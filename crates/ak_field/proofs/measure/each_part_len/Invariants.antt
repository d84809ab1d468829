use Rattle.std.proofs.Common.{◌≤◌, ◌*◌}
use Rattle.ak_field.specs.Parts.{part}
use Rattle.ak_field.proofs.Measured.{Measured}
use Rattle.ak_field.proofs.measure.each_part_len.Given as goal

abbrev pub invariant-list : goal.invariant-list
invariant-list l = record { sum : Measured part l.list l.one-index l.total; few : l.total ≤ 230 * l.one-index }
