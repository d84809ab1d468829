use Rattle.ak_address.proofs.TableLaws.{get-merged_tables}
use Rattle.ak_member.specs.View.{later_row}
use Rattle.ak_member.proofs.ViewLaws.{rows_idempotent, rows_associative, rows_commutative}
use Rattle.ak_reach.proofs.laws.rows_are_merged.Goals as goal

pub returns : goal.returns
returns c = record { pointwise = get-merged_tables later_row; idempotent = rows_idempotent; associative = rows_associative; commutative = rows_commutative }
