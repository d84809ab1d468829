use Rattle.ak_address.proofs.TableLaws.{get-merged_tables}
use Rattle.ak_address.proofs.laws.merges_are_pointwise.Goals as goal

pub returns : goal.returns
returns g c = λ m n q. get-merged_tables g.V.Merge.merged m n q
