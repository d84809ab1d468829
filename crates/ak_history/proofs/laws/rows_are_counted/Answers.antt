use Rattle.ak_history.proofs.RowsShown.{rows-counted}
use Rattle.ak_history.proofs.laws.rows_are_counted.Goals as goal

pub returns : goal.returns
returns c = rows-counted
