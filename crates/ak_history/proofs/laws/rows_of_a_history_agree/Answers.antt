use Rattle.ak_history.proofs.RowsShown.{rows-agree}
use Rattle.ak_history.proofs.laws.rows_of_a_history_agree.Goals as goal

pub returns : goal.returns
returns c = rows-agree
