use Rattle.ak_history.proofs.RowsShown.{one_row}
use Rattle.ak_history.proofs.StandingsShown.{one_standing}
use Rattle.ak_history.proofs.laws.entries_allow_one_view.Goals as goal

pub returns-clause-standing : goal.returns-clause-standing
returns-clause-standing c = one_standing

pub returns-clause-row : goal.returns-clause-row
returns-clause-row c = λ history v observer one other numbered. one_row history v observer numbered one other
