use Rattle.ak_history.proofs.RowsShown.{rows_shown}
use Rattle.ak_history.proofs.StandingsShown.{standings_shown}
use Rattle.ak_history.proofs.laws.views_show_entries.Goals as goal

pub returns-clause-standing : goal.returns-clause-standing
returns-clause-standing c = standings_shown

pub returns-clause-row : goal.returns-clause-row
returns-clause-row c = rows_shown
