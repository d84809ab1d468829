use Rattle.ak_world.proofs.MarginRuns.{untold_runs, runs_untold}
use Rattle.ak_world.proofs.laws.margins_break_where_members_run.Goals as goal

pub returns : goal.returns
returns c = record {
  runs = λ settings events time place node who. untold_runs settings events time place who node;
  untold = λ settings events time place node who. runs_untold settings events time place who node;
}
