use Rattle.ak_world.proofs.InRunLemmas.{run_alone}
use Rattle.ak_world.proofs.laws.one_process_runs_at_an_address.Goals as goal

pub returns : goal.returns
returns c = run_alone
