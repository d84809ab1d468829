use Rattle.ak_sweeps.proofs.LineLaws.{keeps_apart}
use Rattle.ak_sweeps.proofs.laws.kept_margins_mean_no_doubles.Goals as goal

pub returns : goal.returns
returns c = keeps_apart
