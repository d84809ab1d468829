use Rattle.ak_options.proofs.RequestLemmas.{as_line}
use Rattle.ak_options.proofs.laws.requests_are_lines.Goals as goal

pub returns : goal.returns
returns c = as_line
