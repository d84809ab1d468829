use Rattle.ak_settled.proofs.SettledLaws.{counting_none, counting_noted, counting_ticked}
use Rattle.ak_settled.proofs.laws.counting_goes_on.Goals as goal

pub returns : goal.returns
returns c = record { none = counting_none; noted = counting_noted; ticked = counting_ticked }
