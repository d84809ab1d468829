use Rattle.ak_options.proofs.PairLaws.{any_order}
use Rattle.ak_options.proofs.laws.pairs_come_in_any_order.Goals as goal

pub returns : goal.returns
returns c = any_order
