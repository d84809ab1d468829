use Rattle.ak_leader.proofs.NumberLaws.{numbers_above, numbers_bounded, numbers_rise}
use Rattle.ak_leader.proofs.laws.leaders_numbers_rise.Goals as goal

pub returns : goal.returns
returns c = record { above = numbers_above; bounded = numbers_bounded; rising = numbers_rise }
