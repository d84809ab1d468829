use Rattle.ak_leader.proofs.LedLaws.{owes_exit, owes_confirmed, owes_removal, owes_rise}
use Rattle.ak_leader.proofs.laws.leaders_effects_are_all.Goals as goal

pub returns : goal.returns
returns c = record { exits = owes_exit; confirmed = owes_confirmed; unconfirmed = owes_removal; rises = owes_rise }
