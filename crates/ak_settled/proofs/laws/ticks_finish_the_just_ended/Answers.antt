use Rattle.ak_settled.proofs.SettledLaws.{ticked_finished, ended_anew}
use Rattle.ak_settled.proofs.laws.ticks_finish_the_just_ended.Goals as goal

pub returns : goal.returns
returns c = record { finished = ticked_finished; ended = ended_anew }
