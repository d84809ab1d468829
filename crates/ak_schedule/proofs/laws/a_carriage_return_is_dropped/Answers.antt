use Rattle.ak_schedule.proofs.LineParts.{cr_goes, others_stay}
use Rattle.ak_schedule.proofs.laws.a_carriage_return_is_dropped.Goals as goal

pub returns : goal.returns
returns c = record { dropped = cr_goes; others = others_stay }
