use Rattle.ak_detector.proofs.DetectorLaws.{silent_watched, heard_not_silent, ticked_same}
use Rattle.ak_detector.proofs.laws.silent_ones_are_watched.Goals as goal

pub returns : goal.returns
returns c = record { watched = silent_watched; heard = heard_not_silent; ticked = ticked_same }
