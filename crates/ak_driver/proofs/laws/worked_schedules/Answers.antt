use Rattle.ak_driver.proofs.WorkedTexts.{empty, founding_text_is}
use Rattle.ak_driver.proofs.laws.worked_schedules.Goals as goal

pub returns : goal.returns
returns c = record { empty = empty; founding = founding_text_is }
